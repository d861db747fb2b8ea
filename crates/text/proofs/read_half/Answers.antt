-- `read_half` meets its contract.
use borrow.Author.Rules.{rules}
use native.Mathlib.Omega.{arith}
use Rattle.text.proofs.Spelling.{power_fits}
use Rattle.text.proofs.Halves.{half_fits}
use Rattle.text.proofs.read_half.Goals as goal

pub read_digits-requires : goal.read_digits-requires
read_digits-requires c = (search rules, search rules, power_fits 16 _ 16 (search rules) (search half_fits) (omega arith))
