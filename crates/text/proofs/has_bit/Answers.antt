-- `has_bit` meets its contract.
use borrow.Author.Rules.{rules}
use Rattle.text.specs.Set.{bit}
use Rattle.text.proofs.has_bit.Goals as goal

pub returns : goal.returns
unfolding bit
returns c = search rules
