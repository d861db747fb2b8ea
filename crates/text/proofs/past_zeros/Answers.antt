-- `past_zeros` meets its contract.
use mathlib.Core.Bool.{not}
use lib.Dec.{eqb}
use borrow.Author.Rules.{rules}
use borrow.Author.Tests.{tests}
use Rattle.std.proofs.lemmas.Iterator.{YieldsList-from_slice}
use Rattle.std.proofs.lemmas.Iterator.Search.{position_from_yields_List}
use Rattle.text.proofs.Spelling.{zeros_past}
use Rattle.text.proofs.past_zeros.Goals as goal

pub returns : goal.returns
returns c =
    zeros_past c.args.s.now _ _ (position_from_yields_List (λ b. not (eqb b 48)) _ _ _ c.position.ensures.ran (YieldsList-from_slice c.args.s.now cc) (λ x b q k. search (rules, tests))) c.unwrap_or.ensures
