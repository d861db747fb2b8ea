-- `is_in_place` meets its contract.
use Rattle.std.proofs.Common.{rules, tests, eqb}
use mathlib.Core.Path.{◌∙◌}
use Rattle.std.proofs.lemmas.Iterator.{YieldsList-from_slice}
use Rattle.std.proofs.lemmas.Iterator.Search.{all_from_yields_List}
use Rattle.table.proofs.Order.{place_is}
use Rattle.table.proofs.draft.is_in_place.Goals as goal

pub returns : goal.returns
returns c =
    all_from_yields_List (λ n. eqb n 0) _ _ c.all.result c.all.ensures.ran (YieldsList-from_slice _ c.iter.ensures.rest) (λ x b q k. search (rules, tests))
    ∙ place_is c.args.counts.now c.requires.0 c.args.k c.requires.1
