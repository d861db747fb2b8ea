-- `all_made` meets its contract.
use Rattle.std.proofs.Common.{rules, tests, eqb}
use mathlib.Core.Path.{◌∙◌}
use Rattle.std.proofs.lemmas.Iterator.{YieldsList-from_slice}
use Rattle.std.proofs.lemmas.Iterator.Search.{all_from_yields_List}
use Rattle.table.proofs.Marking.{made_from}
use Rattle.table.proofs.draft.all_made.Goals as goal

pub returns : goal.returns
returns c =
    all_from_yields_List (λ m. eqb m 1) _ _ c.all.result c.all.ensures.ran (YieldsList-from_slice _ c.iter.ensures.rest) (λ x b q k. search (rules, tests))
    ∙ made_from c.args.marks.now c.args.from c.args.n c.requires
