-- `kind_in` meets its contract.
use Rattle.std.proofs.Common.{rules, tests}
use mathlib.Core.Path.{refl, ◌∙◌}
use Rattle.std.specs.Slice.Iter.{iter_rest}
use Rattle.std.proofs.lemmas.Iterator.{YieldsList-from_slice}
use Rattle.std.proofs.lemmas.Iterator.Search.{position_from_yields_List}
use Rattle.std.proofs.lemmas.Iterator.Adapters.{position_from-zero}
use Rattle.row.specs.Kinds.{kind_in}
use Rattle.row.proofs.Tables.{spells, place_among}
use Rattle.row.proofs.kind_in.Goals as goal

pub returns : goal.returns
unfolding kind_in
returns c =
    let p = c.args.p.now in
    let all = iter_rest c.iter.result in
    position_from_yields_List (spells p) _ _ c.position.result c.position.ensures.ran (YieldsList-from_slice all refl) (λ x b q k. search (rules, tests))
    ∙ position_from-zero (spells p) all ∙ place_among p 0 all ∙ rw c.iter.ensures.rest refl
