-- `past_set` meets its contract.
use Rattle.fields.proofs.Standing.{set_few, no_tab, set_behind}
use Rattle.fields.proofs.past_set.Goals.{then-s-at-lt2-via-then-s-at-lt2, then-s-at-lt2-via-else-s-at-lt2+then-s-at-ne-TAB}
use Rattle.fields.proofs.past_set.Goals as goal

pub returns-then-s-at-lt2 : goal.returns-then-s-at-lt2
returns-then-s-at-lt2 c =
    elim c.then-s-at-lt2.branch [
      | then-s-at-lt2-via-then-s-at-lt2 w ↦ set_few _ _ _ c.requires w.if-s-at-lt2.true
      | then-s-at-lt2-via-else-s-at-lt2+then-s-at-ne-TAB w ↦ search (no_tab)
    ]

pub returns : goal.returns
returns c = search (set_behind)
