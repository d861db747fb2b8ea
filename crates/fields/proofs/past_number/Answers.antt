-- `past_number` meets its contract.
use Rattle.fields.proofs.Standing.{number_few, no_tab, other_digit, same_digit, behind_tab}
use Rattle.fields.proofs.past_number.Goals.{then-s-at-lt2-via-then-s-at-lt2, then-s-at-lt2-via-else-s-at-lt2+then-s-at-ne-TAB}
use Rattle.fields.proofs.past_number.Goals as goal

pub returns-then-s-at-lt2 : goal.returns-then-s-at-lt2
returns-then-s-at-lt2 c =
    elim c.then-s-at-lt2.branch [
      | then-s-at-lt2-via-then-s-at-lt2 w ↦ number_few _ _ _ c.requires w.if-s-at-lt2.true
      | then-s-at-lt2-via-else-s-at-lt2+then-s-at-ne-TAB w ↦ search (no_tab)
    ]

pub returns-then-v-ge10 : goal.returns-then-v-ge10
returns-then-v-ge10 c = search (behind_tab)

pub returns-then-s-at : goal.returns-then-s-at
returns-then-s-at c = search (other_digit)

pub returns : goal.returns
returns c = search (same_digit)
