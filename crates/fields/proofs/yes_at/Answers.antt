-- `yes_at` meets its contract.
use mathlib.Core.Path.{◌∙◌}
use borrow.Author.Rules.{rules}
use Rattle.fields.proofs.InPlace.{yes_few, yes_other, yes_no, yes_yes, yes_neither}
use Rattle.fields.proofs.yes_at.Goals.{then-s-at-lt2-via-then-s-at-lt2, then-s-at-lt2-via-else-s-at-lt2+then-s-at-ne-TAB}
use Rattle.fields.proofs.yes_at.Goals as goal

pub returns-then-s-at-lt2 : goal.returns-then-s-at-lt2
returns-then-s-at-lt2 c =
    c.unread.ensures
    ∙ elim c.then-s-at-lt2.branch [
      | then-s-at-lt2-via-then-s-at-lt2 w ↦ yes_few _ _ c.requires w.if-s-at-lt2.true
      | then-s-at-lt2-via-else-s-at-lt2+then-s-at-ne-TAB w ↦ search (yes_other, rules)
    ]

pub returns-in-48 : goal.returns-in-48
returns-in-48 c = search (yes_no, rules)

pub returns-in-49 : goal.returns-in-49
returns-in-49 c = search (yes_yes, rules)

pub returns-in_default : goal.returns-in_default
returns-in_default c = c.unread-in_default.ensures ∙ search (yes_neither, rules)
