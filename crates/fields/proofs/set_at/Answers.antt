-- `set_at` meets its contract.
use mathlib.Core.Path.{refl, ◌∙◌}
use borrow.Author.Rules.{rules}
use Rattle.fields.proofs.InPlace.{set_few, set_other, set_empty, set_bad, set_taken}
use Rattle.fields.proofs.set_at.Goals.{then-s-at-via-then-s-at, then-s-at-via-else-s-at+then-s-at-ne-TAB}
use Rattle.fields.proofs.set_at.Goals as goal

pub returns-then-empty-s : goal.returns-then-empty-s
returns-then-empty-s c = search (set_empty, rules)

pub returns-then-s-at : goal.returns-then-s-at
returns-then-s-at c =
    c.unread.ensures
    ∙ elim c.then-s-at.branch [
      | then-s-at-via-then-s-at w ↦ set_few _ _ w.if-s-at.true
      | then-s-at-via-else-s-at+then-s-at-ne-TAB w ↦ search (set_other, rules)
    ]

pub returns-in-Some : goal.returns-in-Some
returns-in-Some c = search (set_taken, rules)

pub returns-in-None : goal.returns-in-None
returns-in-None c = c.unread-in-None.ensures ∙ set_bad _ _ c.if-s-at.false c.if-s-at-ne-TAB.false refl c.read_set.ensures c.in-None.is
