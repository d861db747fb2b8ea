-- `list_at` meets its contract.
use Rattle.saved.proofs.InPlace.{list_own, list_other}
use Rattle.saved.proofs.list_at.Goals as goal

pub returns-then-is_within : goal.returns-then-is_within
returns-then-is_within c = list_own _ _ _ _ c.set_at-n.ensures (rw c.as_set.ensures at c.is_within.ensures) c.if-is_within.true

pub returns : goal.returns
returns c = list_other _ _ _ _ c.set_at-n.ensures (rw c.as_set.ensures at c.is_within.ensures) c.if-is_within.false c.unread.ensures
