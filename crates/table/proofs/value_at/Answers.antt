-- `value_at` meets its contract.
use native.Mathlib.Omega.{arith}
use Rattle.table.proofs.Shown.{field_past, field_is, shown_most}
use Rattle.table.proofs.value_at.Goals as goal

pub returns-then-most-i : goal.returns-then-most-i
returns-then-most-i c = (search (field_past), omega arith)

pub returns : goal.returns
returns c = (search (field_is), rw c.show.ensures (shown_most _ _ (c.type_inv.rows _)))
