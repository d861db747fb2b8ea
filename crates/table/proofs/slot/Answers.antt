-- `slot` meets its contract.
use native.Mathlib.Omega.{arith}
use Rattle.table.proofs.Stored.{base_listed}
use Rattle.table.proofs.Shown.{slot_room}
use Rattle.table.proofs.slot.Goals as goal

pub overflow_add-result : goal.overflow_add-result
overflow_add-result c = omega (arith, base_listed _ c.requires.0, slot_room _ _ c.requires.0 c.requires.1)

pub overflow_mul-result : goal.overflow_mul-result
overflow_mul-result c = omega (arith, base_listed _ c.requires.0, slot_room _ _ c.requires.0 c.requires.1)

pub returns : goal.returns
returns c =
    let e = base_listed _ c.requires.0 in
    (omega (arith, e), omega (arith, e, slot_room _ _ c.requires.0 c.requires.1))
