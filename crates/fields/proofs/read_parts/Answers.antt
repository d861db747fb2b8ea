use Prim.Native.Nat.{◌+◌, ◌≤◌}
use lib.ListN.{length}
use native.Mathlib.Omega.{arith}
use Rattle.fields.proofs.Reading.{repeating_start, repeating_room, repeating_bad, repeating_more, repeating_end}
use Rattle.fields.proofs.read_parts.Goals as goal

pub loop-init : goal.loop-init
loop-init c = search (repeating_start)

pub read_fields-requires : goal.read_fields-requires
read_fields-requires c = search (repeating_room)

pub returns-in_err-end : goal.returns-in_err-end
returns-in_err-end c = rw c.from_residual.ensures (search (repeating_bad, c.in_err-end.was))

pub overflow_add-place : goal.overflow_add-place
overflow_add-place c =
    let h : c.loop.place + length c.args.forms.now ≤ length c.loop.values = search (repeating_room) in
    omega arith

pub loop-preserved : goal.loop-preserved
loop-preserved c = search (repeating_more, c.in_ok-end.was)

pub returns : goal.returns
returns c = search (repeating_end)
