use Rattle.std.proofs.Common.{arith}
use Rattle.soundness.proofs.Marked.{marks_none, marks_more}
use Rattle.soundness.proofs.Rooms.{pause_room}
use Rattle.soundness.proofs.Pauses.new.Goals as goal
use Rattle.soundness.proofs.Pauses.new.Goals.{in-Codel, in_default}

pub loop-e-init : goal.loop-e-init
loop-e-init c = search marks_none

pub bounds-marks-c : goal.bounds-marks-c
bounds-marks-c c = pause_room c.args.component.now _ _ _ c.pause_of.ensures c.in-Codel.is (omega arith)

pub loop-e-preserved : goal.loop-e-preserved
loop-e-preserved c = marks_more _ _ _ _ _ c.loop-e.invariant c.pause_of.ensures (elim c.match-pause_of.branch [ in-Codel w ↦ rw w.in-Codel.is w.marks-is | in_default w ↦ rw w.in_default.is w.marks-is ])
