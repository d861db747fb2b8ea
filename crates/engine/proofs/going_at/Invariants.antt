use Rattle.conflicts.specs.Busy.{busy_of}
use Rattle.managing.specs.Listed.{listed_of}
use Rattle.engine.proofs.Starting.{Noted}
use Rattle.engine.proofs.going_at.Given as goal

abbrev pub invariant-loop-a : goal.invariant-loop-a
invariant-loop-a l = Noted busy_of l.s.acts l.busy l.a × Noted listed_of l.s.acts l.listed l.a
