use Rattle.engine.proofs.Managing.{Lists}
use Rattle.engine.proofs.steps.sm.Given as goal

abbrev pub invariant-loop-a : goal.invariant-loop-a
invariant-loop-a l = Lists l.component.rows l.component.index l.n l.r l.i l.initial.a l.a-end l.initial.going l.going l.a
