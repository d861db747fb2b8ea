use Rattle.prepared.specs.Prepared.{table_in}
use Rattle.engine.proofs.Passing.{ActsPast}
use Rattle.engine.proofs.past_acts.Given as goal

abbrev pub invariant-loop-a : goal.invariant-loop-a
invariant-loop-a l = ActsPast (table_in l.component.rows l.component.index) l.going.state l.log l.at l.p l.a
