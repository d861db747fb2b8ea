use Rattle.prepared.specs.Prepared.{table_in}
use Rattle.engine.proofs.Passing.{TasksPast}
use Rattle.engine.proofs.past_tasks.Given as goal

abbrev pub invariant-loop-t : goal.invariant-loop-t
invariant-loop-t l = TasksPast (table_in l.component.rows l.component.index) l.going.state l.log l.at l.p l.t
