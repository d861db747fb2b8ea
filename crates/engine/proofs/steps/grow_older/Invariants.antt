use Rattle.prepared.specs.Prepared.{table_in}
use Rattle.engine.proofs.Waiting.{Ages}
use Rattle.engine.proofs.steps.grow_older.Given as goal

abbrev pub invariant-loop-t : goal.invariant-loop-t
invariant-loop-t l = Ages (table_in l.component.rows l.component.index) l.initial.going l.d l.t-end l.going l.t
