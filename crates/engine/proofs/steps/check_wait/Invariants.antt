use Rattle.prepared.specs.Prepared.{table_in}
use Rattle.waits.proofs.Holders.{Asked}
use Rattle.engine.proofs.steps.check_wait.Given as goal

abbrev pub invariant-loop-t : goal.invariant-loop-t
invariant-loop-t l = Asked (table_in l.component.rows l.component.index) l.going.state l.going.busy l.d l.t-end l.room l.t
