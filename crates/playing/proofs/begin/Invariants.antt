-- The parts read so far are those of the state so far.
use Rattle.prepared.specs.Prepared.{table_in}
use Rattle.playing.proofs.Beginning.{Taken}
use Rattle.playing.proofs.begin.Given as goal

abbrev pub invariant-loop-t : goal.invariant-loop-t
invariant-loop-t l = Taken (table_in l.component.rows l.component.index) l.log l.from l.begun.state l.begun.busy l.begun.listed l.runs l.halts l.opened l.p l.t 0

abbrev pub invariant-loop-a : goal.invariant-loop-a
invariant-loop-a l = Taken (table_in l.component.rows l.component.index) l.log l.from l.begun.state l.begun.busy l.begun.listed l.runs l.halts l.opened l.p (table_in l.component.rows l.component.index).ntasks l.a
