-- `put_tasks` meets its contract. The first t tasks are written.
use Rattle.prepared.specs.Held.{held}
use Rattle.saved.specs.Rows.{task_forms}
use Rattle.saved.proofs.Values.{task_part}
use Rattle.saved.proofs.Writing.{Written}
use Rattle.saved.proofs.put_tasks.Given as goal

abbrev pub invariant-loop-t : goal.invariant-loop-t
invariant-loop-t l = Written task_forms (task_part (held l.component) l.s) l.initial.buf l.at l.buf l.p l.t
