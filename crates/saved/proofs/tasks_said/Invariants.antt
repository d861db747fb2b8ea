-- `tasks_said` meets its contract. The first t tasks are set.
use Rattle.std.proofs.Common.{◌≡◌}
use Rattle.saved.specs.Rows.{tasks_said}
use Rattle.saved.proofs.tasks_said.Given as goal

abbrev pub invariant-loop-t : goal.invariant-loop-t
invariant-loop-t l = l.tasks ≡ tasks_said l.values l.t l.initial.tasks
