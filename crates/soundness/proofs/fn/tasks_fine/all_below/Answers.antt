-- A task that the table has is one of the state's.
use Rattle.std.proofs.Common.{arith}
use Rattle.prepared.proofs.Stored.{most_tasks_lem}
use Rattle.soundness.proofs.fn.tasks_fine.all_below.Goals as goal

pub offset_bounds-s-t : goal.offset_bounds-s-t
offset_bounds-s-t c = omega (arith, most_tasks_lem)

pub bounds-s-t : goal.bounds-s-t
bounds-s-t c = omega (arith, most_tasks_lem)
