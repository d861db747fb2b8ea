-- An activity that the table has is one of the state's, and so is its task.
use Rattle.std.proofs.Common.{arith}
use Rattle.prepared.proofs.Stored.{most_acts_lem}
use Rattle.soundness.proofs.Rooms.{task_room}
use Rattle.soundness.proofs.fn.acts_fine.all_below.Goals as goal

pub offset_bounds-s-task_of : goal.offset_bounds-s-task_of
offset_bounds-s-task_of c = omega (arith, task_room c.captures.component.now _ _ c.task_of.ensures c.requires)

pub bounds-s-task_of : goal.bounds-s-task_of
bounds-s-task_of c = omega (arith, task_room c.captures.component.now _ _ c.task_of.ensures c.requires)

pub offset_bounds-s-a : goal.offset_bounds-s-a
offset_bounds-s-a c = omega (arith, most_acts_lem)

pub bounds-s-a : goal.bounds-s-a
bounds-s-a c = omega (arith, most_acts_lem)
