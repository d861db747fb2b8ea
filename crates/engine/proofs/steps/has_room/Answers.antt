use native.Mathlib.Omega.{arith}
use Rattle.engine.proofs.Finding.{found, task_cell, holder_cell, place_there, timer_small, clock_small}
use Rattle.engine.proofs.steps.has_room.Goals as goal

pub bounds-going-t : goal.bounds-going-t
bounds-going-t c = search task_cell

pub offset_bounds-going-t : goal.offset_bounds-going-t
offset_bounds-going-t c = omega (arith, task_cell c.args.component.now.prepared c.requires.2)

pub bounds-going-a : goal.bounds-going-a
bounds-going-a c = holder_cell (found c.args.component.now.prepared c.requires.0) c.requires.2 c.in-Activity.is

pub offset_bounds-going-a : goal.offset_bounds-going-a
offset_bounds-going-a c = omega (arith, holder_cell (found c.args.component.now.prepared c.requires.0) c.requires.2 c.in-Activity.is)

pub timer_room-requires : goal.timer_room-requires
timer_room-requires c = (c.requires.2, timer_small (found c.args.component.now.prepared c.requires.0) c.args.t, c.requires.1)

pub act_room-requires : goal.act_room-requires
act_room-requires c = let F = found c.args.component.now.prepared c.requires.0 in (place_there F c.in-Activity.a, clock_small F c.in-Activity.a, c.requires.1)
