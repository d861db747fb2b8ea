use native.Mathlib.Omega.{arith}
use Rattle.engine.proofs.Finding.{found, task_cell, holder_cell, place_there, busy_long}
use Rattle.engine.proofs.steps.hinders.Goals as goal

pub bounds-going-t : goal.bounds-going-t
bounds-going-t c = search task_cell

pub offset_bounds-going-t : goal.offset_bounds-going-t
offset_bounds-going-t c = omega (arith, task_cell c.args.component.now.prepared c.requires.1)

pub bounds-going-a : goal.bounds-going-a
bounds-going-a c = holder_cell (found c.args.component.now.prepared c.requires.0) c.requires.1 c.in-Activity.is

pub offset_bounds-going-a : goal.offset_bounds-going-a
offset_bounds-going-a c = omega (arith, holder_cell (found c.args.component.now.prepared c.requires.0) c.requires.1 c.in-Activity.is)

pub act_hinders-requires : goal.act_hinders-requires
act_hinders-requires c = search (found, place_there, busy_long)
