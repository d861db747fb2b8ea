use Rattle.std.proofs.lemmas.Result.{err_from_is_err_and}
use mathlib.Core.Path.{refl}
use native.Mathlib.Omega.{arith}
use Rattle.engine.proofs.Finding.{found, row_there, row_cell, missed_small, opened_before, listed_long}
use Rattle.engine.proofs.Stepping.{task_refuses, task_takes}
use Rattle.engine.proofs.steps.task_step.Goals as goal

pub bounds-going-i : goal.bounds-going-i
bounds-going-i c = row_cell c.args.component.now.prepared c.args.t c.tasks.ensures c.row_in-i.ensures

pub offset_bounds-going-i : goal.offset_bounds-going-i
offset_bounds-going-i c = omega (arith, row_cell c.args.component.now.prepared c.args.t c.tasks.ensures c.row_in-i.ensures)

pub is_empty_for-empty-requires : goal.is_empty_for-empty-requires
is_empty_for-empty-requires c = search (found, row_there, listed_long)

pub task_step-requires : goal.task_step-requires
task_step-requires c = (missed_small (found c.args.component.now.prepared c.requires) (row_there c.args.component.now.prepared c.args.t c.tasks.ensures c.row_in-i.ensures))

pub bounds-going-i-2 : goal.bounds-going-i-2
bounds-going-i-2 c = row_cell c.args.component.now.prepared c.args.t c.tasks.ensures c.row_in-i.ensures

pub offset_bounds-going-i-2 : goal.offset_bounds-going-i-2
offset_bounds-going-i-2 c = omega (arith, row_cell c.args.component.now.prepared c.args.t c.tasks.ensures c.row_in-i.ensures)

pub ruling_of-ruling-requires : goal.ruling_of-ruling-requires
ruling_of-ruling-requires c = let h = row_there c.args.component.now.prepared c.args.t c.tasks.ensures c.row_in-i.ensures in (h, opened_before (found c.args.component.now.prepared c.requires) h)

pub returns-in_err-task : goal.returns-in_err-task
returns-in_err-task c =
    let p = err_from_is_err_and c.from_residual.result c.from_residual.ensures.1 in
    rw (p.1, p.2) (task_refuses (found c.args.component.now.prepared c.requires) c.args.t c.args.k c.tasks.ensures c.row_in-i.ensures c.is_empty_for-empty.ensures c.in_err-task.ensures refl)

pub returns : goal.returns
returns c = task_takes (found c.args.component.now.prepared c.requires) c.args.t c.args.k c.tasks.ensures c.row_in-i.ensures c.is_empty_for-empty.ensures c.in_ok-task.ensures refl c.ruling_of-ruling.ensures c.after_step-going.ensures
