use Rattle.std.proofs.lemmas.Result.{err_from_is_err_and}
use mathlib.Core.Path.{refl, sym}
use native.Mathlib.Omega.{arith}
use Rattle.engine.proofs.Finding.{found, own_cell, touch_cell, place_there, busy_long}
use Rattle.engine.proofs.Stepping.{act_unnamed, act_refuses, act_takes}
use Rattle.engine.proofs.steps.act_step.Goals as goal

pub returns-in_err-check_names : goal.returns-in_err-check_names
returns-in_err-check_names c = let p = err_from_is_err_and c.from_residual.result c.from_residual.ensures.1 in rw (p.1, p.2) (act_unnamed _ _ _ _ c.in_err-check_names.ensures)

pub bounds-going-t : goal.bounds-going-t
bounds-going-t c = touch_cell c.args.component.now.prepared c.args.a c.args.k c.in_ok-check_names.ensures c.task_in-t.ensures

pub offset_bounds-going-t : goal.offset_bounds-going-t
offset_bounds-going-t c = omega (arith, touch_cell c.args.component.now.prepared c.args.a c.args.k c.in_ok-check_names.ensures c.task_in-t.ensures)

pub bounds-going-a : goal.bounds-going-a
bounds-going-a c = own_cell c.args.component.now.prepared c.args.a c.args.k c.in_ok-check_names.ensures

pub offset_bounds-going-a : goal.offset_bounds-going-a
offset_bounds-going-a c = omega (arith, own_cell c.args.component.now.prepared c.args.a c.args.k c.in_ok-check_names.ensures)

pub is_clear_for-clear-requires : goal.is_clear_for-clear-requires
is_clear_for-clear-requires c = (place_there (found c.args.component.now.prepared c.requires) c.args.a, busy_long (found c.args.component.now.prepared c.requires))

pub local_step-requires : goal.local_step-requires
local_step-requires c = (sym c.in_ok-check_names.ensures, place_there (found c.args.component.now.prepared c.requires) c.args.a)

pub returns-in_err-task : goal.returns-in_err-task
returns-in_err-task c =
    let p = err_from_is_err_and c.from_residual-in_err-task.result c.from_residual-in_err-task.ensures.1 in
    rw (p.1, p.2) (act_refuses (found c.args.component.now.prepared c.requires) c.args.a c.args.k c.in_ok-check_names.ensures c.task_in-t.ensures c.is_clear_for-clear.ensures c.in_err-task.ensures refl)

pub bounds-going-t-2 : goal.bounds-going-t-2
bounds-going-t-2 c = touch_cell c.args.component.now.prepared c.args.a c.args.k c.in_ok-check_names.ensures c.task_in-t.ensures

pub offset_bounds-going-t-2 : goal.offset_bounds-going-t-2
offset_bounds-going-t-2 c = omega (arith, touch_cell c.args.component.now.prepared c.args.a c.args.k c.in_ok-check_names.ensures c.task_in-t.ensures)

pub put_act-requires : goal.put_act-requires
put_act-requires c = own_cell c.args.component.now.prepared c.args.a c.args.k c.in_ok-check_names.ensures

pub returns : goal.returns
returns c = act_takes (found c.args.component.now.prepared c.requires) c.args.a c.args.k c.in_ok-check_names.ensures c.task_in-t.ensures c.is_clear_for-clear.ensures c.in_ok-task.ensures refl c.put_act.ensures c.after_step-going.ensures
