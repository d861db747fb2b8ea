use Rattle.std.proofs.lemmas.Result.{err_from_is_err_and}
use mathlib.Core.Path.{refl}
use native.Mathlib.Omega.{arith}
use Rattle.engine.proofs.Finding.{found, row_cell}
use Rattle.engine.proofs.Managing.{sm_refuses, listed_fits, lists_none, lists_more, sm_takes}
use Rattle.engine.proofs.steps.sm.Goals as goal

pub bounds-going-i : goal.bounds-going-i
bounds-going-i c = row_cell c.args.component.now.prepared c.args.t c.tasks.ensures c.row_in-i.ensures

pub offset_bounds-going-i : goal.offset_bounds-going-i
offset_bounds-going-i c = omega (arith, row_cell c.args.component.now.prepared c.args.t c.tasks.ensures c.row_in-i.ensures)

pub returns-in_err-check_sm : goal.returns-in_err-check_sm
returns-in_err-check_sm c = let p = err_from_is_err_and c.from_residual.result c.from_residual.ensures.1 in rw (p.1, p.2) (sm_refuses (found c.args.component.now.prepared c.requires) c.args.t c.args.n c.args.r c.tasks.ensures c.row_in-i.ensures c.in_err-check_sm.ensures refl)

pub loop-a-init : goal.loop-a-init
loop-a-init c = lists_none (found c.args.component.now.prepared c.requires) c.args.t c.args.n c.args.r c.tasks.ensures c.row_in-i.ensures c.in_ok-check_sm.ensures c.acts_begin-a.ensures c.acts_end-a-end.ensures

pub bounds-going-a : goal.bounds-going-a
bounds-going-a c = listed_fits c.loop-a.invariant c.loop-a-test.true

pub bounds-going-a-in-loop-a : goal.bounds-going-a-in-loop-a
bounds-going-a-in-loop-a c = listed_fits c.loop-a.invariant c.loop-a-test.true

pub bounds-going-a-in-loop-a-2 : goal.bounds-going-a-in-loop-a-2
bounds-going-a-in-loop-a-2 c = listed_fits c.loop-a.invariant c.loop-a-test.true

pub offset_bounds-going-a : goal.offset_bounds-going-a
offset_bounds-going-a c = omega (arith, listed_fits c.loop-a.invariant c.loop-a-test.true)

pub offset_bounds-going-a-in-loop-a : goal.offset_bounds-going-a-in-loop-a
offset_bounds-going-a-in-loop-a c = omega (arith, listed_fits c.loop-a.invariant c.loop-a-test.true)

pub offset_bounds-going-a-in-loop-a-2 : goal.offset_bounds-going-a-in-loop-a-2
offset_bounds-going-a-in-loop-a-2 c = omega (arith, listed_fits c.loop-a.invariant c.loop-a-test.true)

pub loop-a-preserved : goal.loop-a-preserved
loop-a-preserved c = lists_more c.loop-a.invariant c.loop-a-test.true c.flag-y.ensures c.listed_of.ensures

pub returns : goal.returns
returns c = sm_takes (found c.args.component.now.prepared c.requires) c.args.t c.args.n c.args.r c.tasks.ensures c.row_in-i.ensures c.in_ok-check_sm.ensures refl c.loop-a.invariant c.loop-a-test.false c.opened_task.ensures c.after_sm-going.ensures
