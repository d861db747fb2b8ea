use Prim.Native.Nat.{◌<◌}
use mathlib.Core.Path.{subst⁻¹}
use native.Mathlib.Omega.{arith}
use Rattle.model.specs.States.{task_at}
use Rattle.prepared.specs.Prepared.{table_in}
use Rattle.saved.specs.Standing.{Unlisted}
use Rattle.saved.proofs.Sayable.{holder_fits_lem}
use Rattle.saved.proofs.Standing.{unlisted}
use Rattle.engine.proofs.Finding.{found, task_cell, listed_long}
use Rattle.engine.proofs.Passing.{tasks_first, tasks_within, tasks_more, tasks_all}
use Rattle.engine.proofs.past_tasks.Goals as goal

pub loop-t-init : goal.loop-t-init
loop-t-init c = tasks_first c.past_date-p.ensures

pub bounds-going-t : goal.bounds-going-t
bounds-going-t c = task_cell c.args.component.now.prepared (omega (arith, c.loop-t-test.true, c.tasks-t-end.ensures))

pub offset_bounds-going-t : goal.offset_bounds-going-t
offset_bounds-going-t c = omega (arith, task_cell c.args.component.now.prepared {t = c.loop-t.t} (omega (arith, c.loop-t-test.true, c.tasks-t-end.ensures)))

pub past_task-p-requires : goal.past_task-p-requires
past_task-p-requires c =
    let K = table_in c.args.component.now.rows c.args.component.now.index in
    let s = c.args.going.now.state in
    let t = c.loop-t.t in
    let h : t < K.ntasks = omega (arith, c.loop-t-test.true, c.tasks-t-end.ensures) in (
      h,
      listed_long (found c.args.component.now.prepared c.requires.0),
      tasks_within c.requires.1 c.loop-t.invariant,
      holder_fits_lem _ _ c.args.component.now.prepared.formed c.requires.0.ready.sound _ h,
      subst⁻¹ (λ l. Unlisted K l t (task_at s t).managing) c.requires.0.ready.listed (unlisted K s (found c.args.component.now.prepared c.requires.0).sound t),
    )

pub loop-t-preserved : goal.loop-t-preserved
loop-t-preserved c = tasks_more c.requires.0.ready.listed c.loop-t.invariant c.past_task-p.ensures

pub returns : goal.returns
returns c = tasks_all c.loop-t.invariant (omega (arith, c.loop-t-test.false, c.loop-t.auto.t-end, c.tasks-t-end.ensures))
