use mathlib.Core.Path.{◌≡◌, refl, sym, ◌∙◌}
use native.Mathlib.Omega.{arith}
use borrow.Author.Rules.{rules}
use Rattle.model.proofs.Tests.{true_T}
use Rattle.prepared.specs.Held.{held}
use Rattle.prepared.proofs.Stored.{most_tasks_lem, most_acts_lem}
use Rattle.saved.proofs.Filling.{own_task}
use Rattle.saved.proofs.InPlace.{date_read, task_is, act_is}
use Rattle.playing.proofs.Beginning.{acts_long, taken_none, taken_task, taken_all, taken_act, taken_row, opened_few, one_few}
use Rattle.playing.proofs.begin.Goals as goal

pub loop-t-init : goal.loop-t-init
loop-t-init c =
    let R = c.requires.0 in
    taken_none c.args.going.now.state (date_read _ _ c.requires.1 c.date_at-date.ensures) R.busy R.listed c.requires.3 (acts_long R c.requires.4) (search rules) (search rules)

pub offset_bounds-begun-t : goal.offset_bounds-begun-t
offset_bounds-begun-t c = omega (arith, most_tasks_lem c.args.component.now.prepared, c.tasks-t-end.ensures, c.loop-t-test.true)

pub bounds-begun-t : goal.bounds-begun-t
bounds-begun-t c = omega (arith, most_tasks_lem c.args.component.now.prepared, c.tasks-t-end.ensures, c.loop-t-test.true)

pub offset_bounds-runs-t : goal.offset_bounds-runs-t
offset_bounds-runs-t c = omega (arith, most_tasks_lem c.args.component.now.prepared, c.tasks-t-end.ensures, c.loop-t-test.true)

pub bounds-runs-t : goal.bounds-runs-t
bounds-runs-t c = omega (arith, most_tasks_lem c.args.component.now.prepared, c.tasks-t-end.ensures, c.loop-t-test.true)

pub offset_bounds-halts-t : goal.offset_bounds-halts-t
offset_bounds-halts-t c = omega (arith, most_tasks_lem c.args.component.now.prepared, c.tasks-t-end.ensures, c.loop-t-test.true)

pub bounds-halts-t : goal.bounds-halts-t
bounds-halts-t c = omega (arith, most_tasks_lem c.args.component.now.prepared, c.tasks-t-end.ensures, c.loop-t-test.true)

pub overflow_add-opened : goal.overflow_add-opened
overflow_add-opened c = omega (arith, most_tasks_lem c.args.component.now.prepared, c.tasks-t-end.ensures, c.loop-t-test.true, opened_few c.loop-t.invariant, one_few c.task_at-read.result.task.managing)

pub loop-t-preserved : goal.loop-t-preserved
loop-t-preserved c = taken_task c.loop-t.invariant (omega (arith, c.tasks-t-end.ensures, c.loop-t-test.true)) (most_tasks_lem c.args.component.now.prepared) (task_is _ _ _ _ c.loop-t.invariant.text.inside c.task_at-read.ensures)

pub loop-a-init : goal.loop-a-init
loop-a-init c = let z : c.loop-t.t ≡ (held c.args.component.now).ntasks = omega (arith, c.tasks-t-end.ensures, c.loop-t-test.false, c.loop-t.auto.t-end) in taken_all c.loop-t.invariant z

pub offset_bounds-runs-k : goal.offset_bounds-runs-k
offset_bounds-runs-k c = omega (arith, own_task c.args.component.now.prepared _ _ _ c.task_of-k.ensures c.loop-a-test.true c.acts-a-end.ensures)

pub bounds-runs-k : goal.bounds-runs-k
bounds-runs-k c = omega (arith, own_task c.args.component.now.prepared _ _ _ c.task_of-k.ensures c.loop-a-test.true c.acts-a-end.ensures)

pub offset_bounds-halts-k : goal.offset_bounds-halts-k
offset_bounds-halts-k c = omega (arith, own_task c.args.component.now.prepared _ _ _ c.task_of-k.ensures c.loop-a-test.true c.acts-a-end.ensures)

pub bounds-halts-k : goal.bounds-halts-k
bounds-halts-k c = omega (arith, own_task c.args.component.now.prepared _ _ _ c.task_of-k.ensures c.loop-a-test.true c.acts-a-end.ensures)

pub put_act-requires : goal.put_act-requires
put_act-requires c = omega (arith, most_acts_lem c.args.component.now.prepared, c.acts-a-end.ensures, c.loop-a-test.true)

pub loop-a-preserved : goal.loop-a-preserved
loop-a-preserved c = rw c.put_act.ensures (taken_act c.loop-a.invariant (omega (arith, c.acts-a-end.ensures, c.loop-a-test.true)) (most_acts_lem c.args.component.now.prepared) c.task_of-k.ensures (act_is _ _ _ _ _ c.loop-a.invariant.text.inside c.act_at-read.ensures) refl refl)

pub overflow_add-result : goal.overflow_add-result
overflow_add-result c = omega (arith, c.if-log-p-2.false, c.well_formed)

pub returns : goal.returns
returns c =
    taken_row c.loop-a.invariant refl (omega (arith, c.acts-a-end.ensures, c.loop-a-test.false, c.loop-a.auto.a-end)) (true_T _ c.args.component.now.prepared.formed) c.if-log-p-2.false c.if-log-p-ne-NEWLINE.false (true_T _ (sym c.is_sound.ensures ∙ c.if-not-is_sound.false)) c.requires.0 (sym c.lines.ensures ∙ c.if-lines-ne0.false) c.requires.1 c.requires.2 c.begun_with-begun.ensures
