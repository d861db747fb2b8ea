use Rattle.std.proofs.Common.{refl, arith}
use Rattle.prepared.proofs.Stored.{most_acts_lem}
use Rattle.saved.proofs.Writing.{written_none, written_more, task_is, task_room, tasks_put}
use Rattle.saved.proofs.put_tasks.Goals as goal

pub loop-t-init : goal.loop-t-init
loop-t-init c = search written_none

pub lists_of-requires : goal.lists_of-requires
lists_of-requires c = (omega arith, omega (arith, most_acts_lem))

pub put_fields-p-requires : goal.put_fields-p-requires
put_fields-p-requires c = task_room c.args.component.now.prepared _ c.requires.0 c.requires.1 c.loop-t.invariant c.tasks-t-end.ensures c.loop-t-test.true (task_is c.args.component.now.prepared _ c.listed_in-listed.ensures c.lists_of.ensures c.task_values-values.ensures)

pub loop-t-preserved : goal.loop-t-preserved
loop-t-preserved c = written_more c.loop-t.invariant (λ j. refl) _ (task_is c.args.component.now.prepared _ c.listed_in-listed.ensures c.lists_of.ensures c.task_values-values.ensures) _ _ c.put_fields-p.ensures

pub returns : goal.returns
returns c = tasks_put _ _ c.loop-t.invariant c.tasks-t-end.ensures c.loop-t-test.false c.loop-t.auto.t-end
