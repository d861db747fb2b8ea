use Rattle.std.proofs.Common.{arith}
use Rattle.saved.proofs.Filling.{own_task, acts_none, acts_more}
use Rattle.saved.proofs.acts_said.Goals as goal

pub loop-a-init : goal.loop-a-init
loop-a-init c = search acts_none

pub overflow_mul-part : goal.overflow_mul-part
overflow_mul-part c = omega (arith, own_task c.args.component.now.prepared _ _ _ c.task_of.ensures c.loop-a-test.true c.acts-a-end.ensures)

pub overflow_add-part : goal.overflow_add-part
overflow_add-part c = omega (arith, own_task c.args.component.now.prepared _ _ _ c.task_of.ensures c.loop-a-test.true c.acts-a-end.ensures)

pub overflow_add-part-in-loop-a : goal.overflow_add-part-in-loop-a
overflow_add-part-in-loop-a c = omega (arith, own_task c.args.component.now.prepared _ _ _ c.task_of.ensures c.loop-a-test.true c.acts-a-end.ensures)

pub set_at-n-requires : goal.set_at-n-requires
set_at-n-requires c = omega (arith, own_task c.args.component.now.prepared _ _ _ c.task_of.ensures c.loop-a-test.true c.acts-a-end.ensures)

pub overflow_add-part-in-loop-a-2 : goal.overflow_add-part-in-loop-a-2
overflow_add-part-in-loop-a-2 c = omega (arith, own_task c.args.component.now.prepared _ _ _ c.task_of.ensures c.loop-a-test.true c.acts-a-end.ensures)

pub set_at-r-requires : goal.set_at-r-requires
set_at-r-requires c = omega (arith, own_task c.args.component.now.prepared _ _ _ c.task_of.ensures c.loop-a-test.true c.acts-a-end.ensures)

pub loop-a-preserved : goal.loop-a-preserved
loop-a-preserved c = acts_more _ _ _ _ _ _ _ _ _ _ c.loop-a.invariant c.tasks.ensures c.task_of.ensures c.set_at-n.ensures c.set_at-r.ensures c.act_from.ensures
