use Rattle.std.proofs.Common.{arith}
use Rattle.prepared.proofs.Stored.{most_acts_lem}
use Rattle.managing.proofs.Listed.{task_end}
use Rattle.saved.proofs.Listed.{task_begin, walk_none, walk_fits, walk_more, lists_found}
use Rattle.saved.proofs.lists_of.Goals as goal

pub loop-a-init : goal.loop-a-init
loop-a-init c = (search task_begin, search walk_none, search walk_none)

pub bit_of-run-requires : goal.bit_of-run-requires
bit_of-run-requires c = omega (arith, most_acts_lem c.args.component.now.prepared, task_end c.args.component.now.prepared _ _ c.requires.0 c.acts_end-a-end.ensures)

pub overflow_add-run : goal.overflow_add-run
overflow_add-run c = walk_fits c.args.component.now.prepared _ c.requires.0 _ _ _ _ _ (task_end c.args.component.now.prepared _ _ c.requires.0 c.acts_end-a-end.ensures) c.loop-a-test.true c.loop-a.invariant.1 c.bit_of-run.ensures

pub bit_of-halt-requires : goal.bit_of-halt-requires
bit_of-halt-requires c = omega (arith, most_acts_lem c.args.component.now.prepared, task_end c.args.component.now.prepared _ _ c.requires.0 c.acts_end-a-end.ensures)

pub overflow_add-halt : goal.overflow_add-halt
overflow_add-halt c = walk_fits c.args.component.now.prepared _ c.requires.0 _ _ _ _ _ (task_end c.args.component.now.prepared _ _ c.requires.0 c.acts_end-a-end.ensures) c.loop-a-test.true c.loop-a.invariant.2 c.bit_of-halt.ensures

pub loop-a-preserved : goal.loop-a-preserved
loop-a-preserved c = (omega (arith, task_end c.args.component.now.prepared _ _ c.requires.0 c.acts_end-a-end.ensures), search walk_more, search walk_more)

pub returns : goal.returns
returns c = search lists_found
