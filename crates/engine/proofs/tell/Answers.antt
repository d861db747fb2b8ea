use Rattle.engine.proofs.Runs.{told_none, told_some}
use Rattle.engine.proofs.tell.Goals as goal

pub returns-then-end-at : goal.returns-then-end-at
returns-then-end-at c = told_none c.args.cycle c.put_cycle-end.ensures c.if-end-at.true

pub returns-else-end-at : goal.returns-else-end-at
returns-else-end-at c = told_some c.args.cycle c.put_cycle-end.ensures c.if-end-at.false
