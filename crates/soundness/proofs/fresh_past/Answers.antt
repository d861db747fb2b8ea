-- `fresh_past` meets its contract.
use Rattle.std.proofs.Common.{rules}
use Rattle.prepared.specs.Held.{held}
use Rattle.soundness.proofs.Past.{tasks_past, acts_past}
use Rattle.soundness.proofs.fresh_past.Goals as goal

pub returns-then-tasks_fresh : goal.returns-then-tasks_fresh
returns-then-tasks_fresh c = rw (tasks_past (held c.args.component.now) c.args.s.now (search rules), acts_past (held c.args.component.now) c.args.s.now (search rules), ← c.tasks.ensures, ← c.acts.ensures, ← c.tasks_fresh.ensures, c.if-tasks_fresh.true) c.acts_fresh.ensures

pub returns-else-tasks_fresh : goal.returns-else-tasks_fresh
returns-else-tasks_fresh c = rw (tasks_past (held c.args.component.now) c.args.s.now (search rules), ← c.tasks.ensures, ← c.tasks_fresh.ensures, c.if-tasks_fresh.false)
