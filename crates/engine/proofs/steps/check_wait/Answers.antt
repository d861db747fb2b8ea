use mathlib.Core.Path.{◌∙◌}
use Rattle.engine.proofs.Finding.{found}
use Rattle.engine.proofs.Waiting.{asks_none, asks_stop, asks_more, asks_all}
use Rattle.engine.proofs.steps.check_wait.Goals as goal
use Rattle.engine.proofs.steps.check_wait.Goals.{then-room, else-room}

pub loop-t-init : goal.loop-t-init
loop-t-init c = asks_none (found c.args.component.now.prepared c.requires.0) c.requires.1 c.tasks-t-end.ensures

pub returns-then-hinders : goal.returns-then-hinders
returns-then-hinders c = asks_stop c.loop-t.invariant c.loop-t-test.true c.hinders.ensures c.if-hinders.true c.check_wait.ensures

pub loop-t-preserved : goal.loop-t-preserved
loop-t-preserved c =
    elim c.if-room.branch [
      | then-room w ↦ asks_more c.loop-t.invariant c.loop-t-test.true c.hinders.ensures c.if-hinders.false (w.room-is ∙ w.has_room-room.ensures ∙ rw w.if-room.true)
      | else-room w ↦ asks_more c.loop-t.invariant c.loop-t-test.true c.hinders.ensures c.if-hinders.false (w.room-is ∙ rw w.if-room.false)
    ]

pub returns : goal.returns
returns c = asks_all c.loop-t.invariant c.loop-t-test.false c.check_wait-2.ensures
