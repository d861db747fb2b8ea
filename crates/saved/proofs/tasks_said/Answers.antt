use Rattle.saved.proofs.Filling.{tasks_none, tasks_more}
use Rattle.saved.proofs.tasks_said.Goals as goal

pub loop-t-init : goal.loop-t-init
loop-t-init c = search tasks_none

pub loop-t-preserved : goal.loop-t-preserved
loop-t-preserved c = search tasks_more
