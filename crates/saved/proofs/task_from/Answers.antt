-- `task_from` meets its contract.
use Rattle.saved.proofs.task_from.Goals as goal

pub returns : goal.returns
returns c = rw c.holder_of.ensures
