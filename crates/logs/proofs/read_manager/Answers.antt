-- `read_manager` meets its contract.
use Rattle.logs.proofs.Fielding.{headed_bad, headed_is}
use Rattle.logs.proofs.Lists.{lists_gone, lists_rest}
use Rattle.logs.proofs.read_manager.Goals as goal

pub returns-in_err-task : goal.returns-in_err-task
returns-in_err-task c = rw c.from_residual.ensures (search (headed_bad, c.in_err-task.was))

pub returns-then-line-end : goal.returns-then-line-end
returns-then-line-end c = search (headed_is, lists_gone, c.in_ok-task.was)

pub returns : goal.returns
returns c = search (headed_is, lists_rest, c.in_ok-task.was)
