-- `read_leaving` meets its contract.
use Rattle.logs.proofs.Forms.{place_tabless}
use Rattle.logs.proofs.Fielding.{only_rest, headed_bad, headed_is, given_bad, given_gone, given_is, leaving}
use Rattle.logs.proofs.read_leaving.Goals as goal

pub returns-in_err-act : goal.returns-in_err-act
returns-in_err-act c = rw c.from_residual.ensures (search (headed_bad, c.in_err-act.was))

pub returns-then-line-end : goal.returns-then-line-end
returns-then-line-end c = search (headed_is, given_gone, c.in_ok-act.was)

pub returns-in_err-target : goal.returns-in_err-target
returns-in_err-target c =
    rw c.from_residual-in_err-target.ensures (search (headed_is, given_bad, only_rest, place_tabless, c.in_ok-act.was, c.in_err-target.was))

pub returns : goal.returns
returns c = search (headed_is, given_is, leaving, only_rest, place_tabless, c.in_ok-act.was, c.in_ok-target.was)
