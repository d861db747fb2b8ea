-- `two_fields` meets its contract.
use Rattle.text.proofs.Fields.{behind_ends}
use Rattle.logs.proofs.Fielding.{headed_bad, headed_is, given_bad, given_is}
use Rattle.logs.proofs.two_fields.Goals as goal

pub returns-in_err-first : goal.returns-in_err-first
returns-in_err-first c = rw c.from_residual.ensures (search (headed_bad, c.in_err-first.was))

pub only_field-requires : goal.only_field-requires
only_field-requires c = search (behind_ends, c.in_ok-first.was)

pub returns-in_err-second : goal.returns-in_err-second
returns-in_err-second c = rw c.from_residual-in_err-second.ensures (search (headed_is, given_bad, c.in_ok-first.was, c.in_err-second.was))

pub returns : goal.returns
returns c = search (headed_is, given_is, c.in_ok-first.was, c.in_ok-second.was)
