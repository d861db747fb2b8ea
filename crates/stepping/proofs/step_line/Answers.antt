-- `step_line` meets its contract.
use borrow.Author.Rules.{rules}
use Rattle.engine.proofs.Starting.{ready}
use Rattle.stepping.proofs.Single.{line_bad, line_roomy, line_refused, line_accepted}
use Rattle.stepping.proofs.step_line.Goals as goal

pub returns-in_default : goal.returns-in_default
returns-in_default c = search line_bad

pub run-ran-requires : goal.run-ran-requires
run-ran-requires c = search (rules, ready, line_roomy)

pub returns-in_default-stop : goal.returns-in_default-stop
returns-in_default-stop c = search line_accepted

pub returns-in-Refused : goal.returns-in-Refused
returns-in-Refused c = search line_refused
