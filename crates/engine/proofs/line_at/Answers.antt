-- `line_at` meets its contract.
use Rattle.engine.proofs.Answers.{line_none, line_is}
use Rattle.engine.proofs.line_at.Goals as goal

pub returns-then-e-log : goal.returns-then-e-log
returns-then-e-log c = search line_none

pub returns : goal.returns
returns c = search line_is
