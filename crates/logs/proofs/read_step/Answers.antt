-- `read_step` meets its contract.
use Rattle.logs.proofs.Fielding.{given_bad, given_is}
use Rattle.logs.proofs.Reading.{step_long, step_few, step_other, step_wait, step_two}
use Rattle.logs.proofs.read_step.Goals.{then-line-ge-LONGEST_LINE-via-then-line-ge-LONGEST_LINE, then-line-ge-LONGEST_LINE-via-else-line-ge-LONGEST_LINE+then-line-lt3}
use Rattle.logs.proofs.read_step.Goals as goal

pub returns-then-line-ge-LONGEST_LINE : goal.returns-then-line-ge-LONGEST_LINE
returns-then-line-ge-LONGEST_LINE c =
    elim c.then-line-ge-LONGEST_LINE.branch [
      | then-line-ge-LONGEST_LINE-via-then-line-ge-LONGEST_LINE w ↦ step_long _ _ w.if-line-ge-LONGEST_LINE.true
      | then-line-ge-LONGEST_LINE-via-else-line-ge-LONGEST_LINE+then-line-lt3 w ↦ step_few _ _ w.if-line-lt3.true
    ]

pub returns-then-not-starts_with : goal.returns-then-not-starts_with
returns-then-not-starts_with c = search (step_other)

pub returns-then-line-eq-TAB : goal.returns-then-line-eq-TAB
returns-then-line-eq-TAB c = search (step_two)

pub returns-in_err-only_field : goal.returns-in_err-only_field
returns-in_err-only_field c = rw c.from_residual.ensures (search (step_wait, given_bad, c.in_err-only_field.was))

pub returns : goal.returns
returns c = search (step_wait, given_is, c.in_ok-only_field.was)
