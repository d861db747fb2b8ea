-- `put_refused` meets its contract.
use Rattle.judging.proofs.Reporting.{refused_small, refused_none, refused_put}
use Rattle.judging.proofs.put_refused.Goals as goal

pub overflow_add-line_width : goal.overflow_add-line_width
overflow_add-line_width c = search (refused_small)

pub returns-then-report-line_width : goal.returns-then-report-line_width
returns-then-report-line_width c = search (refused_none)

pub returns : goal.returns
returns c = search (refused_put)
