-- `judge` meets its contract.
use Rattle.judging.proofs.Reporting.{read_fine, judged_fine, judged_refused}
use Rattle.judging.proofs.judge.Goals as goal

pub index_of-requires : goal.index_of-requires
index_of-requires c = read_fine _ (rw c.in-Ok.is at c.read_table-read.ensures)

pub returns-in-Ok : goal.returns-in-Ok
returns-in-Ok c = judged_fine _ _ (rw c.in-Ok.is at c.read_table-read.ensures) (rw (← c.index_of.ensures.2) c.judge_log.ensures)

pub returns-in-Err : goal.returns-in-Err
returns-in-Err c = judged_refused _ _ (rw c.in-Err.is at c.read_table-read.ensures) c.number.ensures c.put_refused.ensures
