-- `put_end` meets its contract.
use Rattle.streaming.proofs.Turning.{end_none, end_sum}
use Rattle.streaming.proofs.put_end.Goals as goal

pub returns-then-not-done : goal.returns-then-not-done
returns-then-not-done c = search (end_none)

pub returns : goal.returns
returns c = search (end_sum)
