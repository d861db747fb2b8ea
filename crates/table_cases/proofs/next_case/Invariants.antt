-- `next_case` ends: each line starts behind the one before.
use Rattle.std.proofs.Common.{length, ◌-◌}
use Rattle.table_cases.proofs.next_case.Given as goal

abbrev pub decreases-loop-at : goal.decreases-loop-at
decreases-loop-at l = length l.s - l.at
