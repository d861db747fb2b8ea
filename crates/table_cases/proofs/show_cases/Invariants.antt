-- `show_cases` ends: each case starts behind the one before.
use Rattle.std.proofs.Common.{length, ◌-◌}
use Rattle.table_cases.proofs.show_cases.Given as goal

abbrev pub decreases-loop-at : goal.decreases-loop-at
decreases-loop-at g l = length l.s - l.at
