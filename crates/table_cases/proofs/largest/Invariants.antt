-- `largest` ends: each turn writes a row.
use Rattle.std.proofs.Common.{◌-◌, ◌≤◌}
use Rattle.table.specs.Tables.{most_rows}
use Rattle.table_cases.proofs.largest.Given as goal

abbrev pub invariant-loop-n : goal.invariant-loop-n
invariant-loop-n l = l.n ≤ most_rows

abbrev pub decreases-loop-n : goal.decreases-loop-n
decreases-loop-n l = most_rows - l.n
