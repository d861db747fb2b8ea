-- `read_table` meets its contract. Reading the lines left behind the rows so far gives what reading all gives.
use Prim.Native.Nat.{◌-◌}
use lib.ListN.{length}
use Rattle.table.specs.Drafts.{drafted}
use Rattle.table.proofs.Reading.{Reading}
use Rattle.table.proofs.read_table.Given as goal

abbrev pub invariant-loop-at : goal.invariant-loop-at
invariant-loop-at l = Reading l.s l.at l.line (drafted l.draft)

abbrev pub decreases-loop-at : goal.decreases-loop-at
decreases-loop-at l = length l.s - l.at
