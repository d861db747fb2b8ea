-- `does_fit` meets its contract. The width so far, that of the rows that wait in the scratch and that of what is still to tell is the width
-- of the report.
use Prim.Native.Nat.{◌-◌}
use lib.ListN.{length}
use Rattle.prepared.specs.Held.{held}
use Rattle.judging.proofs.Reporting.{Fitting}
use Rattle.judging.proofs.does_fit.Given as goal

abbrev pub invariant-loop-width : goal.invariant-loop-width
invariant-loop-width l = Fitting (held l.component) l.log l.room l.scratch l.going l.at l.filled l.width

abbrev pub decreases-loop-width : goal.decreases-loop-width
decreases-loop-width l = length l.log - l.at
