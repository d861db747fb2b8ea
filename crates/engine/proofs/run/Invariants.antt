-- At the start of each line the state is sound, and behind the rows written the lines left come to what all come to from the start.
use Prim.Native.Nat.{◌-◌}
use lib.ListN.{length}
use Rattle.prepared.specs.Prepared.{table_in}
use Rattle.engine.proofs.Runs.{Plays}
use Rattle.engine.proofs.run.Given as goal

abbrev pub invariant-loop-at : goal.invariant-loop-at
invariant-loop-at l = Plays (table_in l.component.rows l.component.index) l.log l.from l.fn.g l.fn.buf l.place l.going l.at l.buf l.filled

abbrev pub decreases-loop-at : goal.decreases-loop-at
decreases-loop-at l = length l.log - l.at
