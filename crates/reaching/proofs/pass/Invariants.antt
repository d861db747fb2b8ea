-- `pass` meets its contract.
use Prim.Native.Nat.{◌-◌}
use mathlib.Core.Path.{◌≡◌}
use lib.ListN.{length}
use Rattle.prepared.specs.Held.{held}
use Rattle.reaching.proofs.Turning.{Left}
use Rattle.reaching.proofs.pass.Given as goal

abbrev pub invariant-loop-ran : goal.invariant-loop-ran
invariant-loop-ran l = Left (held l.component) l.log l.fn.start l.going l.at × (length l.scratch ≡ 4096)

abbrev pub decreases-loop-ran : goal.decreases-loop-ran
decreases-loop-ran l = length l.log - l.at
