-- `is_clear` meets its contract. No codel that one of the activities before executes conflicts with this one.
use Rattle.std.proofs.Common.{◌≡◌, ◌<◌, ℕ, true}
use Rattle.prepared.specs.Held.{held}
use Rattle.conflicts.proofs.Walking.{far_at}
use Rattle.conflicts.proofs.is_clear.Given as goal

abbrev pub invariant-loop-other : goal.invariant-loop-other
invariant-loop-other l = (k : ℕ) → k < l.other-index → far_at (held l.component) l.busy l.codel k ≡ true
