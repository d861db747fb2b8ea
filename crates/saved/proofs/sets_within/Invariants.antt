-- `sets_within` meets its contract. The sets of each of the first t tasks lie within it.
use Rattle.std.proofs.Common.{◌≡◌, ℕ, ◌<◌, true}
use Rattle.prepared.specs.Held.{held}
use Rattle.saved.specs.Rows.{own_lists}
use Rattle.saved.proofs.sets_within.Given as goal

abbrev pub invariant-loop-t : goal.invariant-loop-t
invariant-loop-t l = (j : ℕ) → j < l.t → own_lists (held l.component) l.values j ≡ true
