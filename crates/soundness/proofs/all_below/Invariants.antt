-- `all_below` meets its contract. The test answered yes at each number below k.
use Rattle.std.proofs.Common.{ℕ, ◌<◌, true}
use Rattle.soundness.proofs.all_below.Given as goal

abbrev pub invariant-loop-k : goal.invariant-loop-k
invariant-loop-k g l = (j : ℕ) → j < l.k → goal.F-post g l.test j true
