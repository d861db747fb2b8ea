-- `past_digits` meets its contract. The digits behind place j stand.
use Prim.Native.Nat.{◌≤◌, ◌+◌}
use lib.ListN.{length}
use Rattle.text.proofs.Standing.{Behind}
use Rattle.text.proofs.past_digits.Given as goal

abbrev pub invariant-loop-j : goal.invariant-loop-j
invariant-loop-j l = Behind l.s l.at l.base l.k l.n l.left l.j × (l.at + l.k ≤ length l.s)
