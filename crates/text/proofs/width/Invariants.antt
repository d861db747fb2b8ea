-- `width` meets its contract. The width found from w on is the width, and the power is that of w.
use Prim.Native.Nat.{◌-◌, ◌≤◌, ◌^◌}
use mathlib.Core.Path.{◌≡◌}
use Rattle.text.specs.Number.{width_from, width_of}
use Rattle.text.proofs.width.Given as goal

abbrev pub invariant-loop-w : goal.invariant-loop-w
invariant-loop-w l = (l.w ≤ 19) × (l.power ≡ 10 ^ l.w) × (width_from (20 - l.w) l.w l.n ≡ width_of l.n)
