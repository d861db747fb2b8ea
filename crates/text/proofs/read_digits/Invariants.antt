-- `read_digits` meets its contract. v is below base ^ i after i digits, and reading on after v gives the value of all.
use Prim.Native.Nat.{◌^◌, ◌<◌}
use mathlib.Core.Path.{◌≡◌}
use lib.ListN.{drop}
use Rattle.text.specs.Digits.{scan}
use Rattle.text.proofs.read_digits.Given as goal

abbrev pub invariant-loop-b : goal.invariant-loop-b
invariant-loop-b l = (l.v < l.base ^ l.b-index) × (scan l.base l.v (drop l.b-index l.s) ≡ scan l.base 0 l.s)
