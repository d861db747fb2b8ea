-- `past_half` meets its contract. The digits of nothing are zeros.
use Prim.Native.Nat.{ℕ}
use mathlib.Core.List.{List}
use mathlib.Core.Path.{◌≡◌}
use Rattle.text.specs.Digits.{pad}
use Rattle.text.specs.Standing.{past}
use Rattle.text.proofs.past_half.Goals as goal

zeros : (s : List ℕ) (at n : ℕ) → n ≡ 0 → {r : ℕ} → r ≡ past s at (pad 16 16 0) → r ≡ past s at (pad 16 16 n)
zeros s at n e q = rw e q

pub returns-then-n-eq0 : goal.returns-then-n-eq0
returns-then-n-eq0 c = zeros _ _ _ c.if-n-eq0.true c.past_bytes.ensures
