-- `past_number` meets its contract: its text is as many digits as it has.
use Prim.Native.Nat.{ℕ}
use mathlib.Core.List.{List}
use mathlib.Core.Path.{◌≡◌}
use Rattle.text.specs.Digits.{pad}
use Rattle.text.specs.Number.{width_of, digits}
use Rattle.text.specs.Standing.{past}
use Rattle.text.proofs.past_number.Goals as goal

spelled : (s : List ℕ) (at w n : ℕ) → w ≡ width_of n → {r : ℕ} → r ≡ past s at (pad 10 w n) → r ≡ past s at (digits n)
unfolding digits
spelled s at w n e q = rw (← e) q

pub returns : goal.returns
returns c = spelled _ _ _ _ c.width.ensures c.past_digits.ensures
