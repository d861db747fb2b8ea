-- The sets N and R of each task as numbers: the bits of the activities, added one after another.
use Prim.Native.Nat.{ℕ, suc, ◌+◌, ◌*◌, ◌%◌, ◌^◌, ◌≤◌, ◌<◌}
use mathlib.Core.Bool.{Bool, true, false}
use mathlib.Core.Path.{◌≡◌, ◌∙◌}
use native.Mathlib.Omega.{arith}
use lib.Dec.{eqb}
use lib.Pow.{pow_mono}
use mir.Syntax.{w64}
use mir.Val.{Fits}
use Rattle.text.proofs.Bits.{power_is}
use Rattle.model.specs.Limits.{most_acts}
use Rattle.model.specs.Tests.{◌and◌, sum}
use Rattle.model.specs.Tables.{Table}
use Rattle.saved.specs.Rows.{bit_of}
use Rattle.saved.proofs.Bits.{bits_low}

-- the bit of a member
pub bit_yes : (b : Bool) (a : ℕ) → a < 64 → b ≡ true → 1 * 2 ^ a % 2 ^ 64 ≡ bit_of b a
bit_yes b a h e = rw e (power_is a h ∙ omega arith)

-- the bit of an activity that is none
pub bit_no : (b : Bool) (a : ℕ) → b ≡ false → 0 ≡ bit_of b a
bit_no b a e = rw e (omega arith)

-- a bit is at most its power of two
bit_most : (b : Bool) (a : ℕ) → bit_of b a ≤ 2 ^ a
bit_most true a = omega arith
bit_most false a = omega arith

-- the bits of those of the first n activities that belong to a task and pass a test
abbrev pub bits_of : Table → (ℕ → Bool) → ℕ → ℕ → ℕ
bits_of K p t n = sum n (λ a. bit_of (eqb (K.task a) t and p a) a)

-- there is room for one bit more
pub bits_fit : (K : Table) (p : ℕ → Bool) (t a x v : ℕ) → x ≡ bits_of K p t a → v ≡ bit_of (p a) a → a < most_acts → Fits w64 (x + v)
bits_fit K p t a x v q e m = record { fits = omega (arith, bits_low (λ i. eqb (K.task i) t and p i) a, bit_most (p a) a, pow_mono {i = suc a} {j = 64} (omega arith)) }
