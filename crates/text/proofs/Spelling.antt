-- Digits read and written one by one: `now` is what the definition says of what is left, `r` what it says of the whole.
use Prim.Native.Nat.{ℕ, suc, ◌+◌, ◌-◌, ◌*◌, ◌/◌, ◌%◌, ◌^◌, ◌≤◌, ◌<◌}
use mathlib.Core.Path.{◌≡◌, refl, ◌∙◌}
use mathlib.Core.List.{List, [], ◌∷◌, ◌++◌}
use native.Mathlib.Omega.{arith}
use native.Mathlib.Numerals.{add-one}
use native.Mathlib.Nat.{pow-suc, pow-le-pow_right}
use lib.Arith.{digits_lt}
use lib.ListN.{length, drop, set}
use lib.Seq.{sets}
use borrow.Author.Tests.{lt-ltb, le-ltb, eqb-true}
use lib.Dec.{ltb, eqb}
use Rattle.std.specs.Prelude.{Option, Some, None, cond, not, unwrap_or}
use Rattle.std.specs.List.{position_or_len}
use Rattle.std.proofs.lemmas.List.Sums.{prefix_len-le-length}
use Rattle.text.specs.Digits.{glyph_of, value_of, scan, pad}
use Rattle.text.proofs.Picks.{cases, order}
use Rattle.text.proofs.Digits.{length_pad}
use Rattle.text.proofs.Puts.{sets_append, sets_set}

-- how large the value of a run of digits can be
module _ (base v i d : ℕ) (b : v < base ^ i) (l : d < base) where
  -- a digit more gives a value below the next power
  pub scan_room : v * base + d < base ^ (i + 1)
  scan_room = rw (add-one, pow-suc) (digits_lt b l)

  module _ (n : ℕ) (h : i < n) (m : base ^ n ≤ 18446744073709551616) where
    -- so it fits while the last power does
    pub scan_fits : v * base + d < 18446744073709551616
    scan_fits = let k : base ^ (i + 1) ≤ base ^ n = pow-le-pow_right (omega arith) (omega arith) in omega (arith, scan_room)

    -- and so it does before the digit is added
    pub scan_shifts : v * base < 18446744073709551616
    scan_shifts = omega (arith, scan_fits)

-- the digits of a number, from the last on
module _ (buf : List ℕ) (at base j left : ℕ) (r : List ℕ) (now : sets buf at (pad base j left) ≡ r) where
  -- the last digit is stored, and the others are left
  pub put_turn : (g : ℕ) → g ≡ glyph_of (left % base) → 0 < j → sets (set buf (at + (j - 1)) g) at (pad base (j - 1) (left / base)) ≡ r
  put_turn g e h =
      let p = pad base (j - 1) (left / base) in
      let l : length p ≡ j - 1 = length_pad base (j - 1) (left / base) in
      let q : j ≡ suc (j - 1) = omega arith in
      let then : sets buf at (p ++ glyph_of (left % base) ∷ []) ≡ r = rw q at now in
      rw (e, sets_set buf at p (at + (j - 1)) (glyph_of (left % base)) (omega arith))
      (rw (sets_append buf at p (glyph_of (left % base) ∷ []), l) at then)

-- how many zeros stand before other digits
abbrev zeros : List ℕ → ℕ
zeros s = position_or_len (λ b. not (eqb b 48)) s

-- they add nothing
zeros_none : (s : List ℕ) → scan 16 0 (drop (zeros s) s) ≡ scan 16 0 s
unfolding value_of
zeros_none [] = refl
zeros_none (b ∷ bs) = cases (eqb b 48) (λ e. let q : zeros (b ∷ bs) ≡ suc (zeros bs) = rw e (omega arith) in rw (q, eqb-true b 48 e) (zeros_none bs)) (λ e. rw e)

-- whether or not any other digit stands behind them
pub zeros_past : (s : List ℕ) (r : Option ℕ) (n : ℕ) → r ≡ cond (ltb (zeros s) (length s)) (Some (zeros s)) None → n ≡ unwrap_or r (length s)
    → (n ≤ length s) × (scan 16 0 (drop n s) ≡ scan 16 0 s)
zeros_past s r n e f =
    let l : zeros s ≤ length s = prefix_len-le-length _ s in
    let q : n ≡ zeros s = order (zeros s) (length s) (λ h. f ∙ rw (e, lt-ltb _ _ h)) (λ h. f ∙ rw (e, le-ltb _ _ h) (omega arith)) in
    (omega arith, rw q (zeros_none s))

-- fewer digits are no larger
pub power_fits : (base n m : ℕ) → 0 < base → n ≤ m → base ^ m ≤ 18446744073709551616 → base ^ n ≤ 18446744073709551616
power_fits base n m p h l = let k : base ^ n ≤ base ^ m = pow-le-pow_right p h in omega arith
