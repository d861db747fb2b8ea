-- A decimal number: its width found power by power, and each exit of reading and writing it.
use Prim.Native.Nat.{ℕ, suc, ◌+◌, ◌-◌, ◌*◌, ◌^◌, ◌≤◌, ◌<◌}
use mathlib.Core.Path.{◌≡◌, sym, ◌∙◌}
use mathlib.Core.List.{List}
use native.Mathlib.Omega.{arith}
use native.Mathlib.Numerals.{add-one}
use native.Mathlib.Nat.{pow-suc, pow-le-pow_right}
use lib.ListN.{length, get_or}
use lib.Seq.{sets}
use borrow.Author.Tests.{lt-ltb, le-ltb, eq-eqb, ne_eqb}
use Rattle.std.specs.Prelude.{Option, None}
use Rattle.text.specs.Digits.{scan, pad}
use Rattle.text.specs.Number.{width_from, widest, read_number, width_of, digits}
use Rattle.text.proofs.Numbers.{length_digits}

-- how many digits a number has
module _ (n w r : ℕ) (now : width_from (20 - w) w n ≡ r) where
  module _ (p : ℕ) (e : p ≡ 10 ^ w) (h : w < 20) where
    fuel : 20 - w ≡ suc (20 - suc w)
    fuel = omega arith

    -- the first power above the number
    pub width_here : n < p → w ≡ r
    width_here l = let k : n < 10 ^ w = rw e at l in rw (fuel, lt-ltb _ _ k) at now

    -- a power that is not above it
    pub width_more : p ≤ n → width_from (20 - (w + 1)) (w + 1) n ≡ r
    width_more l = let k : 10 ^ w ≤ n = rw e at l in rw (add-one w) (rw (fuel, le-ltb _ _ k) at now)

    -- one more than the widest is the most that there are
    pub width_last : 19 ≤ w → p ≤ n → w + 1 ≡ r
    width_last m l = let z : 20 - (w + 1) ≡ 0 = omega arith in rw z at (width_more l)

-- the powers of ten up to the widest fit
power_most : (w : ℕ) → w ≤ 19 → 10 ^ w ≤ 10000000000000000000
power_most w h = pow-le-pow_right (omega arith) h

-- the next power of ten, and that it fits
module _ (w p : ℕ) (e : p ≡ 10 ^ w) where
  pub power_next : p * 10 ≡ 10 ^ (w + 1)
  power_next = rw (e, add-one, pow-suc)

  pub power_small : w < 19 → p * 10 < 18446744073709551616
  power_small h = omega (arith, power_next, power_most (w + 1) (omega arith))

-- the digits of a number are as many as it is wide
module _ (n w : ℕ) (e : w ≡ width_of n) where
  -- its length is the width that was found
  pub number_length : length (digits n) ≡ w
  number_length = length_digits n ∙ sym e

  -- its digits were written
  pub number_laid : (buf : List ℕ) (at : ℕ) (after : List ℕ) → after ≡ sets buf at (pad 10 w n) → after ≡ sets buf at (digits n)
  unfolding digits
  number_laid buf at after p = rw e at p

-- what a field says as a number
module _ (most : ℕ) (s : List ℕ) where
  -- no digit
  pub number_empty : length s ≡ 0 → None ≡ read_number most s
  unfolding read_number
  number_empty h = rw (eq-eqb _ _ h)

  module _ (a : length s ≡ 0 → ⊥) where
    -- more digits than asked for
    pub number_over : most < length s → None ≡ read_number most s
    unfolding read_number
    number_over h = rw (ne_eqb _ _ a, lt-ltb _ _ h)

    module _ (b : length s ≤ most) where
      -- more digits than are ever read
      pub number_wide : widest < length s → None ≡ read_number most s
      unfolding read_number
      number_wide h = rw (ne_eqb _ _ a, le-ltb _ _ b, lt-ltb _ _ h)

      module _ (c : length s ≤ widest) where
        -- one digit
        pub number_one : (r : Option ℕ) → r ≡ scan 10 0 s → length s ≡ 1 → r ≡ read_number most s
        unfolding read_number
        number_one r e h = rw (ne_eqb _ _ a, le-ltb _ _ b, le-ltb _ _ c, eq-eqb _ _ h) e

        module _ (d : length s ≡ 1 → ⊥) where
          -- a leading zero
          pub number_zero : get_or s 0 0 ≡ 48 → None ≡ read_number most s
          unfolding read_number
          number_zero h = rw (ne_eqb _ _ a, le-ltb _ _ b, le-ltb _ _ c, ne_eqb _ _ d, eq-eqb _ _ h)

          -- several digits
          pub number_more : (r : Option ℕ) → r ≡ scan 10 0 s → (get_or s 0 0 ≡ 48 → ⊥) → r ≡ read_number most s
          unfolding read_number
          number_more r e h = rw (ne_eqb _ _ a, le-ltb _ _ b, le-ltb _ _ c, ne_eqb _ _ d, ne_eqb _ _ h) e
