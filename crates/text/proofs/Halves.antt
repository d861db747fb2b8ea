-- A set read and written by its halves, one law for each exit.
use Prim.Native.Nat.{ℕ, ◌+◌, ◌-◌, ◌≤◌, ◌<◌}
use mathlib.Core.Path.{◌≡◌, refl, ◌∙◌}
use mathlib.Core.List.{List}
use native.Mathlib.Omega.{arith}
use lib.ListN.{length, drop, take, length-drop}
use lib.Seq.{sets}
use borrow.Author.Tests.{lt-ltb, le-ltb, eq-eqb, ne_eqb}
use Rattle.std.specs.Prelude.{Option, Some, None}
use Rattle.text.specs.Digits.{scan, pad}
use Rattle.text.specs.Set.{high_digits, low_digits, halves, read_set, set_text}
use Rattle.text.specs.declared.Set.{Set}
use Rattle.text.proofs.Digits.{length_pad}
use Rattle.text.proofs.Puts.{sets_append}
use Rattle.text.proofs.Seeking.{part_rest}

-- what the digits of a half say: those behind its zeros say the same
module _ (s : List ℕ) (i : ℕ) where
  pub half_fits : length s ≤ 16 → length (take (length s - i) (drop i s)) ≤ 16
  half_fits h = rw (part_rest s i) (omega (arith, length-drop i s))

-- what a field says as a set
module _ (k : ℕ) (s : List ℕ) where
  -- not so many digits
  pub set_bad : (length s ≡ k → ⊥) → None ≡ read_set k s
  unfolding read_set
  set_bad h = rw (ne_eqb _ _ h)

  module _ (l : length s ≡ k) where
    -- more digits than two halves have
    pub set_wide : 32 < k → None ≡ read_set k s
    unfolding read_set
    set_wide h = rw (eq-eqb _ _ l, lt-ltb _ _ h)

    -- the digits of its halves, and what those of the low half say
    module _ (m : k ≤ 32) (cut : ℕ) (q : cut ≡ k - 16) (a b : List ℕ) (x : a ≡ take cut s) (y : b ≡ drop cut s) (low : Option ℕ) (f : low ≡ scan 16 0 b) where
      said : (high : Option ℕ) → high ≡ scan 16 0 a → halves low high ≡ read_set k s
      unfolding read_set
      said high g = rw (eq-eqb _ _ l, le-ltb _ _ m, f, g, x, y, q)

      -- the low half is bad
      pub set_low : low ≡ None → None ≡ read_set k s
      set_low u = rw u at (said (scan 16 0 a) refl)

      module _ (v : ℕ) (u : low ≡ Some v) (high : Option ℕ) (g : high ≡ scan 16 0 a) where
        -- the high half is bad
        pub set_high : high ≡ None → None ≡ read_set k s
        set_high w = rw (u, w) at (said high g)

        -- both are read
        pub set_is : (w : ℕ) → high ≡ Some w → Some (record { low = v; high = w }) ≡ read_set k s
        set_is w e = rw (u, e) at (said high g)

-- the text of a set: its high half is written, then its low half behind it
module _ (buf : List ℕ) (at k : ℕ) (cut : ℕ) (q : cut ≡ k - 16) where
  -- both make the text
  pub set_laid : (n : Set) (mid after : List ℕ) → mid ≡ sets buf at (pad 16 cut n.high) → after ≡ sets mid (at + cut) (pad 16 (k - cut) n.low) → after ≡ sets buf at (set_text k n)
  unfolding set_text
  set_laid n mid after e f = f ∙ rw (e, sets_append buf at (pad 16 (high_digits k) n.high) (pad 16 (low_digits k) n.low), length_pad 16 (high_digits k) n.high, q)
