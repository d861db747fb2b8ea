-- Digits of a base up to sixteen: a number padded to k digits, and the value of a run of digits, undo each other.
use Prim.Native.Nat.{ℕ, zero, suc, ◌+◌, ◌-◌, ◌*◌, ◌/◌, ◌%◌, ◌^◌, ◌≤◌, ◌<◌}
use mathlib.Core.Path.{◌≡◌, refl, ap, ◌∙◌}
use mathlib.Core.List.{List, [], ◌∷◌, ◌++◌}
use mathlib.Core.Bool.{true}
use native.Mathlib.Omega.{arith}
use native.Mathlib.Nat.{pow-zero, pow-suc, pow-succ', one-mul, zero-mul, add-mul, mul_assoc}
use native.Mathlib.Nat.{div-one, div-add-mod', div-lt_iff_lt-mul, div-div-eq-div-mul, mod-lt, mod-eq_of_lt}
use lib.Arith.{digits_div, digits_mod, digits_lt}
use lib.ListN.{length, get_or, length-append, get_or-append}
use lib.Seq.{get_or_at}
use lib.Dec.{ltb, eqb}
use borrow.Author.Tests.{lt-ltb, le-ltb, ne_eqb, ltb-true}
use Rattle.std.specs.Prelude.{Some, None}
use Rattle.std.proofs.lemmas.Option.{none-some}
use Rattle.text.specs.Parts.{free}
use Rattle.text.specs.Digits.{glyph_of, value_of, scan, pad}
use Rattle.text.proofs.Picks.{order, picked, passed, false_true}

-- bad form is no value
pub bad_is : {n : ℕ} → None ≡ Some n → ⊥
bad_is e = none-some _ e

-- the digit of a byte, by which byte it is
module _ (b : ℕ) where
  -- below 0
  pub value_low : b < 48 → value_of b ≡ 16
  unfolding value_of
  value_low h = rw (lt-ltb _ _ h)

  -- 0 to 9
  pub value_decimal : 48 ≤ b → b < 58 → value_of b ≡ b - 48
  unfolding value_of
  value_decimal h k = rw (le-ltb _ _ h, lt-ltb _ _ k)

  -- between 9 and a
  pub value_between : 58 ≤ b → b < 97 → value_of b ≡ 16
  unfolding value_of
  value_between h k = let l : 48 ≤ b = omega arith in rw (le-ltb _ _ l, le-ltb _ _ h, lt-ltb _ _ k)

  -- a to f
  pub value_letter : 97 ≤ b → b < 103 → value_of b ≡ b - 87
  unfolding value_of
  value_letter h k =
      let l : 48 ≤ b = omega arith in
      let m : 58 ≤ b = omega arith in
      rw (le-ltb _ _ l, le-ltb _ _ m, le-ltb _ _ h, lt-ltb _ _ k)

  -- above f
  pub value_high : 103 ≤ b → value_of b ≡ 16
  unfolding value_of
  value_high h =
      let l : 48 ≤ b = omega arith in
      let m : 58 ≤ b = omega arith in
      let o : 97 ≤ b = omega arith in
      rw (le-ltb _ _ l, le-ltb _ _ m, le-ltb _ _ o, le-ltb _ _ h)

-- the digit of a digit's byte
pub value_glyph : (d : ℕ) → d < 16 → value_of (glyph_of d) ≡ d
value_glyph d h =
    order d 10
    (λ l. rw (lt-ltb _ _ l) (value_decimal (48 + d) (omega arith) (omega arith) ∙ omega arith))
    (λ l. rw (le-ltb _ _ l) (value_letter (87 + d) (omega arith) (omega arith) ∙ omega arith))

-- the byte of a byte's digit
pub glyph_value : (b : ℕ) → value_of b < 16 → glyph_of (value_of b) ≡ b
glyph_value b h =
    order b 48 (λ l. absurd (omega (arith, value_low b l)))
    (λ l. order b 58 (λ m. let k : b - 48 < 10 = omega arith in rw (value_decimal b l m, lt-ltb _ _ k) (omega arith))
    (λ m. order b 97 (λ o. absurd (omega (arith, value_between b m o)))
    (λ o. order b 103 (λ u. let k : 10 ≤ b - 87 = omega arith in rw (value_letter b o u, le-ltb _ _ k) (omega arith))
    (λ u. absurd (omega (arith, value_high b u))))))

-- as many bytes as digits
pub length_pad : (base k n : ℕ) → length (pad base k n) ≡ k
length_pad base zero n = refl
length_pad base (suc k) n = rw (length-append (pad base k (n / base)), length_pad base k (n / base)) (omega arith)

-- two texts without c make one
pub free_append : (c : ℕ) (p q : List ℕ) → free c p ≡ true → free c q ≡ true → free c (p ++ q) ≡ true
free_append c [] q h k = k
free_append c (b ∷ bs) q h k = let t = passed (eqb b c) false_true h in rw t.0 (free_append c bs q t.1 k)

-- no byte below the digits' stands in them
pub pad_free : (c base k n : ℕ) → c < 48 → free c (pad base k n) ≡ true
pad_free c base zero n h = refl
pad_free c base (suc k) n h =
    free_append c (pad base k (n / base)) (glyph_of (n % base) ∷ []) (pad_free c base k (n / base) h)
    (order (n % base) 10
    (λ l. let e : 48 + n % base ≡ c → ⊥ = λ e. omega arith in rw (lt-ltb _ _ l, ne_eqb _ _ e))
    (λ l. let e : 87 + n % base ≡ c → ⊥ = λ e. omega arith in rw (le-ltb _ _ l, ne_eqb _ _ e)))

-- the digit that counts base ^ q is the one before the last q
pub pad_digit : (base k q n : ℕ) → q < k → get_or (pad base k n) (k - 1 - q) 0 ≡ glyph_of (n / base ^ q % base)
pad_digit base zero q n h = absurd (omega arith)
pad_digit base (suc k) zero n h =
    let e : length (pad base k (n / base)) ≡ suc k - 1 - 0 = length_pad base k (n / base) ∙ omega arith in
    rw (get_or_at (pad base k (n / base)) (glyph_of (n % base)) [] 0 _ e, pow-zero base, div-one n)
pad_digit base (suc k) (suc q) n h =
    let e : suc k - 1 - suc q ≡ k - 1 - q = omega arith in
    let l : k - 1 - q < length (pad base k (n / base)) = rw length_pad (omega arith) in
    rw (e, get_or-append (pad base k (n / base)) (glyph_of (n % base) ∷ []) 0 _ l)
    (rw (pow-succ' base q, ← div-div-eq-div-mul n base (base ^ q)) (pad_digit base k q (n / base) (omega arith)))

-- digits after digits
pub scan_append : (base v x : ℕ) (p q : List ℕ) → scan base v p ≡ Some x → scan base v (p ++ q) ≡ scan base x q
scan_append base v x [] q h = let e : v ≡ x = cc in rw e
scan_append base v x (b ∷ bs) q h =
    let t = picked (ltb (value_of b) base) bad_is h in
    rw t.0 (scan_append base (v * base + value_of b) x bs q t.1)

-- what a run of digits that was read is: its value after v, and the digits of that value
pub record Run (base v x : ℕ) (s : List ℕ) : Type 0 where
  pub rest : ℕ
  pub total : x ≡ v * base ^ length s + rest
  pub below : rest < base ^ length s
  pub same : pad base (length s) rest ≡ s

module _ (base : ℕ) (pos : 0 < base) (most : base ≤ 16) where
  -- digits put before or after: v base ^ (k + 1) is (v base) base ^ k, and (v base ^ k) base
  lift_front : (v k : ℕ) → v * base ^ suc k ≡ v * base * base ^ k
  lift_front v k = rw (pow-succ', mul_assoc)

  lift_back : (v k : ℕ) → v * base ^ suc k ≡ v * base ^ k * base
  lift_back v k = rw (pow-suc, mul_assoc)

  -- a number padded to k digits that hold it is read back, after v
  pub scan_pad : (k v n : ℕ) → n < base ^ k → scan base v (pad base k n) ≡ Some (v * base ^ k + n)
  scan_pad zero v n h = let l : n < 1 = rw pow-zero at h in ap Some (rw pow-zero (omega arith))
  scan_pad (suc k) v n h =
      let l : n / base < base ^ k = (div-lt_iff_lt-mul pos).1 (rw pow-suc at h) in
      let m : n % base < base = mod-lt n pos in
      let g : value_of (glyph_of (n % base)) ≡ n % base = value_glyph (n % base) (omega arith) in
      rw (scan_append base v (v * base ^ k + n / base) (pad base k (n / base)) (glyph_of (n % base) ∷ []) (scan_pad k v (n / base) l), g, lt-ltb _ _ m)
      (ap Some (rw (add-mul (v * base ^ k) (n / base) base) (omega (arith, div-add-mod' n base, lift_back v k))))

  -- a digit put before k others
  pad_head : (k d r : ℕ) → d < base → r < base ^ k → pad base (suc k) (d * base ^ k + r) ≡ glyph_of d ∷ pad base k r
  pad_head zero d r h l =
      let m : r < 1 = rw pow-zero at l in
      let e : d * 1 + r ≡ d = omega arith in
      rw (pow-zero, e, mod-eq_of_lt h)
  pad_head (suc k) d r h l =
      let m : r % base < base = mod-lt r pos in
      let q = div-add-mod' r base in
      let e : d * base ^ suc k + r ≡ (d * base ^ k + r / base) * base + r % base = rw add-mul (omega (arith, lift_back d k)) in
      let j : r / base < base ^ k = (div-lt_iff_lt-mul pos).1 (rw pow-suc at l) in
      rw (e, digits_div (d * base ^ k + r / base) m, digits_mod (d * base ^ k + r / base) m, pad_head k d (r / base) h j)

  -- every run of digits that is read is a padded number
  pub scan_run : (s : List ℕ) (v x : ℕ) → scan base v s ≡ Some x → Run base v x s
  scan_run [] v x e =
      let q : v ≡ x = cc in
      record { rest = 0; total = rw pow-zero (omega arith); below = rw pow-zero (omega arith); same = refl }
  scan_run (b ∷ bs) v x e =
      let t = picked (ltb (value_of b) base) bad_is e in
      let d : value_of b < base = ltb-true _ _ t.0 in
      let r = scan_run bs (v * base + value_of b) x t.1 in
      let k = length bs in
      record {
        rest = value_of b * base ^ k + r.rest;
        total = omega (arith, r.total, add-mul (v * base) (value_of b) (base ^ k), lift_front v k);
        below = rw pow-succ' (digits_lt d r.below);
        same = rw (pad_head k (value_of b) r.rest d r.below, r.same, glyph_value b (omega arith));
      }

  -- a run of k digits after v is below (v + 1) base ^ k
  pub scan_below : (s : List ℕ) (v x : ℕ) → scan base v s ≡ Some x → x < (v + 1) * base ^ length s
  scan_below s v x e =
      let r = scan_run s v x e in
      omega (arith, r.total, r.below, add-mul v 1 (base ^ length s), one-mul (base ^ length s))

  -- a run of digits is its value, padded to as many
  pub pad_scan : (s : List ℕ) (x : ℕ) → scan base 0 s ≡ Some x → pad base (length s) x ≡ s
  pad_scan s x e =
      let r = scan_run s 0 x e in
      let q : x ≡ r.rest = omega (arith, r.total, zero-mul (base ^ length s)) in
      rw q r.same
