-- Sets: reading and writing one undo each other, and which digit holds which member.
use Prim.Native.Nat.{ℕ, zero, suc, ◌+◌, ◌-◌, ◌*◌, ◌/◌, ◌%◌, ◌^◌, ◌≤◌, ◌<◌}
use mathlib.Core.Path.{◌≡◌, refl, sym, ap, ◌∙◌}
use mathlib.Core.List.{List}
use mathlib.Core.Bool.{Bool, true, false}
use native.Mathlib.Omega.{arith}
use native.Mathlib.Nat.{pow-suc, mod-lt, div-add-mod, div-lt_iff_lt-mul}
use lib.ListN.{length, get_or, take, drop, length-append, length-drop, take-append-drop}
use lib.Seq.{take_at, drop_at, length-take-le, get_or-take, get_or-drop}
use lib.Dec.{ltb, eqb}
use lib.Pow.{pow-add, shr-shr, mod-mod-pow, field}
use borrow.Author.Tests.{eq-eqb, le-ltb, eqb-true, ltb-false}
use Rattle.std.specs.Prelude.{Option, Some, None}
use Rattle.std.proofs.lemmas.Option.{none-some}
use Rattle.text.specs.Parts.{free}
use Rattle.text.specs.Digits.{glyph_of, value_of, scan, pad}
use Rattle.text.specs.Set.{high_digits, low_digits, halves, read_set, set_text, bit, member}
use Rattle.text.specs.declared.Set.{Set}
use Rattle.text.proofs.Picks.{order, picked, passed}
use Rattle.text.proofs.Digits.{length_pad, free_append, pad_free, pad_digit, scan_pad, scan_below, pad_scan, value_glyph}
use Rattle.text.proofs.Bits.{clear_high}
use Rattle.text.proofs.Members.{member_low, member_high, member_none}

-- the text of a set has its k digits
pub length_set_text : (k : ℕ) (n : Set) → length (set_text k n) ≡ k
unfolding set_text
length_set_text k n =
    rw (length-append (pad 16 (high_digits k) n.high), length_pad 16 (high_digits k) n.high, length_pad 16 (low_digits k) n.low) (omega arith)

-- no byte below the digits' stands in it: no tab and no newline
pub set_text_free : (c k : ℕ) (n : Set) → c < 48 → free c (set_text k n) ≡ true
unfolding set_text
set_text_free c k n h =
    free_append c (pad 16 (high_digits k) n.high) (pad 16 (low_digits k) n.low) (pad_free c 16 (high_digits k) n.high h) (pad_free c 16 (low_digits k) n.low h)

-- k digits hold a set
abbrev pub Held : ℕ → Set → Type 0
Held k n = (n.low < 16 ^ low_digits k) × (n.high < 16 ^ high_digits k)

-- the text of a set that k digits hold is read as that set
pub read_set_text : (k : ℕ) (n : Set) → k ≤ 32 → Held k n → read_set k (set_text k n) ≡ Some n
unfolding read_set set_text
read_set_text k n m h =
    let p = pad 16 (high_digits k) n.high in
    let q = pad 16 (low_digits k) n.low in
    let l = length_pad 16 (high_digits k) n.high in
    let e : 0 * 16 ^ low_digits k + n.low ≡ n.low = omega arith in
    let f : 0 * 16 ^ high_digits k + n.high ≡ n.high = omega arith in
    rw (eq-eqb _ _ (length_set_text k n), le-ltb _ _ m, drop_at p q (high_digits k) l, take_at p q (high_digits k) l)
    (rw (scan_pad 16 (omega arith) (omega arith) (low_digits k) 0 n.low h.0, scan_pad 16 (omega arith) (omega arith) (high_digits k) 0 n.high h.1, e, f))

-- bad form is no set
pub bad_set : {n : Set} → None ≡ Some n → ⊥
bad_set e = none-some _ e

both_halves : (n : Set) (a b : Option ℕ) → halves a b ≡ Some n → (a ≡ Some n.low) × (b ≡ Some n.high)
both_halves n (Some l) (Some h) e =
    let q : ◌≡◌ {A = Set} (record { low = l; high = h }) n = cc in (ap (λ m. Some m.low) q, ap (λ m. Some m.high) q)
both_halves n (Some l) None e = absurd (bad_set e)
both_halves n None b e = absurd (bad_set e)

-- what a field that is read as a set says
record Said (k : ℕ) (s : List ℕ) (n : Set) : Type 0 where
  pub long : length s ≡ k
  pub most : k ≤ 32
  pub low : scan 16 0 (drop (high_digits k) s) ≡ Some n.low
  pub high : scan 16 0 (take (high_digits k) s) ≡ Some n.high
  pub lows : length (drop (high_digits k) s) ≡ low_digits k
  pub highs : length (take (high_digits k) s) ≡ high_digits k

said : (k : ℕ) (s : List ℕ) (n : Set) → read_set k s ≡ Some n → Said k s n
unfolding read_set
said k s n u =
    let t = picked (eqb (length s) k) bad_set u in
    let l : length s ≡ k = eqb-true _ _ t.0 in
    let v = passed (ltb 32 k) bad_set t.1 in
    let h = both_halves n _ _ v.1 in
    record {
      long = l;
      most = ltb-false 32 k v.0;
      low = h.0;
      high = h.1;
      lows = omega (arith, length-drop (high_digits k) s);
      highs = length-take-le (high_digits k) s (omega arith);
    }

-- a field that is read as a set has k digits
pub set_length : (k : ℕ) (s : List ℕ) (n : Set) → read_set k s ≡ Some n → length s ≡ k
set_length k s n u = (said k s n u).long

-- a field that is read as a set is the text of that set, which its k digits hold
pub set_text_read : (k : ℕ) (s : List ℕ) (n : Set) → read_set k s ≡ Some n → (set_text k n ≡ s) × Held k n
unfolding set_text
set_text_read k s n u =
    let r = said k s n u in
    let p : pad 16 (high_digits k) n.high ≡ take (high_digits k) s = rw r.highs at (pad_scan 16 (omega arith) (omega arith) (take (high_digits k) s) n.high r.high) in
    let q : pad 16 (low_digits k) n.low ≡ drop (high_digits k) s = rw r.lows at (pad_scan 16 (omega arith) (omega arith) (drop (high_digits k) s) n.low r.low) in
    let a = scan_below 16 (omega arith) (omega arith) (drop (high_digits k) s) 0 n.low r.low in
    let b = scan_below 16 (omega arith) (omega arith) (take (high_digits k) s) 0 n.high r.high in
    (rw (p, q) (take-append-drop (high_digits k) s), (rw (← r.lows) (omega arith), rw (← r.highs) (omega arith)))

low_bit : (m r : ℕ) → r < 4 → bit m r ≡ bit (m % 16) r
unfolding bit
low_bit m r h =
    let e : 4 ≡ 3 - r + 1 + r = omega arith in
    let p : m % 16 / 2 ^ r ≡ m / 2 ^ r % 2 ^ (3 - r + 1) = ap (λ (k : ℕ). m % 2 ^ k / 2 ^ r) e ∙ field m (3 - r + 1) r in
    rw (p, mod-mod-pow (m / 2 ^ r) (3 - r) 1)

sixteens : (q : ℕ) → 16 ^ q ≡ 2 ^ (4 * q)
sixteens zero = refl
sixteens (suc q) = let e : 4 * suc q ≡ 4 * q + 4 = omega arith in rw (pow-suc, sixteens q, e, pow-add 2 (4 * q) 4)

high_bit : (n i : ℕ) → bit n i ≡ bit (n / 16 ^ (i / 4)) (i % 4)
unfolding bit
high_bit n i =
    rw (sixteens (i / 4), shr-shr n (4 * (i / 4)) (i % 4), div-add-mod i 4)

-- bit i of the value of some digits is bit i % 4 of the one that stands before the last i / 4
half_digit : (s : List ℕ) (n i : ℕ) → scan 16 0 s ≡ Some n → i < 4 * length s → bit n i ≡ bit (value_of (get_or s (length s - 1 - i / 4) 0)) (i % 4)
half_digit s n i u h =
    let q : i / 4 < length s = (div-lt_iff_lt-mul {k = 4} {x = i} {y = length s} (omega arith)).1 (omega arith) in
    let r : i % 4 < 4 = mod-lt i (omega arith) in
    let d : get_or s (length s - 1 - i / 4) 0 ≡ glyph_of (n / 16 ^ (i / 4) % 16) =
    ap (λ (l : List ℕ). get_or l (length s - 1 - i / 4) 0) (sym (pad_scan 16 (omega arith) (omega arith) s n u)) ∙ pad_digit 16 (length s) (i / 4) n q in
    let g : n / 16 ^ (i / 4) % 16 < 16 = mod-lt (n / 16 ^ (i / 4)) (omega arith) in
    rw (d, value_glyph _ g) (high_bit n i ∙ low_bit (n / 16 ^ (i / 4)) (i % 4) r)

-- the places of the digits of both halves
low_place : (k i : ℕ) → i < 4 * k → i < 64 → i < 4 * low_digits k
low_place k i h m = order k 16 (λ l. omega arith) (λ l. omega arith)

low_digit : (k q : ℕ) → q < low_digits k → high_digits k + (low_digits k - 1 - q) ≡ k - 1 - q
low_digit k q h = order k 16 (λ l. omega arith) (λ l. omega arith)

high_place : (k i : ℕ) → i < 4 * k → 64 ≤ i → i - 64 < 4 * high_digits k
high_place k i h m = let l : 16 < k = omega arith in omega arith

high_digit : (k q : ℕ) → 16 ≤ q → q < k → high_digits k - 1 - (q - 16) ≡ k - 1 - q
high_digit k q h l = omega arith

high_among : (k q : ℕ) → 16 ≤ q → q < k → k - 1 - q < high_digits k
high_among k q h l = omega arith

module _ (k : ℕ) (s : List ℕ) (n : Set) (i : ℕ) (u : read_set k s ≡ Some n) where
  -- member i, counted from the low end, is bit i % 4 of the digit that stands before the last i / 4
  pub member_digit : i < 4 * k → member n i ≡ bit (value_of (get_or s (k - 1 - i / 4) 0)) (i % 4)
  member_digit h =
      let r = said k s n u in
      let c = high_digits k in
      let of : ℕ → Bool = λ d. bit (value_of d) (i % 4) in
      order i 64
      (λ m.
      let p = low_place k i h m in
      let q : i / 4 < low_digits k = (div-lt_iff_lt-mul {k = 4} {x = i} {y = low_digits k} (omega arith)).1 (omega (arith, p)) in
      member_low n i m ∙ rw r.lows at (half_digit (drop c s) n.low i r.low (rw r.lows p))
      ∙ ap of (get_or-drop c s (low_digits k - 1 - i / 4) 0 ∙ ap (λ j. get_or s j 0) (low_digit k (i / 4) q)))
      (λ m.
      let p = high_place k i h m in
      let d : (i - 64) / 4 ≡ i / 4 - 16 = omega arith in
      let f : (i - 64) % 4 ≡ i % 4 = omega arith in
      let q : i / 4 < k = (div-lt_iff_lt-mul {k = 4} {x = i} {y = k} (omega arith)).1 (omega (arith, h)) in
      let e = high_digit k (i / 4) (omega (arith, m)) q in
      member_high n i m (omega (arith, r.most)) ∙ rw (r.highs, d, f, e) at (half_digit (take c s) n.high (i - 64) r.high (rw r.highs p))
      ∙ ap of (get_or-take c s (k - 1 - i / 4) 0 (high_among k (i / 4) (omega (arith, m)) q)))

  -- and no digit holds another
  pub member_past : 4 * k ≤ i → member n i ≡ false
  member_past h =
      let b = (set_text_read k s n u).1 in
      order i 64
      (λ m. member_low n i m ∙ clear_high n.low (4 * low_digits k) i (rw (← sixteens (low_digits k)) b.0) (omega arith))
      (λ m. order i 128
      (λ l. member_high n i m l ∙ clear_high n.high (4 * high_digits k) (i - 64) (rw (← sixteens (high_digits k)) b.1) (omega arith))
      (λ l. sym (member_none n i m l)))
