-- Decimal numbers: how wide one is, and that reading and writing one undo each other.
use Prim.Native.Nat.{ℕ, zero, suc, ◌+◌, ◌-◌, ◌/◌, ◌^◌, ◌≤◌, ◌<◌}
use mathlib.Core.Path.{◌≡◌, sym, ap, ◌∙◌}
use mathlib.Core.List.{List}
use mathlib.Core.Bool.{true}
use native.Mathlib.Omega.{arith}
use native.Mathlib.Nat.{pow-le-pow_right, one-le-pow, le-div_iff_mul-le, div-lt_iff_lt-mul, mod-eq_of_lt, one-mul, pow-succ', div-eq_of_lt}
use lib.ListN.{length, get_or}
use lib.Dec.{ltb, eqb}
use borrow.Author.Tests.{lt-ltb, le-ltb, ne_eqb, ltb-true, ltb-false, eqb-true, eqb-false}
use Rattle.std.specs.Prelude.{Some}
use Rattle.text.specs.Parts.{free}
use Rattle.text.specs.Digits.{glyph_of, scan, pad}
use Rattle.text.specs.Number.{widest, read_number, width_from, width_of, digits}
use Rattle.text.proofs.Picks.{cases, order, passed}
use Rattle.text.proofs.Digits.{bad_is, length_pad, pad_free, pad_digit, scan_pad, scan_below, pad_scan}

pub ten_le : {i j : ℕ} → i ≤ j → 10 ^ i ≤ 10 ^ j
ten_le h = pow-le-pow_right (omega arith) h

-- the width found is among those looked at
within : (f w n : ℕ) → (w ≤ width_from f w n) × (width_from f w n ≤ w + f)
within zero w n = (omega arith, omega arith)
within (suc f) w n =
    let h = within f (suc w) n in
    cases (ltb n (10 ^ w)) (λ e. rw e (omega arith, omega arith)) (λ e. rw e (omega arith, omega arith))

-- and holds the number, unless the looking came to its end
holds : (f w n : ℕ) → width_from f w n < w + f → n < 10 ^ width_from f w n
holds zero w n h = absurd (omega arith)
holds (suc f) w n h =
    cases (ltb n (10 ^ w))
    (λ e. rw e (ltb-true _ _ e))
    (λ e. let k : width_from f (suc w) n < w + suc f = rw e at h in rw e (holds f (suc w) n (omega arith)))

-- and none that holds it is less
least : (f w n j : ℕ) → w ≤ j → n < 10 ^ j → width_from f w n ≤ j
least zero w n j h l = h
least (suc f) w n j h l =
    order n (10 ^ w)
    (λ k. rw (lt-ltb _ _ k) h)
    (λ k. rw (le-ltb _ _ k) (order w j (λ m. least f (suc w) n j m l) (λ m. let p = ten_le m in absurd (omega arith))))

-- a number has 1 to 20 digits
pub width_within : (n : ℕ) → (1 ≤ width_of n) × (width_of n ≤ 20)
unfolding width_of
width_within n = within widest 1 n

-- a number that is below a power of ten has no more digits than that
pub width_bound : (n w : ℕ) → n < 10 ^ w → 1 ≤ w → width_of n ≤ w
unfolding width_of
width_bound n w h l = least widest 1 n w l h

pub width_narrow : (n : ℕ) → width_of n ≤ widest → n < 10 ^ width_of n
unfolding width_of
width_narrow n h = holds widest 1 n (omega arith)

-- the text of a number is as long as the number is wide
pub length_digits : (n : ℕ) → length (digits n) ≡ width_of n
unfolding digits
length_digits n = length_pad 10 (width_of n) n

-- which is no longer than that where the number is below a power of ten
pub digits_short : (n w : ℕ) → n < 10 ^ w → 1 ≤ w → length (digits n) ≤ w
digits_short n w h l = rw (length_digits n) (width_bound n w h l)

-- no byte below the digits' stands in it: no tab and no newline
pub digits_free : (c n : ℕ) → c < 48 → free c (digits n) ≡ true
unfolding digits
digits_free c n h = pad_free c 10 (width_of n) n h

-- the first of the digits that hold a number
first_digit : (j n : ℕ) → n < 10 ^ suc j → get_or (pad 10 (suc j) n) 0 0 ≡ glyph_of (n / 10 ^ j)
first_digit j n h =
    let e : suc j - 1 - j ≡ 0 = omega arith in
    let l : n / 10 ^ j < 10 = (div-lt_iff_lt-mul (one-le-pow j 10 (omega arith))).1 (rw pow-succ' at h) in
    rw (e, mod-eq_of_lt l) at (pad_digit 10 (suc j) j n (omega arith))

zero_glyph : (d : ℕ) → glyph_of d ≡ 48 → d ≡ 0
zero_glyph d h =
    order d 10
    (λ l. let e : 48 + d ≡ 48 = rw (lt-ltb _ _ l) at h in omega arith)
    (λ l. let e : 87 + d ≡ 48 = rw (le-ltb _ _ l) at h in absurd (omega arith))

-- a number of more than one digit does not begin with a zero
no_zero : (n : ℕ) → width_of n ≤ widest → (width_of n ≡ 1 → ⊥) → get_or (digits n) 0 0 ≡ 48 → ⊥
unfolding digits
no_zero n h ne z =
    let w = width_within n in
    let l : 1 < width_of n = order 1 (width_of n) (λ m. m) (λ m. absurd (ne (omega arith))) in
    let j = width_of n - 1 in
    let e : width_of n ≡ suc j = omega arith in
    let b : n < 10 ^ suc j = rw e at (width_narrow n h) in
    let d : n / 10 ^ j ≡ 0 = zero_glyph (n / 10 ^ j) (sym (first_digit j n b) ∙ rw e at z) in
    let o : 10 ^ j ≤ n = order n (10 ^ j) (λ m. let k = width_bound n j m (omega arith) in absurd (omega arith)) (λ m. m) in
    let q = (le-div_iff_mul-le {k = 10 ^ j} {x = 1} {y = n} (one-le-pow j 10 (omega arith))).1 (rw one-mul o) in
    omega arith

-- a number of fewer digits does
zero_first : (n j : ℕ) → j < widest → width_of n ≤ j → get_or (pad 10 (suc j) n) 0 0 ≡ 48
zero_first n j h l =
    let p = ten_le {i = width_of n} {j = j} l in
    let q = ten_le {i = j} {j = suc j} (omega arith) in
    let m : n < 10 ^ j = omega (arith, width_narrow n (omega arith)) in
    first_digit j n (omega arith) ∙ rw (div-eq_of_lt m)

scan_digits : (n : ℕ) → width_of n ≤ widest → scan 10 0 (digits n) ≡ Some n
unfolding digits
scan_digits n h = scan_pad 10 (omega arith) (omega arith) (width_of n) 0 n (width_narrow n h) ∙ ap Some (omega arith)

-- the text of a number of at most so many digits is read as that number
pub read_digits : (most n : ℕ) → width_of n ≤ most → width_of n ≤ widest → read_number most (digits n) ≡ Some n
unfolding read_number
read_digits most n h l =
    let w = width_within n in
    let some : width_of n ≡ 0 → ⊥ = λ e. omega arith in
    rw (length_digits n, ne_eqb _ _ some, le-ltb _ _ h, le-ltb _ _ l)
    (cases (eqb (width_of n) 1)
    (λ e. rw (e, scan_digits n l))
    (λ e. rw (e, ne_eqb _ _ (no_zero n l (eqb-false (width_of n) 1 e)), scan_digits n l)))

-- digits that begin with a zero only where there is but one are the text of their value
written : (s : List ℕ) (n j : ℕ) → scan 10 0 s ≡ Some n → length s ≡ suc j → j < widest → (1 ≤ j → get_or s 0 0 ≡ 48 → ⊥)
    → (digits n ≡ s) × (width_of n ≡ length s)
unfolding digits
written s n j u l h big =
    let b : n < 10 ^ suc j = rw (← l) (let x = scan_below 10 (omega arith) (omega arith) s 0 n u in omega arith) in
    let p : pad 10 (suc j) n ≡ s = rw l at (pad_scan 10 (omega arith) (omega arith) s n u) in
    let o = width_bound n (suc j) b (omega arith) in
    let w = width_within n in
    let e : width_of n ≡ suc j =
    order (width_of n) (suc j)
    (λ k. absurd (big (omega arith) (rw p at (zero_first n j h (omega arith)))))
    (λ k. omega arith) in
    (rw e p, omega arith)

-- a field that is read as a number is the text of that number, which is no wider than asked for
pub digits_read : (most : ℕ) (s : List ℕ) (n : ℕ) → read_number most s ≡ Some n → (digits n ≡ s) × (width_of n ≤ most)
unfolding read_number
digits_read most s n u =
    let a = passed (eqb (length s) 0) bad_is u in
    let b = passed (ltb most (length s)) bad_is a.1 in
    let c = passed (ltb widest (length s)) bad_is b.1 in
    let j = length s - 1 in
    let l : length s ≡ suc j = order 0 (length s) (λ m. omega arith) (λ m. absurd (eqb-false (length s) 0 a.0 (omega arith))) in
    let k : j < widest = omega (arith, ltb-false widest (length s) c.0) in
    let r : (digits n ≡ s) × (width_of n ≡ length s) =
    cases (eqb (length s) 1)
    (λ e. written s n j (rw e at c.1) l k (λ o. let q = eqb-true (length s) 1 e in absurd (omega arith)))
    (λ e. let d = passed (eqb (get_or s 0 0) 48) bad_is (rw e at c.1) in written s n j d.1 l k (λ o. eqb-false _ _ d.0)) in
    (r.0, omega (arith, ltb-false most (length s) b.0, r.1))

-- a number of at most so many digits is below that power of ten
pub number_below : (most : ℕ) (p : List ℕ) (v : ℕ) → read_number most p ≡ Some v → v < 10 ^ most
unfolding read_number
number_below most p v u =
    let a = passed (eqb (length p) 0) bad_is u in
    let b = passed (ltb most (length p)) bad_is a.1 in
    let c = passed (ltb widest (length p)) bad_is b.1 in
    let below : scan 10 0 p ≡ Some v → v < 10 ^ most =
    λ s.
    let l : 10 ^ length p ≤ 10 ^ most = pow-le-pow_right (omega arith) (ltb-false most (length p) b.0) in
    omega (arith, scan_below 10 (omega arith) (omega arith) p 0 v s) in
    cases (eqb (length p) 1)
    (λ e. below (rw e at c.1))
    (λ e. below (passed (eqb (get_or p 0 0) 48) bad_is (rw e at c.1)).1)
