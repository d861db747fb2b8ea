-- A text looked for at a place: part after part, and up to the newline of its line; and how bytes and digits are compared one by one.
use Prim.Native.Nat.{ℕ, suc, ◌+◌, ◌-◌, ◌/◌, ◌%◌, ◌≤◌, ◌<◌}
use mathlib.Core.Bool.{Bool, true, false, ◌&&◌}
use mathlib.Core.Path.{◌≡◌, refl, sym, ap, subst, ◌∙◌}
use mathlib.Core.List.{List, [], ◌∷◌, ◌++◌, append-nil, append_assoc}
use native.Mathlib.Omega.{arith}
use native.Mathlib.Numerals.{add-one}
use lib.Dec.{leb, ltb, eqb}
use lib.ListN.{length, get_or, take, drop, drop_of_length-le}
use lib.Seq.{drop-cons}
use borrow.Author.Tests.{lt-ltb, le-ltb, leb-false, eq-eqb, ne_eqb, eqb-true, eqb-false}
use Rattle.text.specs.Parts.{pick, free, before, first_at}
use Rattle.text.specs.Digits.{glyph_of, pad}
use Rattle.text.specs.Words.{same_list}
use Rattle.text.specs.Standing.{is_at, past}
use Rattle.text.proofs.Picks.{cases, order, false_true}
use Rattle.text.proofs.Digits.{length_pad}

-- a byte stands at a place inside, or it does not
at_is : (s : List ℕ) (at b : ℕ) → at < length s → is_at s at b ≡ eqb (get_or s at 0) b
at_is s at b h = rw (lt-ltb _ _ h)

at_out : (s : List ℕ) (at b : ℕ) → length s ≤ at → is_at s at b ≡ false
at_out s at b h = rw (le-ltb _ _ h)

at_inside : (s : List ℕ) (at b : ℕ) → is_at s at b ≡ true → (at < length s) × (get_or s at 0 ≡ b)
at_inside s at b e =
    order at (length s)
    (λ h. (h, eqb-true _ _ (sym (at_is s at b h) ∙ e)))
    (λ h. absurd (false_true (sym (at_out s at b h) ∙ e)))

-- nothing stands at the end
past_end : (s t : List ℕ) → past s (length s) t ≡ length s
unfolding past
past_end s [] = refl
past_end s (b ∷ t) = rw (at_out s (length s) b (omega arith))

-- a text in two parts
pub past_append : (s : List ℕ) (at : ℕ) (a b : List ℕ) → past s at (a ++ b) ≡ past s (past s at a) b
unfolding past
past_append s at [] b = refl
past_append s at (x ∷ a) b = cases (is_at s at x) (λ e. rw e (past_append s (at + 1) a b)) (λ e. rw e (sym (past_end s b)))

-- the place behind it stands inside or is the end
pub past_within : (s : List ℕ) (at : ℕ) (t : List ℕ) → at ≤ length s → past s at t ≤ length s
unfolding past
past_within s at [] h = h
past_within s at (b ∷ t) h =
    cases (is_at s at b)
    (λ e. let l = (at_inside s at b e).0 in rw e (past_within s (at + 1) t (omega arith)))
    (λ e. rw e (omega arith))

-- a text that is longer than what is left does not stand there
pub past_short : (s : List ℕ) (at : ℕ) (t : List ℕ) → at ≤ length s → length s < at + length t → length s ≡ past s at t
unfolding past
past_short s at [] h l = absurd (omega arith)
past_short s at (b ∷ t) h l =
    cases (is_at s at b)
    (λ e. let i = (at_inside s at b e).0 in rw e (past_short s (at + 1) t (omega arith) (omega arith)))
    (λ e. rw e refl)

-- nor one with another byte
past_other : (s : List ℕ) (at : ℕ) (a : List ℕ) (g : ℕ) (t : List ℕ) → (get_or s (at + length a) 0 ≡ g → ⊥) → past s at (a ++ g ∷ t) ≡ length s
unfolding past
past_other s at [] g t n =
    let z : at ≡ at + 0 = omega arith in
    let m : get_or s at 0 ≡ g → ⊥ = λ e. n (subst (λ k. get_or s k 0 ≡ g) z e) in
    order at (length s) (λ h. rw (at_is s at g h, ne_eqb _ _ m)) (λ h. rw (at_out s at g h))
past_other s at (x ∷ a) g t n =
    cases (is_at s at x)
    (λ e. rw e (past_other s (at + 1) a g t (λ q. let i : at + 1 + length a ≡ at + suc (length a) = omega arith in n (subst (λ k. get_or s k 0 ≡ g) i q))))
    (λ e. rw e)

-- what the test for room says of a text of so many bytes
module _ (s : List ℕ) (at : ℕ) (t : List ℕ) (many : ℕ) (fit : Bool) (e : fit ≡ leb (at + many) (length s)) (l : length t ≡ many) (h : at ≤ length s) where
  pub past_none : fit ≡ false → length s ≡ past s at t
  past_none n = let k : length s < at + many = leb-false (at + many) (length s) (sym e ∙ n) in past_short s at t h (omega arith)

-- Bytes, compared one after another: where all before were alike, those left decide.
module _ (s : List ℕ) (at : ℕ) (t : List ℕ) (alike : Bool) (i : ℕ) (now : past s at t ≡ pick alike (past s (at + i) (drop i t)) (length s)) where
  pub compare_more : i < length t → at + length t ≤ length s → past s at t ≡ pick (alike && eqb (get_or s (at + i) 0) (get_or t i 0)) (past s (at + (i + 1)) (drop (i + 1) t)) (length s)
  unfolding past
  compare_more h l =
      let q : past s (at + i) (drop i t) ≡ pick (eqb (get_or s (at + i) 0) (get_or t i 0)) (past s (at + i + 1) (drop (i + 1) t)) (length s) = rw (drop-cons t i 0 h, at_is s (at + i) (get_or t i 0) (omega arith), add-one i) in
      let z : at + i + 1 ≡ at + (i + 1) = omega arith in
      now ∙ cases alike (λ y. rw (y, q, z)) (λ y. rw y)

  pub compare_alike : i ≡ length t → alike ≡ true → at + length t ≡ past s at t
  unfolding past
  compare_alike h y = let l : length t ≤ i = omega arith in sym (rw (drop_of_length-le t l, h, y) at now)

-- Digits, compared from the last on: those behind place j stand.
pub record Behind (s : List ℕ) (at base k n left j : ℕ) : Type 0 where
  pub rest : List ℕ
  pub split : pad base k n ≡ pad base j left ++ rest
  pub stands : past s (at + j) rest ≡ at + k
  pub most : j ≤ k

pub behind_all : (s : List ℕ) (at base k n : ℕ) → Behind s at base k n n k
unfolding past
behind_all s at base k n = record { rest = []; split = sym (append-nil (pad base k n)); stands = refl; most = omega arith }

module _ {s : List ℕ} {at base k n left j : ℕ} (B : Behind s at base k n left j) where
  module _ (h : 0 < j) where
    one_less : pad base k n ≡ pad base (j - 1) (left / base) ++ glyph_of (left % base) ∷ B.rest
    one_less =
        let z : j ≡ suc (j - 1) = omega arith in
        let q : pad base k n ≡ (pad base (j - 1) (left / base) ++ glyph_of (left % base) ∷ []) ++ B.rest = rw z at B.split in
        q ∙ append_assoc (pad base (j - 1) (left / base)) (glyph_of (left % base) ∷ []) B.rest

    pub behind_more : at + k ≤ length s → {g : ℕ} → g ≡ glyph_of (left % base) → get_or s (at + (j - 1)) 0 ≡ g → Behind s at base k n (left / base) (j - 1)
    unfolding past
    behind_more l e f = record {
      rest = glyph_of (left % base) ∷ B.rest;
      split = one_less;
      stands =
          let z : at + (j - 1) + 1 ≡ at + j = omega arith in
          let m = B.most in
          rw (at_is s (at + (j - 1)) (glyph_of (left % base)) (omega arith), eq-eqb _ _ (f ∙ e), z) B.stands;
      most = let m = B.most in omega arith;
    }

    pub behind_other : {g : ℕ} → g ≡ glyph_of (left % base) → (get_or s (at + (j - 1)) 0 ≡ g → ⊥) → length s ≡ past s at (pad base k n)
    behind_other e f =
        let p = pad base (j - 1) (left / base) in
        let l : length p ≡ j - 1 = length_pad base (j - 1) (left / base) in
        sym (ap (past s at) one_less ∙ past_other s at p (glyph_of (left % base)) B.rest (λ q. f ((rw l at q) ∙ sym e)))

-- A text without newline up to the newline of its line: it is the line where a newline stands behind it.
abbrev pub line_from : List ℕ → ℕ → List ℕ
line_from s at = take (before 10 (drop at s)) (drop at s)

abbrev pub is_line : List ℕ → ℕ → List ℕ → Bool
is_line s at t = pick (ltb (first_at s at 10) (length s)) (same_list (line_from s at) t) false

no_line : (s : List ℕ) (at : ℕ) (t : List ℕ) → length s ≤ at → is_line s at t ≡ false
no_line s at t h = let z : at + 0 ≡ at = omega arith in rw (drop_of_length-le s h, z, le-ltb _ _ h)

other_line : (s : List ℕ) (at : ℕ) (t : List ℕ) → same_list (line_from s at) t ≡ false → is_line s at t ≡ false
other_line s at t e = cases (ltb (first_at s at 10) (length s)) (λ y. rw (y, e)) (λ y. rw y)

free_head : (b : ℕ) (t : List ℕ) → free 10 (b ∷ t) ≡ true → (b ≡ 10 → ⊥) × (free 10 t ≡ true)
free_head b t e = cases (eqb b 10) (λ y. absurd (false_true (rw y at e))) (λ y. (eqb-false _ _ y, rw y at e))

-- the line from one byte on
module _ (s : List ℕ) (at : ℕ) (h : at < length s) where
  here_newline : get_or s at 0 ≡ 10 → before 10 (drop at s) ≡ 0
  here_newline e = rw (drop-cons s at 0 h, eq-eqb _ _ e)

  line_there : (get_or s at 0 ≡ 10 → ⊥) → line_from s at ≡ get_or s at 0 ∷ line_from s (suc at)
  line_there n = rw (drop-cons s at 0 h, ne_eqb _ _ n)

  first_there : (get_or s at 0 ≡ 10 → ⊥) → first_at s at 10 ≡ first_at s (suc at) 10
  first_there n = let q : before 10 (drop at s) ≡ suc (before 10 (drop (suc at) s)) = rw (drop-cons s at 0 h, ne_eqb _ _ n) in omega (arith, q)

  -- a line that begins with another byte
  begins_other : (b : ℕ) (t : List ℕ) → (get_or s at 0 ≡ b → ⊥) → is_line s at (b ∷ t) ≡ false
  begins_other b t n =
      cases (eqb (get_or s at 0) 10)
      (λ y. other_line s at (b ∷ t) (rw (here_newline (eqb-true _ _ y))))
      (λ y. other_line s at (b ∷ t) (rw (line_there (eqb-false _ _ y), ne_eqb _ _ n)))

pub past_line_lem : (s : List ℕ) (at : ℕ) (t : List ℕ) → free 10 t ≡ true → is_at s (past s at t) 10 ≡ is_line s at t
unfolding past
past_line_lem s at [] f =
    order at (length s)
    (λ h.
    cases (eqb (get_or s at 0) 10)
    (λ y. let z : at + 0 ≡ at = omega arith in rw (here_newline s at h (eqb-true _ _ y), z, lt-ltb _ _ h, y))
    (λ y. at_is s at 10 h ∙ y ∙ sym (other_line s at [] (rw (line_there s at h (eqb-false _ _ y))))))
    (λ h. at_out s at 10 h ∙ sym (no_line s at [] h))
past_line_lem s at (b ∷ t) f =
    order at (length s)
    (λ h.
    cases (eqb (get_or s at 0) b)
    (λ y.
    let q : get_or s at 0 ≡ b = eqb-true _ _ y in
    let n : get_or s at 0 ≡ 10 → ⊥ = λ e. (free_head b t f).0 (sym q ∙ e) in
    let i : is_at s at b ≡ true = at_is s at b h ∙ y in
    let r : is_line s at (b ∷ t) ≡ is_line s (suc at) t = rw (line_there s at h n, first_there s at h n, y) in
    rw (i, add-one) (past_line_lem s (suc at) t (free_head b t f).1) ∙ sym r)
    (λ y.
    let i : is_at s at b ≡ false = at_is s at b h ∙ y in
    rw (i) (at_out s (length s) 10 (omega arith)) ∙ sym (begins_other s at h b t (eqb-false _ _ y))))
    (λ h. rw (at_out s at b h) (at_out s (length s) 10 (omega arith)) ∙ sym (no_line s at (b ∷ t) h))

-- and then it ends at that newline
pub past_newline : (s : List ℕ) (at : ℕ) (t : List ℕ) → free 10 t ≡ true → is_at s (past s at t) 10 ≡ true → past s at t ≡ first_at s at 10
unfolding past
past_newline s at [] f e = let q = at_inside s at 10 e in let z : at ≡ at + 0 = omega arith in z ∙ rw (here_newline s at q.0 q.1)
past_newline s at (b ∷ t) f e =
    cases (is_at s at b)
    (λ y.
    let q = at_inside s at b y in
    let n : get_or s at 0 ≡ 10 → ⊥ = λ z. (free_head b t f).0 (sym q.1 ∙ z) in
    let o : is_at s (past s (suc at) t) 10 ≡ true = rw (y, add-one) at e in
    rw (y, add-one) (past_newline s (suc at) t (free_head b t f).1 o) ∙ sym (first_there s at q.0 n))
    (λ y. absurd (false_true (sym (at_out s (length s) 10 (omega arith)) ∙ (rw y at e))))
