-- The first byte c from a place on, looked for four bytes at a time, and the parts of a text that places bound.
use Prim.Native.Nat.{ℕ, zero, suc, ◌+◌, ◌-◌, ◌≤◌, ◌<◌}
use mathlib.Core.Bool.{true}
use mathlib.Core.Path.{◌≡◌, refl, sym, ◌∙◌}
use mathlib.Core.List.{List, [], ◌∷◌}
use native.Mathlib.Omega.{arith}
use lib.ListN.{length, drop, take, length-drop}
use lib.Seq.{drop-drop, take_all, length-take-le}
use borrow.Author.Tests.{ltb-true, lt-ltb}
use Rattle.std.specs.Prelude.{Option, Some, None, cond}
use Rattle.std.specs.List.{position_or_len}
use Rattle.std.proofs.lemmas.Option.{none-some, cond_some}
use lib.Dec.{eqb, ltb}
use Rattle.text.specs.Parts.{before, first_at}
use Rattle.text.proofs.Picks.{cases, order}
use Rattle.text.proofs.Parts.{first_at_le}

-- what an iterator counts before the first c
position_before : (c : ℕ) (s : List ℕ) → position_or_len (λ b. eqb b c) s ≡ before c s
position_before c [] = refl
position_before c (b ∷ bs) = cases (eqb b c) (λ e. rw e) (λ e. let h = position_before c bs in rw e (omega arith))

-- the first c among the first n bytes is the first
before_take : (n c : ℕ) (s : List ℕ) → before c (take n s) < length (take n s) → before c (take n s) ≡ before c s
before_take zero c s h = absurd (omega arith)
before_take (suc n) c [] h = absurd (omega arith)
before_take (suc n) c (b ∷ bs) h =
    cases (eqb b c)
    (λ e. rw e)
    (λ e. let k : suc (before c (take n bs)) < suc (length (take n bs)) = rw e at h in rw (e, before_take n c bs (omega arith)))

-- where it is not among them it stands as far behind them
before_drop : (n c : ℕ) (s : List ℕ) → n ≤ length s → length (take n s) ≤ before c (take n s) → n + before c (drop n s) ≡ before c s
before_drop zero c s l h = omega arith
before_drop (suc n) c [] l h = absurd (omega arith)
before_drop (suc n) c (b ∷ bs) l h =
    cases (eqb b c)
    (λ e. let k : suc (length (take n bs)) ≤ 0 = rw e at h in absurd (omega arith))
    (λ e.
    let k : suc (length (take n bs)) ≤ suc (before c (take n bs)) = rw e at h in
    let r = before_drop n c bs (omega arith) (omega arith) in
    rw e (omega arith))

-- the first c, looked for among four bytes
module _ (s : List ℕ) (i c r : ℕ) (now : first_at s i c ≡ r) (l : i < length s - 3) (o : Option ℕ) (part : List ℕ) (p : part ≡ take (i + 4 - i) (drop i s))
    (e : o ≡ cond (ltb (position_or_len (λ b. eqb b c) part) (length part)) (Some (position_or_len (λ b. eqb b c) part)) None) where
  four : part ≡ take 4 (drop i s)
  four = let q : i + 4 - i ≡ 4 = omega arith in rw q at p

  -- it is there
  pub find_among : (k : ℕ) → o ≡ Some k → i + k ≡ r
  find_among k u =
      let t = cond_some _ _ _ (sym e ∙ u) in
      let q = position_before c part in
      let h : before c (take 4 (drop i s)) < length (take 4 (drop i s)) = rw four at (rw q at (ltb-true _ _ t.0)) in
      let f : before c (take 4 (drop i s)) ≡ k = rw four at (sym q ∙ t.1) in
      let n : i + before c (drop i s) ≡ r = now in
      omega (arith, before_take 4 c (drop i s) h)

  -- it is at none of them
  pub find_past : o ≡ None → first_at s (i + 4) c ≡ r
  find_past u =
      let q = position_before c part in
      let h : length (take 4 (drop i s)) ≤ before c (take 4 (drop i s)) =
      order (before c part) (length part) (λ g.
      let y : ltb (position_or_len (λ b. eqb b c) part) (length part) ≡ true = rw (q, lt-ltb _ _ g) in
      absurd (none-some _ (rw (u, y) at e)))
      (λ g. rw four at g) in
      let m : 4 ≤ length (drop i s) = omega (arith, length-drop i s) in
      let f = before_drop 4 c (drop i s) m h in
      let n : i + before c (drop i s) ≡ r = now in
      rw (← drop-drop 4 i s) (omega arith)

-- the first bytes of a text are as many as are asked for
pub part_long : (s : List ℕ) (e : ℕ) → e ≤ length s → e ≡ length (take e s)
part_long s e h = sym (length-take-le e s h)

-- what is left of a text from a place on
pub part_rest : (s : List ℕ) (i : ℕ) → take (length s - i) (drop i s) ≡ drop i s
part_rest s i = take_all (length s - i) (drop i s) (omega (arith, length-drop i s))

-- a place and the first c from there
module _ (s : List ℕ) (at e c : ℕ) (h : at ≤ length s) (f : e ≡ first_at s at c) where
  -- it does not stand before that place
  pub part_starts : at ≤ e
  part_starts = rw f (first_at_le c s at h).0

  -- it stands inside the text, or is the end
  pub part_ends : e ≤ length s
  part_ends = rw f (first_at_le c s at h).1

-- so does the first c of the whole text
pub first_ends : (s : List ℕ) (e c : ℕ) → e ≡ first_at s 0 c → e ≤ length s
first_ends s e c f = part_ends s 0 e c (omega arith) f
