-- Where the whole lines of a part of a log end: one law for each turn and each answer; and what may follow them.
use Prim.Native.Nat.{ℕ, zero, suc, ◌+◌, ◌-◌, ◌≤◌, ◌<◌, zero-le}
use mathlib.Core.Path.{◌≡◌, refl, ap, ◌∙◌}
use mathlib.Core.List.{List, [], ◌∷◌, ◌++◌}
use mathlib.Core.Bool.{Bool, true, false}
use mathlib.Core.Logic.{◌⊎◌, inl, inr}
use native.Mathlib.Omega.{arith}
use lib.ListN.{length, get_or, drop, take, length-take, length-drop, length-append}
use lib.Seq.{take-suc, take-length}
use lib.Dec.{eqb, ltb}
use borrow.Author.Tests.{lt-ltb, le-ltb, ltb-true, ltb-false, eqb-true, eqb-false}
use Rattle.text.specs.Parts.{split_on}
use Rattle.text.proofs.Picks.{cases}
use Rattle.logs.specs.Lines.{longest_row}
use Rattle.stream.specs.Chunk.{last_part, lines_end, whole_lines, chunk_end}
use Rattle.stream.proofs.Pieces.{last_newline, last_other}

-- the last byte of a text is a newline, or another
lines_newline : (p : List ℕ) → lines_end (p ++ 10 ∷ []) ≡ suc (length p)
unfolding lines_end
lines_newline p = rw (last_newline p, length-append p (10 ∷ [])) (omega arith)

lines_other : (p : List ℕ) (b : ℕ) → (b ≡ 10 → ⊥) → lines_end (p ++ b ∷ []) ≡ lines_end p
unfolding lines_end
lines_other p b n = rw (last_other p b n, length-append) (rw length-append (omega arith))

-- the last newline, looked for from the end on
lines_start : (s : List ℕ) → lines_end (take (length s) s) ≡ lines_end s
lines_start s = rw (take-length s)

module _ (s : List ℕ) (end r : ℕ) (h : end ≤ length s) (now : lines_end (take end s) ≡ r) where
  module _ (l : 0 < end) where
    split : lines_end (take (end - 1) s ++ get_or s (end - 1) 0 ∷ []) ≡ r
    split =
        let e : end ≡ suc (end - 1) = omega arith in
        let k : end - 1 < length s = omega arith in
        let then : lines_end (take (suc (end - 1)) s) ≡ r = rw e at now in
        rw (take-suc s (end - 1) 0 k) at then

    -- here it is
    lines_here : get_or s (end - 1) 0 ≡ 10 → end ≡ r
    lines_here e =
        let k : length (take (end - 1) s) ≡ end - 1 = omega (arith, length-take (end - 1) s) in
        let u : suc (length (take (end - 1) s)) ≡ r = rw (e, lines_newline (take (end - 1) s)) at split in
        omega arith

    -- it is not here
    lines_more : (get_or s (end - 1) 0 ≡ 10 → ⊥) → lines_end (take (end - 1) s) ≡ r
    lines_more n = rw (lines_other (take (end - 1) s) (get_or s (end - 1) 0) n) at split

-- bytes that are no newline may be left out at the end
module _ (s : List ℕ) (from : ℕ) (none : (k : ℕ) → from ≤ k → k < length s → get_or s k 0 ≡ 10 → ⊥) where
  lines_up_to : (n : ℕ) → from + n ≤ length s → lines_end (take (from + n) s) ≡ lines_end s → lines_end (take from s) ≡ lines_end s
  lines_up_to zero h now = let z : from + 0 ≡ from = omega arith in rw z at now
  lines_up_to (suc n) h now =
      let e : from + suc n - 1 ≡ from + n = omega arith in
      let other : get_or s (from + suc n - 1) 0 ≡ 10 → ⊥ = none (from + suc n - 1) (omega arith) (omega arith) in
      let less = lines_more s (from + suc n) (lines_end s) h now (omega arith) other in
      lines_up_to n (omega arith) (rw e at less)

  lines_before : from ≤ length s → lines_end (take from s) ≡ lines_end s
  lines_before h = let a : from + (length s - from) ≡ length s = omega arith in lines_up_to (length s - from) (omega arith) (rw a (lines_start s))

-- no byte is a newline; the last one is at a place
pub lines_none : (s : List ℕ) → ((k : ℕ) → k < length s → get_or s k 0 ≡ 10 → ⊥) → 0 ≡ lines_end s
unfolding lines_end
lines_none s none = lines_before s 0 (λ k _. none k) zero-le

pub lines_last : (s : List ℕ) (last : ℕ) → last < length s → get_or s last 0 ≡ 10 → ((k : ℕ) → last < k → k < length s → get_or s k 0 ≡ 10 → ⊥) → last + 1 ≡ lines_end s
lines_last s last h e none =
    let a : last + 1 - 1 ≡ last = omega arith in
    let now = lines_before s (last + 1) (λ k l. none k (omega arith)) (omega arith) in
    lines_here s (last + 1) (lines_end s) (omega arith) now (omega arith) (rw a e)

module _ (s : List ℕ) (end : ℕ) (e : end ≡ lines_end s) where
  pub lines_within : end ≤ length s
  unfolding lines_end
  lines_within = omega (arith, e)

  -- what follows the last newline may still become a line, or cannot
  pub whole_short : length s - end < longest_row → end ≡ whole_lines s
  unfolding whole_lines
  whole_short h = let k : length s - lines_end s < longest_row = rw e at h in rw (lt-ltb _ _ k) e

  pub whole_long : longest_row ≤ length s - end → length s ≡ whole_lines s
  unfolding whole_lines
  whole_long h = let k : longest_row ≤ length s - lines_end s = rw e at h in rw (le-ltb _ _ k)

-- whole lines end within what was read, and so does what is taken now
whole_within : (s : List ℕ) → whole_lines s ≤ length s
unfolding whole_lines
whole_within s = cases (ltb (length s - lines_end s) longest_row) (λ y. rw y (lines_within s (lines_end s) refl)) (λ y. rw y (omega arith))

pub chunk_within : (ended : Bool) (s : List ℕ) (r : ℕ) → r ≡ chunk_end ended s → r ≤ length s
chunk_within true s r e = omega arith
chunk_within false s r e = omega (arith, whole_within s)

-- no line of these pieces changes what it says, whatever follows: nothing stands behind the last newline, or what is too long for a line
abbrev pub Settled : List (List ℕ) → Type 0
Settled ps = (last_part ps ≡ []) ⊎ (longest_row ≤ length (last_part ps))

-- up to and with the last newline of the first n bytes
lines_front : (s : List ℕ) (n : ℕ) → n ≤ length s → last_part (split_on 10 (take (lines_end (take n s)) s)) ≡ []
unfolding lines_end
lines_front s zero h = refl
lines_front s (suc n) h =
    let k : n < length s = omega arith in
    let t = take-suc s n 0 k in
    cases (eqb (get_or s n 0) 10)
    (λ y.
    let e : take (suc n) s ≡ take n s ++ 10 ∷ [] = t ∙ ap (λ b. take n s ++ b ∷ []) (eqb-true _ _ y) in
    let l : lines_end (take (suc n) s) ≡ suc n = ap lines_end e ∙ lines_newline (take n s) ∙ omega (arith, length-take n s) in
    rw (l, e) (last_newline (take n s)))
    (λ y.
    let l : lines_end (take (suc n) s) ≡ lines_end (take n s) = ap lines_end t ∙ lines_other (take n s) (get_or s n 0) (eqb-false _ _ y) in
    rw l (lines_front s n (omega arith)))

-- what follows the last newline is what the last piece is
last_long : (s : List ℕ) → longest_row ≤ length s - lines_end s → longest_row ≤ length (last_part (split_on 10 s))
unfolding lines_end
last_long s h = omega arith

-- whole lines are settled, and what follows them is shorter than a line may be
pub whole_settled : (s : List ℕ) → Settled (split_on 10 (take (whole_lines s) s))
unfolding whole_lines
whole_settled s =
    cases (ltb (length s - lines_end s) longest_row)
    (λ y. rw y (inl (rw (take-length s) at (lines_front s (length s) (omega arith)))))
    (λ y. rw (y, take-length s) (inr (last_long s (ltb-false _ _ y))))

pub rest_short : (s : List ℕ) → length (drop (whole_lines s) s) < longest_row
unfolding whole_lines
rest_short s =
    cases (ltb (length s - lines_end s) longest_row)
    (λ y. rw y (omega (arith, ltb-true (length s - lines_end s) longest_row y, length-drop (lines_end s) s)))
    (λ y. rw y (omega (arith, length-drop (length s) s)))
