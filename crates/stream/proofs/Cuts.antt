-- Where the table ends in the input, and when that is known: one law for each turn and each answer.
use Prim.Native.Nat.{ℕ, zero, suc, ◌+◌, ◌-◌, ◌≤◌, ◌<◌, min}
use mathlib.Core.Path.{◌≡◌, refl, sym, ap, ◌∙◌}
use mathlib.Core.List.{List, [], ◌∷◌, ◌++◌}
use mathlib.Core.Bool.{Bool, true, false}
use mathlib.Core.Logic.{◌⊎◌, inl, inr}
use native.Mathlib.Omega.{arith}
use lib.ListN.{length, drop, take, drop_of_length-le, length-take, length-append}
use lib.Seq.{take_all, take-append-le, take-append-add}
use lib.Dec.{ltb}
use borrow.Author.Tests.{lt-ltb, le-ltb, ltb-true}
use Rattle.text.specs.Parts.{pick, split_on, parts_from, first_at}
use Rattle.text.proofs.Picks.{cases, order, false_true}
use Rattle.text.proofs.Parts.{parts_cut, parts_none, parts_all, cut_length}
use Rattle.text.proofs.Seeking.{part_starts}
use Rattle.table.specs.Texts.{longest}
use Rattle.stream.specs.Cut.{is_end, end_in, cut_of, cut_known}
use Rattle.stream.proofs.Pieces.{followed, followed_none, split_append}

-- looking from the start of the text
pub end_start : (s : List ℕ) (most : ℕ) → end_in 0 (parts_from 10 s 0) most ≡ end_in 0 (split_on 10 s) most
end_start s most = rw (parts_all 10 s)

-- the line that ends the table, looked for from a place on
module _ (s : List ℕ) (at most r : ℕ) (h : at ≤ length s) (now : end_in at (parts_from 10 s at) most ≡ r) where
  -- no line is left
  pub end_none : length s ≤ at → most ≡ r
  unfolding end_in
  end_none l = rw (le-ltb _ _ h, drop_of_length-le s l) at now

  module _ (e : ℕ) (f : e ≡ first_at s at 10) where
    cut : parts_from 10 s at ≡ take (e - at) (drop at s) ∷ parts_from 10 s (e + 1)
    cut = rw f (parts_cut 10 s at h)

    -- the next line starts behind this one
    pub end_less : e < length s → length s - (e + 1) < length s - at
    end_less l = omega (arith, part_starts s at e 10 h f)

    -- only what follows the last newline
    pub end_last : length s ≤ e → most ≡ r
    unfolding end_in
    end_last l = let m : length s < e + 1 = omega arith in rw (cut, parts_none 10 s (e + 1) m) at now

    module _ (l : e < length s) (t : Bool) (q : t ≡ is_end (take (e - at) (drop at s))) where
      choice : pick (is_end (take (e - at) (drop at s))) (e + 1) (end_in (e + 1) (parts_from 10 s (e + 1)) most) ≡ r
      unfolding end_in
      choice =
          let m : e + 1 ≤ length s = omega arith in
          let k : at + length (take (e - at) (drop at s)) ≡ e = rw f (cut_length 10 s at h) in
          rw (parts_cut 10 s (e + 1) m) (rw (cut, parts_cut 10 s (e + 1) m, k) at now)

      -- this line ends it
      pub end_here : t ≡ true → e + 1 ≡ r
      end_here y = rw (← q, y) at choice

      -- it comes later
      pub end_more : t ≡ false → end_in (e + 1) (parts_from 10 s (e + 1)) most ≡ r
      end_more n = rw (← q, n) at choice

-- the table is looked for in the first bytes
module _ (s : List ℕ) (r : ℕ) where
  pub cut_short : length s ≤ longest → r ≡ end_in 0 (split_on 10 s) (length s) → r ≡ cut_of s
  unfolding cut_of
  cut_short h e = let m : min (length s) (longest + 1) ≡ length s = omega arith in rw (take_all longest s h, m) e

  pub cut_long : longest < length s → r ≡ end_in 0 (split_on 10 (take longest s)) (longest + 1) → r ≡ cut_of s
  unfolding cut_of
  cut_long h e = let m : min (length s) (longest + 1) ≡ longest + 1 = omega arith in rw m e

-- the table ends within the input
module _ (s : List ℕ) (most limit : ℕ) (m : most ≤ limit) (k : length s ≤ limit) where
  -- here, or further on
  line_within : (at e : ℕ) → at ≤ length s → e ≡ first_at s at 10 → e < length s → end_in (e + 1) (parts_from 10 s (e + 1)) most ≤ limit → end_in at (parts_from 10 s at) most ≤ limit
  line_within at e h f i rest =
      cases (is_end (take (e - at) (drop at s)))
      (λ y. omega (arith, end_here s at most _ h refl e f i _ refl y))
      (λ y. omega (arith, end_more s at most _ h refl e f i _ refl y))

  -- in so many turns at most
  table_within : (n at : ℕ) → at ≤ length s → length s - at ≤ n → end_in at (parts_from 10 s at) most ≤ limit
  table_within zero at h l = omega (arith, end_none s at most _ h refl (omega arith))
  table_within (suc n) at h l =
      order (first_at s at 10) (length s)
      (λ i. line_within at _ h refl i (table_within n (first_at s at 10 + 1) (omega arith) (omega (arith, end_less s at most _ h refl _ refl i))))
      (λ i. omega (arith, end_last s at most _ h refl _ refl i))

pub cut_within : (s : List ℕ) (r : ℕ) → r ≡ cut_of s → r ≤ length s
unfolding cut_of
cut_within s r e =
    let k = length-take longest s in
    let w = table_within (take longest s) (min (length s) (longest + 1)) (length s) (omega arith) (omega arith) (length (take longest s)) 0 (omega arith) (omega arith) in
    omega (arith, e, end_start (take longest s) (min (length s) (longest + 1)))

-- the line that ends the table, once found, is found at the same place whatever follows
end_found : (at : ℕ) (ps qs : List (List ℕ)) (most : ℕ) → 0 < end_in at ps 0 → end_in at (followed ps qs) most ≡ end_in at ps 0
unfolding end_in
end_found at [] qs most h = absurd (omega arith)
end_found at (p ∷ []) qs most h = absurd (omega arith)
end_found at (p ∷ q ∷ ps) qs most h =
    turn ps qs
    ∙ cases (is_end p)
    (λ y. rw y)
    (λ y. rw y (end_found (at + length p + 1) (q ∷ ps) qs most (rw y at h)))
  where
    turn : (ps qs : List (List ℕ)) → end_in at (p ∷ followed (q ∷ ps) qs) most ≡ pick (is_end p) (at + length p + 1) (end_in (at + length p + 1) (followed (q ∷ ps) qs) most)
    turn [] [] = refl
    turn [] (r ∷ qs) = refl
    turn (m ∷ ps) qs = refl

module _ (s : List ℕ) where
  -- what says where the table ends says so whatever follows
  pub known_stays : cut_known false s ≡ true → (t : List ℕ) → cut_of (s ++ t) ≡ cut_of s
  unfolding cut_of cut_known
  known_stays e t =
      order longest (length s)
      (λ h.
      let k : longest ≤ length s = omega arith in
      let m : min (length (s ++ t)) (longest + 1) ≡ longest + 1 = omega (arith, length-append s t) in
      let n : min (length s) (longest + 1) ≡ longest + 1 = omega arith in
      rw (take-append-le longest s t k, m, n))
      (λ h.
      let d : longest ≡ length s + (longest - length s) = omega arith in
      let u = take (longest - length s) t in
      let f : 0 < end_in 0 (split_on 10 s) 0 = ltb-true _ _ (rw (le-ltb _ _ h) at e) in
      let w : take longest (s ++ t) ≡ s ++ u = ap (λ n. take n (s ++ t)) d ∙ take-append-add s t (longest - length s) in
      let same : (qs : List (List ℕ)) (most : ℕ) → end_in 0 (followed (split_on 10 s) qs) most ≡ end_in 0 (split_on 10 s) 0 = λ qs most. end_found 0 (split_on 10 s) qs most f in
      rw (w, take_all longest s h, split_append s u, same (split_on 10 u) _)
      (sym (ap (λ l. end_in 0 l (min (length s) (longest + 1))) (sym (followed_none (split_on 10 s))) ∙ same [] (min (length s) (longest + 1)))))

  -- where they do not, there are few
  pub unknown_few : (ended : Bool) → cut_known ended s ≡ false → (ended ≡ false) × (length s ≤ longest)
  unfolding cut_known
  unknown_few true e = absurd (false_true (sym e))
  unknown_few false e = (refl, order longest (length s) (λ h. absurd (false_true (rw (lt-ltb _ _ h) at (sym e)))) (λ h. h))

  -- whether it is known, by the code's tests
  pub known_soon : (ended : Bool) → (ended ≡ true) ⊎ ((ended ≡ false) × (longest < length s)) → (t : Bool) → t ≡ true → t ≡ cut_known ended s
  unfolding cut_known
  known_soon ended (inl e) t y = rw e y
  known_soon ended (inr e) t y = rw (e.0, lt-ltb _ _ e.1) y

  pub known_found : (ended : Bool) → (ended ≡ false) × (length s ≤ longest) → (r : ℕ) → r ≡ end_in 0 (split_on 10 s) 0 → ltb 0 r ≡ cut_known ended s
  unfolding cut_known
  known_found ended h r q = rw (h.0, le-ltb _ _ h.1, q)
