-- The mutex rows of two codels, told by those of the smaller.
use Prim.Native.Nat.{ℕ, ◌+◌, ◌≤◌, ◌<◌, min, max}
use mathlib.Core.Bool.{Bool, true, false}
use mathlib.Core.List.{List}
use mathlib.Core.Logic.{⊎_elim}
use mathlib.Core.Path.{◌≡◌, refl, sym, ◌∙◌}
use native.Mathlib.Omega.{arith}
use lib.ListN.{get_or}
use lib.Dec.{T, eqb, ltb, eqb→eq}
use borrow.Author.Tests.{eq-eqb, ne_eqb, ltb-true, ltb-false}
use Rattle.text.proofs.Picks.{cases}
use Rattle.row.specs.Kinds.{form_of}
use Rattle.table.specs.Tables.{table_of}
use Rattle.model.specs.Tests.{◌and◌, ◌or◌}
use Rattle.model.specs.Tables.{Table}
use Rattle.model.proofs.Tests.{true_T, same_test, and_i, and_l, and_r, or_l, or_r, or_cases, some_at, some_mk}
use Rattle.prepared.specs.Prepared.{table_in, pairs_from_at, pairs_end_at, Prepared, conflict}
use Rattle.prepared.proofs.Stored.{cell, shape, number_is}
use Rattle.prepared.proofs.Walks.{Passed, found, absent}

-- either codel may be named first
conflict_half : (K : Table) (c d : ℕ) → T (conflict K c d) → T (conflict K d c)
unfolding conflict
conflict_half K c d t =
    let w = some_at _ K.nmutex t in
    let a = eqb (K.mutex w.0).lo c and eqb (K.mutex w.0).hi d in
    let b = eqb (K.mutex w.0).lo d and eqb (K.mutex w.0).hi c in
    some_mk _ K.nmutex w.0 w.1 (⊎_elim (or_r b a) (or_l b a) (or_cases a b w.2))

pub conflict_rising : (K : Table) (c d : ℕ) → conflict K (min c d) (max c d) ≡ conflict K c d
conflict_rising K c d =
    cases (ltb d c)
    (λ e.
    let l : d < c = ltb-true d c e in
    let p : min c d ≡ d = omega arith in
    let q : max c d ≡ c = omega arith in
    rw (p, q) (same_test _ _ (conflict_half K d c) (conflict_half K c d)))
    (λ e.
    let l : c ≤ d = ltb-false d c e in
    let p : min c d ≡ c = omega arith in
    let q : max c d ≡ d = omega arith in
    rw (p, q))

-- two rising pairs are the same either way round where they are the same as they stand
rising_pair : (a b lo hi : ℕ) → a ≤ b → lo ≤ hi → ((eqb a lo and eqb b hi) or (eqb a hi and eqb b lo)) ≡ (eqb a lo and eqb b hi)
rising_pair a b lo hi h l =
    same_test _ _
    (λ t. ⊎_elim (λ u. u)
    (λ u.
    let p : a ≡ hi = eqb→eq _ _ (and_l (eqb a hi) _ u) in
    let q : b ≡ lo = eqb→eq _ _ (and_r (eqb a hi) _ u) in
    and_i (eqb a lo) _ (true_T _ (eq-eqb a lo (omega arith))) (true_T _ (eq-eqb b hi (omega arith))))
    (or_cases (eqb a lo and eqb b hi) _ t))
    (or_l (eqb a lo and eqb b hi) _)

-- a stored mutex row has that larger codel
abbrev pub pair_hit : List ℕ → ℕ → ℕ → Bool
pair_hit rows hi m = eqb (cell rows 4 m 1) hi

module _ (rows : List ℕ) (hi m x : ℕ) (e : x ≡ cell rows 4 m 1) where
  pub pair_same : x ≡ hi → pair_hit rows hi m ≡ true
  pair_same q = eq-eqb _ _ (sym e ∙ q)

  pub pair_other : (x ≡ hi → ⊥) → pair_hit rows hi m ≡ false
  pair_other o = ne_eqb _ _ (λ q. o (e ∙ q))

module _ {rows index : List ℕ} (P : Prepared rows index) (lo hi : ℕ) (l : lo ≤ hi) where
  pair_row : (m : ℕ) → m < (table_in rows index).nmutex → ((eqb ((table_in rows index).mutex m).lo lo and eqb ((table_in rows index).mutex m).hi hi) or (eqb ((table_in rows index).mutex m).lo hi and eqb ((table_in rows index).mutex m).hi lo)) ≡ (eqb ((table_in rows index).mutex m).lo lo and pair_hit rows hi m)
  unfolding table_of form_of
  pair_row m h =
      let x : cell rows 4 m 1 ≡ ((table_in rows index).mutex m).hi = number_is P 4 m 1 (omega arith) h (omega arith) refl _ refl in
      rw x (rising_pair _ _ lo hi ((shape P).rising m h) l)

  -- the walk over the mutex rows of the smaller codel
  module _ (h : lo < (table_in rows index).ncodels) (from end : ℕ) (b : from ≡ get_or index (pairs_from_at + lo) 0) (n : end ≡ get_or index (pairs_end_at + lo) 0) where
    pub pair_found : (m : ℕ) → from ≤ m → m < end → pair_hit rows hi m ≡ true → true ≡ conflict (table_in rows index) lo hi
    unfolding conflict
    pair_found = found (table_in rows index).nmutex lo from end (λ m. ((table_in rows index).mutex m).lo) _ (pair_hit rows hi) pair_row (rw n (P.pairs.ends lo h)) (λ m k j. P.pairs.inside lo m h (rw b at k) (rw n at j))

    pub pair_absent : (m : ℕ) → end ≤ m → Passed (pair_hit rows hi) from m → false ≡ conflict (table_in rows index) lo hi
    unfolding conflict
    pair_absent = absent (table_in rows index).nmutex lo from end (λ m. ((table_in rows index).mutex m).lo) _ (pair_hit rows hi) pair_row (λ m j q. rw (b, n) (P.pairs.outside lo m h j q))
