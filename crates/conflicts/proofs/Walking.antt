-- The walk over what the activities execute, one law for each way through it.
use mathlib.Core.Bool.{Bool, true, false}
use mathlib.Core.List.{List}
use mathlib.Core.Path.{◌≡◌, sym, ◌∙◌}
use Prim.Native.Nat.{ℕ, ◌≤◌, ◌<◌}
use native.Mathlib.Omega.{arith}
use lib.ListN.{length, get_or, take}
use Rattle.std.proofs.lemmas.List.{get_or-take, get_or_default, length-take-le}
use borrow.Author.Tests.{lt-ltb, le-ltb}
use Rattle.model.specs.Tables.{Table}
use Rattle.table.proofs.Tests.{each_at, each_all}
use Rattle.prepared.specs.Prepared.{conflict}
use Rattle.conflicts.specs.Busy.{no_codel, far_from, clear_by}
use Rattle.model.specs.Tests.{each}
use Rattle.text.proofs.Picks.{cases, false_true}

-- a test on all numbers below n fails where it fails at one of them
each_fails : (p : ℕ → Bool) (n i : ℕ) → i < n → p i ≡ false → false ≡ each n p
each_fails p n i l e = cases (each n p) (λ b. absurd (false_true (sym e ∙ each_at n p b i l))) sym

-- the walk over what the activities execute
abbrev pub far_at : Table → List ℕ → ℕ → ℕ → Bool
far_at K busy c a = far_from K c (get_or busy a no_codel)

module _ (K : Table) (busy : List ℕ) (c n : ℕ) (q : n ≡ K.nacts) (long : K.nacts ≤ length busy) where
  module _ (a : ℕ) (h : a < length (take n busy)) (m : ℕ) (e : m ≡ K.ncodels) where
    inside : a < n
    inside = omega (arith, length-take-le n busy (omega arith))

    at : get_or busy a no_codel ≡ get_or (take n busy) a 0
    at = let i = inside in get_or_default busy a no_codel 0 (omega arith) ∙ sym (get_or-take n busy a 0 i)

    pub far_none : m ≤ get_or (take n busy) a 0 → far_at K busy c a ≡ true
    far_none l = rw (at, le-ltb (get_or (take n busy) a 0) K.ncodels (omega arith))

    module _ (l : get_or (take n busy) a 0 < m) (r : Bool) (i : r ≡ conflict K c (get_or (take n busy) a 0)) where
      pub far_apart : r ≡ false → far_at K busy c a ≡ true
      far_apart f = rw (at, lt-ltb (get_or (take n busy) a 0) K.ncodels (omega arith), ← i, f)

      pub clear_fails : r ≡ true → false ≡ clear_by K busy c
      unfolding clear_by
      clear_fails f = let j = inside in each_fails (far_at K busy c) K.nacts a (omega arith) (rw (at, lt-ltb (get_or (take n busy) a 0) K.ncodels (omega arith), ← i, f))

  pub clear_holds : (a : ℕ) → length (take n busy) ≤ a → ((k : ℕ) → k < a → far_at K busy c k ≡ true) → true ≡ clear_by K busy c
  unfolding clear_by
  clear_holds a l g = sym (each_all K.nacts (far_at K busy c) (λ k i. g k (omega (arith, length-take-le n busy (omega arith)))))
