-- The place of a row's kind behind the kinds before it.
use Prim.Native.Nat.{ℕ, ◌+◌, ◌-◌, ◌<◌}
use mathlib.Core.Path.{◌≡◌}
use mathlib.Core.List.{List}
use mathlib.Core.Bool.{Bool, true}
use native.Mathlib.Omega.{arith}
use lib.ListN.{length, get_or, take, drop}
use lib.Dec.{ltb, eqb}
use borrow.Author.Tests.{lt-ltb, le-ltb}
use Rattle.row.specs.Kinds.{stored_kinds}
use Rattle.model.specs.Tests.{◌implies◌, each}
use Rattle.table.specs.Checks.{in_place}
use Rattle.text.proofs.Picks.{order}
use Rattle.std.specs.List.{list_all}
use Rattle.std.proofs.lemmas.List.{get_or-drop, length-drop, take_all}
use Rattle.table.proofs.Tests.{agree, each_at, each_all, list_at, list_mk}

-- 2: no rows of a later kind
module _ (counts : List ℕ) (size : length counts ≡ stored_kinds) (k : ℕ) (h : k < stored_kinds) where
  abbrev Early : ℕ → Bool
  Early j = ltb k j implies eqb (get_or counts j 0) 0

  early : list_all (λ n. eqb n 0) (drop (k + 1) counts) ≡ true → (j : ℕ) → j < stored_kinds → Early j ≡ true
  early e j l =
      order k j
      (λ a.
      let i : k + 1 + (j - (k + 1)) ≡ j = omega arith in
      let m : j - (k + 1) < length (drop (k + 1) counts) = omega (arith, length-drop (k + 1) counts) in
      rw (lt-ltb _ _ a, ← i, ← get_or-drop (k + 1) counts (j - (k + 1)) 0) (list_at (λ n. eqb n 0) (drop (k + 1) counts) e (j - (k + 1)) m))
      (λ a. rw (le-ltb _ _ a))

  late : each stored_kinds Early ≡ true → (i : ℕ) → i < length (drop (k + 1) counts) → eqb (get_or (drop (k + 1) counts) i 0) 0 ≡ true
  late e i l =
      let a : k < k + 1 + i = omega arith in
      let m : k + 1 + i < stored_kinds = omega (arith, length-drop (k + 1) counts) in
      rw get_or-drop (rw (lt-ltb _ _ a) at (each_at stored_kinds Early e (k + 1 + i) m))

  pub place_is : list_all (λ n. eqb n 0) (take (length counts - (k + 1)) (drop (k + 1) counts)) ≡ in_place counts k
  unfolding in_place
  place_is =
      rw (take_all (length counts - (k + 1)) (drop (k + 1) counts) (omega (arith, length-drop (k + 1) counts)))
      (agree _ _ (λ e. each_all stored_kinds Early (early e)) (λ e. list_mk (λ n. eqb n 0) (drop (k + 1) counts) (late e)))
