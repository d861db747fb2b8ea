-- The rows of a table that are left, kind by kind.
use Prim.Native.Nat.{ℕ, zero, suc, ◌+◌, ◌-◌, ◌≤◌, ◌<◌}
use mathlib.Core.Path.{◌≡◌, refl}
use mathlib.Core.List.{List, [], ◌∷◌, ◌++◌}
use native.Mathlib.Omega.{arith}
use lib.ListN.{get_or}
use Rattle.row.specs.Kinds.{stored_kinds}
use Rattle.row.specs.declared.Row.{Row}
use Rattle.table.specs.Tables.{row_of}
use Rattle.table.specs.Checks.{rows_from, kinds_from, rows_of}
use Rattle.table.specs.declared.Table.{Table}

-- the rows of a table from row i of kind k on, m kinds being left
unfoldable pub rows_left : Table → ℕ → ℕ → ℕ → List Row
rows_left t k i zero = []
rows_left t k i (suc m) = rows_from t.rows k i (get_or t.counts k 0 - i) ++ kinds_from t (k + 1) m

-- the rows from there to the last
abbrev pub left : Table → ℕ → ℕ → List Row
left t k i = rows_left t k i (stored_kinds - k)

left_kinds : (t : Table) (m k : ℕ) → rows_left t k 0 m ≡ kinds_from t k m
unfolding rows_left kinds_from
left_kinds t zero k = refl
left_kinds t (suc m) k = let e : get_or t.counts k 0 - 0 ≡ get_or t.counts k 0 = omega arith in rw e

pub left_all : (t : Table) → left t 0 0 ≡ rows_of t
left_all t = left_kinds t stored_kinds 0

module _ (t : Table) (k i : ℕ) where
  pub left_none : stored_kinds ≤ k → left t k i ≡ []
  unfolding rows_left
  left_none h = let e : stored_kinds - k ≡ 0 = omega arith in rw e

  module _ (h : k < stored_kinds) where
    kinds : stored_kinds - k ≡ suc (stored_kinds - (k + 1))
    kinds = omega arith

    pub left_skip : get_or t.counts k 0 ≤ i → left t k i ≡ left t (k + 1) 0
    unfolding rows_left rows_from
    left_skip l =
        let a : get_or t.counts k 0 - i ≡ 0 = omega arith in
        rw (kinds, a, left_kinds t (stored_kinds - (k + 1)) (k + 1))

    pub left_next : i < get_or t.counts k 0 → left t k i ≡ row_of t.rows k i ∷ left t k (i + 1)
    unfolding rows_left rows_from
    left_next l = let a : get_or t.counts k 0 - i ≡ suc (get_or t.counts k 0 - (i + 1)) = omega arith in rw (kinds, a)
