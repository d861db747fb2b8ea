-- The rows of a table in their order: an accepted row comes behind all that are there.
use Prim.Native.Nat.{ℕ, zero, suc, ◌+◌, ◌≤◌, ◌<◌}
use mathlib.Core.Path.{◌≡◌, refl, sym, ap, ◌∙◌}
use mathlib.Core.List.{List, [], ◌∷◌, ◌++◌, append-nil, append_assoc}
use mathlib.Core.Bool.{Bool}
use native.Mathlib.Omega.{arith}
use native.Mathlib.Numerals.{add-one}
use lib.ListN.{length, get_or, length-append}
use Rattle.text.proofs.Picks.{order}
use Rattle.row.specs.Kinds.{stored_kinds}
use Rattle.row.specs.declared.Row.{Row}
use Rattle.model.specs.Tests.{some, sum}
use Rattle.table.specs.Tables.{empty_table, total_of, row_of, add_row}
use Rattle.table.specs.Checks.{rows_from, kinds_from, rows_of}
use Rattle.table.specs.declared.Table.{Table}
use Rattle.table.proofs.Accepted.{Follows, accepted}
use Rattle.table.proofs.Stored.{place_of, stored, others, count_same, count_other}

-- some row of a kind passes a test
abbrev pub some_row : Table → ℕ → (Row → Bool) → Bool
some_row t k q = some (get_or t.counts k 0) (λ i. q (row_of t.rows k i))

-- the rows of a kind that agree, and one more of them
from_same : (a b : List ℕ) (k i n : ℕ) → ((j : ℕ) → i ≤ j → j < i + n → row_of a k j ≡ row_of b k j)
    → rows_from a k i n ≡ rows_from b k i n
unfolding rows_from
from_same a b k i zero h = refl
from_same a b k i (suc n) h =
    let p = h i (omega arith) (omega arith) in
    let q = from_same a b k (i + 1) n (λ j l m. h j (omega arith) (omega arith)) in
    cc

from_more : (rows : List ℕ) (k i n : ℕ) → rows_from rows k i (suc n) ≡ rows_from rows k i n ++ (row_of rows k (i + n) ∷ [])
unfolding rows_from
from_more rows k i zero = let e : i + 0 ≡ i = omega arith in rw e
from_more rows k i (suc n) =
    let e : i + 1 + n ≡ i + suc n = omega arith in
    ap (λ (x : List Row). row_of rows k i ∷ x) (rw e at (from_more rows k (i + 1) n))

-- kinds without rows
none_from : (t : Table) (k n : ℕ) → ((j : ℕ) → k ≤ j → j < k + n → get_or t.counts j 0 ≡ 0) → kinds_from t k n ≡ []
unfolding kinds_from rows_from
none_from t k zero h = refl
none_from t k (suc n) h = rw (h k (omega arith) (omega arith)) (none_from t (k + 1) n (λ j l m. h j (omega arith) (omega arith)))

-- an accepted row behind the rows of t
module _ {t : Table} {r : Row} (f : Follows t r) where
  -- the rows of its own kind
  own : rows_from (add_row t r).rows r.kind 0 (get_or (add_row t r).counts r.kind 0)
      ≡ rows_from t.rows r.kind 0 (place_of t r) ++ (r ∷ [])
  own =
      let z : 0 + place_of t r ≡ place_of t r = omega arith in
      rw (count_same f, add-one, from_more, z, stored f)
      (ap (λ (x : List Row). x ++ r ∷ [])
      (from_same (add_row t r).rows t.rows r.kind 0 (place_of t r) (λ j l m. others f r.kind j (λ p q. omega arith))))

  -- the rows from kind k on
  kinds_added : (n k : ℕ) → k + n ≡ stored_kinds → k ≤ r.kind → kinds_from (add_row t r) k n ≡ kinds_from t k n ++ (r ∷ [])
  unfolding kinds_from
  kinds_added zero k e l = absurd (omega (arith, f.worded.kind))
  kinds_added (suc n) k e l =
      order k r.kind
      (λ m.
      let ne : k ≡ r.kind → ⊥ = λ q. omega arith in
      rw (
        count_other f k ne,
        kinds_added n (k + 1) (omega arith) (omega arith),
        from_same (add_row t r).rows t.rows k 0 (get_or t.counts k 0) (λ j a b. others f k j (λ q. absurd (ne q))),
      )
      (sym (append_assoc (rows_from t.rows k 0 (get_or t.counts k 0)) (kinds_from t (k + 1) n) (r ∷ []))))
      (λ m.
      let q : k ≡ r.kind = omega arith in
      let gone : (j : ℕ) → k + 1 ≤ j → j < k + 1 + n → get_or t.counts j 0 ≡ 0 =
      λ j a b. (accepted f).later j (omega arith) (omega arith) in
      let none : (j : ℕ) → k + 1 ≤ j → j < k + 1 + n → get_or (add_row t r).counts j 0 ≡ 0 =
      λ j a b. count_other f j (λ z. omega arith) ∙ gone j a b in
      rw (none_from t (k + 1) n gone, none_from (add_row t r) (k + 1) n none, q) (simp append-nil own))

  -- it is the last of them
  pub rows_added : rows_of (add_row t r) ≡ rows_of t ++ (r ∷ [])
  rows_added = kinds_added stored_kinds 0 refl (omega arith)

-- the empty table has none
pub rows_empty : rows_of empty_table ≡ []
unfolding kinds_from rows_from
rows_empty = refl

-- how many rows of a kind were asked for
pub from_count : (rows : List ℕ) (k i n : ℕ) → length (rows_from rows k i n) ≡ n
unfolding rows_from
from_count rows k i zero = refl
from_count rows k i (suc n) = ap suc (from_count rows k (i + 1) n)

-- how many rows a table has: those from kind k on, with those before
kinds_count : (t : Table) (n k : ℕ) → length (kinds_from t k n) + sum k (λ j. get_or t.counts j 0) ≡ sum (k + n) (λ j. get_or t.counts j 0)
unfolding kinds_from sum
kinds_count t zero k = let e : k + 0 ≡ k = omega arith in rw e (omega arith)
kinds_count t (suc n) k =
    let e : k + suc n ≡ k + 1 + n = omega arith in
    let next = rw add-one at (kinds_count t n (k + 1)) in
    rw (e, add-one, length-append, from_count) (omega arith)

pub rows_count : (t : Table) → length (rows_of t) ≡ total_of t.counts
unfolding sum
rows_count t = omega (arith, kinds_count t stored_kinds 0)
