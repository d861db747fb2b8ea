-- A table that has another's rows and perhaps more behind them: what an accepted row adds to, and what equal rows make of two tables.
use Prim.Native.Nat.{ℕ, zero, suc, ◌+◌, ◌≤◌, ◌<◌}
use mathlib.Core.Path.{◌≡◌, refl, sym, ap, ◌∙◌}
use mathlib.Core.List.{List, [], ◌∷◌, ◌++◌, append-nil}
use native.Mathlib.Omega.{arith}
use lib.ListN.{length, get_or}
use lib.Dec.{eqb}
use borrow.Author.Tests.{eq-eqb, ne_eqb, eqb-true, eqb-false}
use Rattle.text.specs.Parts.{pick}
use Rattle.text.proofs.Picks.{cases, order}
use Rattle.row.specs.Kinds.{stored_kinds}
use Rattle.row.specs.declared.Row.{Row}
use Rattle.table.specs.Tables.{row_of, add_row}
use Rattle.table.specs.Checks.{rows_from, kinds_from, rows_of}
use Rattle.table.specs.declared.Table.{Table}
use Rattle.table.proofs.Accepted.{Follows}
use Rattle.table.proofs.Stored.{place_of, others, count_same, count_other}
use Rattle.table.proofs.RowsOf.{from_count}

-- u has the rows of t, and perhaps more of each kind
pub record Grown (t u : Table) : Type 0 where
  pub counts : (k : ℕ) → k < stored_kinds → get_or t.counts k 0 ≤ get_or u.counts k 0
  pub rows : (k i : ℕ) → k < stored_kinds → i < get_or t.counts k 0 → row_of u.rows k i ≡ row_of t.rows k i

-- by an accepted row
pub grown_added : {t : Table} {r : Row} → Follows t r → Grown t (add_row t r)
grown_added {t} {r} f =
    record {
      counts = λ k h.
          cases (eqb k r.kind)
          (λ e. rw (eqb-true k r.kind e) (omega (arith, count_same f)))
          (λ e. rw (count_other f k (eqb-false k r.kind e)) (omega arith));
      rows = λ k i h l. others f k i (λ p q. omega (arith, ap (λ (j : ℕ). get_or t.counts j 0) p));
    }

-- a row that was not there before is the one added
pub added_place : {t : Table} {r : Row} → Follows t r → (k i : ℕ) → get_or t.counts k 0 ≤ i → i < get_or (add_row t r).counts k 0 → (k ≡ r.kind) × (i ≡ place_of t r)
added_place {t} {r} f k i m l =
    let q : k ≡ r.kind =
    cases (eqb k r.kind) (λ e. eqb-true _ _ e) (λ e. absurd (omega (arith, count_other f k (eqb-false k r.kind e)))) in
    let c = ap (λ (j : ℕ). get_or t.counts j 0) q in
    let d = ap (λ (j : ℕ). get_or (add_row t r).counts j 0) q in
    (q, omega (arith, count_same f))

-- the rows of one kind among others
abbrev of_kind : ℕ → List Row → List Row
of_kind k [] = []
of_kind k (r ∷ rs) = pick (eqb r.kind k) (r ∷ of_kind k rs) (of_kind k rs)

module _ (t : Table) (k : ℕ) where
  of_same : (i n : ℕ) (rs : List Row) → of_kind k (rows_from t.rows k i n ++ rs) ≡ rows_from t.rows k i n ++ of_kind k rs
  unfolding rows_from
  of_same i zero rs = refl
  of_same i (suc n) rs = rw (eq-eqb k k refl, of_same (i + 1) n rs)

  of_other : (m : ℕ) → (m ≡ k → ⊥) → (i n : ℕ) (rs : List Row) → of_kind k (rows_from t.rows m i n ++ rs) ≡ of_kind k rs
  unfolding rows_from
  of_other m ne i zero rs = refl
  of_other m ne i (suc n) rs = rw (ne_eqb m k ne) (of_other m ne (i + 1) n rs)

  of_later : (n m : ℕ) → k < m → of_kind k (kinds_from t m n) ≡ []
  unfolding kinds_from
  of_later zero m h = refl
  of_later (suc n) m h = of_other m (λ e. omega arith) 0 (get_or t.counts m 0) (kinds_from t (m + 1) n) ∙ of_later n (m + 1) (omega arith)

  of_kinds : (n m : ℕ) → m ≤ k → k < m + n → of_kind k (kinds_from t m n) ≡ rows_from t.rows k 0 (get_or t.counts k 0)
  unfolding kinds_from
  of_kinds zero m h l = absurd (omega arith)
  of_kinds (suc n) m h l =
      order m k
      (λ b. of_other m (λ e. omega arith) 0 (get_or t.counts m 0) (kinds_from t (m + 1) n) ∙ of_kinds n (m + 1) (omega arith) (omega arith))
      (λ b.
      let e : m ≡ k = omega arith in
      rw (e, of_same 0 (get_or t.counts k 0) (kinds_from t (k + 1) n), of_later n (k + 1) (omega arith))
      (append-nil (rows_from t.rows k 0 (get_or t.counts k 0))))

from_rows : (a b : List ℕ) (k n i : ℕ) → rows_from a k i n ≡ rows_from b k i n → (j : ℕ) → i ≤ j → j < i + n → row_of a k j ≡ row_of b k j
unfolding rows_from
from_rows a b k zero i e j h l = absurd (omega arith)
from_rows a b k (suc n) i e j h l =
    let p : row_of a k i ≡ row_of b k i = cc in
    let q : rows_from a k (i + 1) n ≡ rows_from b k (i + 1) n = cc in
    order i j
    (λ m. from_rows a b k n (i + 1) q j (omega arith) (omega arith))
    (λ m. let z : j ≡ i = omega arith in rw z p)

-- tables with the same rows
module _ (t u : Table) (e : rows_of t ≡ rows_of u) where
  same_kind : (k : ℕ) → k < stored_kinds → rows_from t.rows k 0 (get_or t.counts k 0) ≡ rows_from u.rows k 0 (get_or u.counts k 0)
  same_kind k h = sym (of_kinds t k stored_kinds 0 (omega arith) (omega arith)) ∙ ap (of_kind k) e ∙ of_kinds u k stored_kinds 0 (omega arith) (omega arith)

  -- have as many of each kind
  pub same_counts : (k : ℕ) → k < stored_kinds → get_or t.counts k 0 ≡ get_or u.counts k 0
  same_counts k h =
      sym (from_count t.rows k 0 (get_or t.counts k 0)) ∙ ap length (same_kind k h) ∙ from_count u.rows k 0 (get_or u.counts k 0)

  -- and the one has grown from the other
  pub same_grown : Grown t u
  same_grown =
      record {
        counts = λ k h. omega (arith, same_counts k h);
        rows = λ k i h l.
            let e = rw (← same_counts k h) at (same_kind k h) in
            sym (from_rows t.rows u.rows k (get_or t.counts k 0) 0 e i (omega arith) (omega arith));
      }
