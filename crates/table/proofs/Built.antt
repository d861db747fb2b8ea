-- Rows that are accepted one behind the other, from one table to the next: what a check or a reading that succeeds has gone through.
use Prim.Native.Nat.{ℕ, zero, suc, ◌+◌, ◌<◌}
use mathlib.Core.Path.{◌≡◌, refl, sym, ap, ◌∙◌}
use mathlib.Core.List.{List, [], ◌∷◌, ◌++◌, append-nil, append_assoc}
use native.Mathlib.Omega.{arith}
use lib.ListN.{get_or}
use lib.Dec.{ltb}
use borrow.Author.Tests.{lt-ltb}
use Rattle.row.specs.Kinds.{stored_kinds, most_of}
use Rattle.row.specs.declared.Row.{Row}
use Rattle.model.specs.Rows.{last_fault}
use Rattle.table.specs.Tables.{empty_table, add_row, table_of}
use Rattle.table.specs.Checks.{given_fault, Said, accepts, refused, on_fault, check_rows, rows_from, kinds_from, rows_of, check_table}
use Rattle.table.specs.declared.Table.{Table}
use Rattle.table.proofs.Tests.{needed}
use Rattle.table.specs.Worded.{Worded}
use Rattle.table.proofs.Fields.{row_worded}
use Rattle.table.proofs.Accepted.{Sized, Follows, accepted}
use Rattle.table.proofs.Stored.{empty_sized, added_sized}
use Rattle.table.proofs.RowsOf.{rows_added, rows_empty}

-- the rows rs take t to u
pub data Built : Table → List Row → Table → Type 0 where
  done : {t : Table} → Built t [] t
  more : {t u : Table} {r : Row} {rs : List Row} → Follows t r → Built (add_row t r) rs u → Built t (r ∷ rs) u

-- a table that is being built stays so
pub built_sized : {t u : Table} {rs : List Row} → Sized t → Built t rs u → Sized u
built_sized s done = s
built_sized s (more f b) = built_sized (added_sized f) b

-- and has these rows behind those it had
built_rows : {t u : Table} {rs : List Row} → Built t rs u → rows_of u ≡ rows_of t ++ rs
built_rows (done {t = t}) = sym (append-nil (rows_of t))
built_rows (more {t = t} {r = r} {rs = rs} f b) =
    built_rows b ∙ ap (λ (x : List Row). x ++ rs) (rows_added f) ∙ append_assoc (rows_of t) (r ∷ []) rs

-- so from nothing it has just these
pub built_all : {u : Table} {rs : List Row} → Built empty_table rs u → rows_of u ≡ rs
built_all {rs} b = built_rows b ∙ ap (λ (x : List Row). x ++ rs) rows_empty

-- where nothing is refused the table is accepted
pub fine_accepts : (c : Said) → c.numbers ≡ [] → c ≡ accepts c.table
fine_accepts c e = ap (λ (l : List ℕ). record { numbers = l; table = c.table }) e

-- a refusal is none
pub refused_not : {A : Type 0} (n l : ℕ) (u : Table) → refused n l ≡ accepts u → A
refused_not n l u e =
    let a : ◌≡◌ {A = List ℕ} (n ∷ l ∷ []) [] = ap (λ (x : Said). x.numbers) e in
    let z : ◌≡◌ {A = ℕ} 0 1 = cc in absurd (omega arith)

-- so where a table is accepted in the end, there was no fault
pub no_fault : (n l : ℕ) (go : Said) (u : Table) → on_fault n l go ≡ accepts u → (n ≡ 0) × (go ≡ accepts u)
no_fault zero l go u e = (refl, e)
no_fault (suc n) l go u e = refused_not (suc n) l u e

-- each of the rows is worded as a table's are
abbrev AllWorded : List Row → Type 0
AllWorded [] = Unit
AllWorded (r ∷ rs) = Worded r × AllWorded rs

from_worded : (rows : List ℕ) (k i n : ℕ) (rs : List Row) → k < stored_kinds → AllWorded rs → AllWorded (rows_from rows k i n ++ rs)
unfolding rows_from
from_worded rows k i zero rs h w = w
from_worded rows k i (suc n) rs h w = (row_worded rows k i h, from_worded rows k (i + 1) n rs h w)

kinds_worded : (t : Table) (n k : ℕ) → k + n ≡ stored_kinds → AllWorded (kinds_from t k n)
unfolding kinds_from
kinds_worded t zero k e = tt
kinds_worded t (suc n) k e =
    let later = kinds_worded t n (k + 1) (omega arith) in
    from_worded t.rows k 0 (get_or t.counts k 0) (kinds_from t (k + 1) n) (omega arith) later

-- a table that is accepted behind the rows of t: built from them, and whole
pub record Whole (t : Table) (rs : List Row) (u : Table) : Type 0 where
  pub built : Built t rs u
  pub last : last_fault (table_of u) ≡ 0

-- rows that are accepted make such a table
check_whole : (rs : List Row) (t : Table) (l : ℕ) (u : Table) → Sized t → AllWorded rs → check_rows t l rs ≡ accepts u → Whole t rs u
unfolding check_rows given_fault
check_whole [] t l u s w e =
    let a = no_fault (last_fault (table_of t)) l (accepts t) u e in
    let q : t ≡ u = ap (λ (x : Said). x.table) a.1 in
    rw (← q) record { built = done; last = a.0 }
check_whole (r ∷ rs) t l u s w e =
    let a = no_fault (given_fault t r) l (check_rows (add_row t r) (l + 1) rs) u e in
    let f : Follows t r = record { sized = s; worded = w.0; fine = (needed (ltb (get_or t.counts r.kind 0) (most_of r.kind)) 2 a.0).1 } in
    let b = check_whole rs (add_row t r) (l + 1) u (added_sized f) w.1 a.1 in
    record { built = more f b.built; last = b.last }

-- so a given table that is accepted is made of its rows
pub table_whole : (t u : Table) → check_table t ≡ accepts u → Whole empty_table (rows_of t) u
unfolding check_table
table_whole t u e = check_whole (rows_of t) empty_table 1 u empty_sized (kinds_worded t stored_kinds 0 refl) e

-- and such a table is accepted
pub whole_check : {t u : Table} {rs : List Row} (l : ℕ) → Built t rs u → last_fault (table_of u) ≡ 0 → check_rows t l rs ≡ accepts u
unfolding check_rows given_fault
whole_check l done e = rw e
whole_check l (more f b) e = rw (lt-ltb _ _ (accepted f).room, f.fine) (whole_check (l + 1) b e)
