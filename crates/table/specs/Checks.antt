-- The refusals 2 to 5 of a row behind the rows of a table, and 7 of the whole: what the reader, the writer and the test of a given table share.
use Rattle.std.specs.Prelude.{ℕ, zero, suc, ◌+◌, List, [], ◌∷◌, ◌++◌, Bool, ◌≡◌, get_or, ltb, eqb, Result, Ok, Err}
use Rattle.text.specs.Parts.{pick}
use Rattle.row.specs.Kinds.{stored_kinds, most_of}
use Rattle.row.specs.declared.Row.{Row}
use Rattle.model.specs.Tables.{target_of}
use Rattle.model.specs.Tests.{◌implies◌, each, need}
use Rattle.model.specs.Rows.{task_fault, act_fault, codel_fault, edge_fault, mutex_fault, last_fault}
use Rattle.model.specs.Tables as model
use Rattle.table.specs.Tables.{empty_table, row_of, add_row, table_of}
use Rattle.table.specs.declared.Table.{Table}
use Rattle.table.specs.declared.fault.Refused.{Refused}
use Rattle.table.specs.Faults.{number_of}

-- 2: "row out of its place": there are rows of a later kind
unfoldable pub in_place : List ℕ → ℕ → Bool
in_place counts k = each stored_kinds (λ j. ltb k j implies eqb (get_or counts j 0) 0)

-- the row's own refusal behind the first n rows of its kind, and behind all of them
unfoldable pub fault_at : model.Table → ℕ → Row → ℕ
fault_at K n r =
    pick (eqb r.kind 0) (task_fault n r.a r.b)
    (pick (eqb r.kind 1) (act_fault K n r.a)
    (pick (eqb r.kind 2) (codel_fault K n r.a r.b r.c)
    (pick (eqb r.kind 3) (edge_fault K n r.a (target_of r.b) (eqb r.c 1))
    (mutex_fault K n r.a r.b))))

unfoldable pub kind_fault : Table → Row → ℕ
kind_fault t r = fault_at (table_of t) (get_or t.counts r.kind 0) r

unfoldable pub row_fault : Table → Row → ℕ
row_fault t r = need (in_place t.counts r.kind) 2 (kind_fault t r)

-- a given row that there is no room for is 3, "one row too many of its kind": nothing is stored of it, so no other test comes before
unfoldable pub given_fault : Table → Row → ℕ
given_fault t r = need (ltb (get_or t.counts r.kind 0) (most_of r.kind)) 3 (row_fault t r)

-- what the reader, or the check of a given table, tells: "The answer is number and line", no numbers where nothing is refused; and the table
pub record Said : Type 0 where
  pub numbers : List ℕ
  pub table : Table

-- a table that is accepted; a refusal comes with the empty table
abbrev pub accepts : Table → Said
accepts t = record { numbers = []; table = t }

abbrev pub refused : ℕ → ℕ → Said
refused n l = record { numbers = n ∷ l ∷ []; table = empty_table }

-- the page's number and values of a result: no numbers where nothing is refused
abbrev pub numbers_of : {A : Type 0} → Result A Refused → List ℕ
numbers_of (Ok a) = []
numbers_of (Err r) = number_of r.fault ∷ r.line ∷ []

abbrev pub says : Result Table Refused → Said
says (Ok t) = accepts t
says (Err r) = refused (number_of r.fault) r.line

-- on no fault go on, else refuse at line l
abbrev pub on_fault : ℕ → ℕ → Said → Said
on_fault zero l go = go
on_fault (suc n) l go = refused (suc n) l

-- 7 after the last row: "line: the `end` row"
abbrev pub closed : Table → ℕ → Said
closed t l = on_fault (last_fault (table_of t)) l (accepts t)

-- the given rows behind those of t, the first of them at line l: the table that they make, or the first refusal
unfoldable pub check_rows : Table → ℕ → List Row → Said
check_rows t l [] = closed t l
check_rows t l (r ∷ rs) = on_fault (given_fault t r) l (check_rows (add_row t r) (l + 1) rs)

-- the rows of a table: its tasks, activities, codels, edges, mutexes, each in row order
unfoldable pub rows_from : List ℕ → ℕ → ℕ → ℕ → List Row
rows_from rows k i zero = []
rows_from rows k i (suc n) = row_of rows k i ∷ rows_from rows k (i + 1) n

unfoldable pub kinds_from : Table → ℕ → ℕ → List Row
kinds_from t k zero = []
kinds_from t k (suc n) = rows_from t.rows k 0 (get_or t.counts k 0) ++ kinds_from t (k + 1) n

abbrev pub rows_of : Table → List Row
rows_of t = kinds_from t 0 stored_kinds

-- a given table, checked as its text would be: the answer, and the table that its rows make
unfoldable pub check_table : Table → Said
check_table t = check_rows empty_table 1 (rows_of t)

-- a given table that the check accepts
abbrev pub Passes : Table → Type 0
Passes t = (check_table t).numbers ≡ []
