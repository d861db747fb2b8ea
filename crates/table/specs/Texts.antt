-- A table's text: read row by row, and written.
use Rattle.std.specs.Prelude.{ℕ, ◌+◌, ◌-◌, List, [], ◌∷◌, ◌++◌, Bool, true, false, length, ltb, leb, eqb, Option, Some, None, Result, Ok, Err}
use Rattle.std.proofs.lemmas.List.Edits.{sets}
use Rattle.text.specs.Parts.{pick, split_on}
use Rattle.row.specs.Kinds.{end_kind}
use Rattle.row.specs.Row.{read_row, row_text}
use Rattle.row.specs.declared.Row.{Row}
use Rattle.table.specs.Tables.{empty_table, add_row}
use Rattle.table.specs.Faults.{number_of}
use Rattle.table.specs.Checks.{row_fault, Said, refused, on_fault, closed, rows_of, check_table}
use Rattle.table.specs.declared.Table.{Table}
use Rattle.table.specs.declared.fault.Refused.{Refused}

-- "Length over 32,768 bytes comes first: 3 at line 0."
abbrev pub longest : ℕ
longest = 32768

abbrev pub is_empty : List ℕ → Bool
is_empty [] = true
is_empty (b ∷ bs) = false

abbrev pub on_row : Option Row → (Row → Said) → Said → Said
on_row (Some r) go bad = go r
on_row None go bad = bad

-- 2: "or after `end`": the refusal of the first line behind the `end` row; the last part is what follows the last newline
abbrev pub row_behind : Option Row → ℕ
row_behind (Some r) = 2
row_behind None = 1

unfoldable pub fault_behind : List (List ℕ) → ℕ
fault_behind [] = 0
fault_behind (p ∷ []) = pick (is_empty p) 0 1
fault_behind (p ∷ q ∷ ps) = row_behind (read_row p)

-- 6: "`end` has the wrong count"; 7 comes after the whole text
abbrev pub at_end_row : Table → ℕ → ℕ → List (List ℕ) → Said
at_end_row t l count ps = pick (eqb count (l - 1)) (on_fault (fault_behind ps) (l + 1) (closed t l)) (refused 6 l)

-- the lines from line l on, behind the rows of t. 1: "a last line without newline"; 6: "`end` .. is absent (line: the next one)"
unfoldable pub read_lines : Table → ℕ → List (List ℕ) → Said
read_lines t l [] = refused 6 l
read_lines t l (p ∷ []) = pick (is_empty p) (refused 6 l) (refused 1 l)
read_lines t l (p ∷ q ∷ ps) =
    on_row (read_row p)
    (λ r. pick (eqb r.kind end_kind) (at_end_row t l r.a (q ∷ ps)) (on_fault (row_fault t r) l (read_lines (add_row t r) (l + 1) (q ∷ ps))))
    (refused 1 l)

-- what a text says as a table
unfoldable pub read_table : List ℕ → Said
read_table s = pick (ltb longest (length s)) (refused 3 0) (read_lines empty_table 1 (split_on 10 s))

-- the text of rows, and after them the `end` row with their number
abbrev pub end_row : ℕ → Row
end_row n = record { kind = end_kind; a = n; b = 0; c = 0 }

unfoldable pub text_of : ℕ → List Row → List ℕ
text_of n [] = row_text (end_row n)
text_of n (r ∷ rs) = row_text r ++ text_of n rs

-- a table's text
unfoldable pub table_text : Table → List ℕ
table_text t = text_of (length (rows_of t)) (rows_of t)

-- what the writer tells on a buffer of so many bytes: the table's refusal, then 31 "exactly when the text is longer than the lent buffer", else
-- the text's length
abbrev pub written : List ℕ → ℕ → ℕ → List ℕ
written [] need have = pick (leb need have) (need ∷ []) (31 ∷ 0 ∷ [])
written (n ∷ ls) need have = n ∷ ls

unfoldable pub write_table : Table → ℕ → List ℕ
write_table t have = written (check_table t).numbers (length (table_text t)) have

-- the page's number and values of the writer's result: the length alone, or number and line
abbrev pub wrote_numbers : Result ℕ Refused → List ℕ
wrote_numbers (Ok n) = n ∷ []
wrote_numbers (Err r) = number_of r.fault ∷ r.line ∷ []

-- "No refusal changes the buffer; after a success the bytes past the text are unchanged.": a success tells one number
abbrev pub written_over : List ℕ → List ℕ → List ℕ → List ℕ
written_over [] text buf = buf
written_over (n ∷ []) text buf = sets buf 0 text
written_over (n ∷ l ∷ ls) text buf = buf
