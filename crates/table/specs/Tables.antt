-- The table by value: its rows by kind, a number for each field; and what the rules see of it.
use Rattle.std.specs.Prelude.{ℕ, zero, suc, ◌+◌, ◌*◌, ◌≤◌, ◌<◌, min, List, [], ◌∷◌, Bool, ◌≡◌, length, get_or, set, replicate, ltb, leb, eqb, Option, Some, None}
use Rattle.std.proofs.lemmas.List.Edits.{sets}
use Rattle.text.specs.Parts.{pick}
use Rattle.text.specs.Fields.{ether_value}
use Rattle.row.specs.Kinds.{RowKind, kinds, stored_kinds, most_fields, most_of, form_of}
use Rattle.row.specs.declared.Form.{Form}
use Rattle.row.specs.declared.Form.TheVariants as form
use Rattle.row.specs.declared.Row.{Row}
use Rattle.model.specs.Tables.{target_of}
use Rattle.model.specs.Tests.{◌and◌, ◌or◌, each, sum}
use Rattle.model.specs.Tables as model
use Rattle.table.specs.declared.Table.{Table}

-- how many rows of the first k kinds there may be
abbrev pub room_in : List RowKind → ℕ → ℕ
room_in xs zero = 0
room_in [] (suc k) = 0
room_in (x ∷ xs) (suc k) = x.most + room_in xs k

-- how many rows a table may have, and how many numbers they take
abbrev pub most_rows : ℕ
most_rows = room_in kinds stored_kinds

abbrev pub slots : ℕ
slots = most_fields * most_rows

abbrev pub made : List ℕ → List ℕ → Table
made counts rows = record { counts = counts; rows = rows }

abbrev pub empty_table : Table
empty_table = made (replicate stored_kinds 0) (replicate slots 0)

-- how many rows of other kinds there is room for before those of a kind
unfoldable pub base_of : ℕ → ℕ
base_of k = room_in kinds k

-- where the numbers of row i of a kind stand
abbrev pub slot_of : ℕ → ℕ → ℕ
slot_of k i = most_fields * (base_of k + i)

-- no kind has more rows than there may be; how many there are in all
pub record Counted (counts : List ℕ) : Type 0 where
  pub kinds : length counts ≡ stored_kinds
  pub most : (k : ℕ) → k < stored_kinds → get_or counts k 0 ≤ most_of k

abbrev pub total_of : List ℕ → ℕ
total_of counts = sum stored_kinds (λ k. get_or counts k 0)

-- a field's value in 32 bits, and back: the largest stands for `ether`
abbrev pub ether_slot : ℕ
ether_slot = 4294967295

unfoldable pub narrowed : ℕ → ℕ
narrowed v = min v ether_slot

unfoldable pub widened : ℕ → ℕ
widened x = pick (eqb x ether_slot) ether_value x

-- what a stored number says in a field of a form: any codel kind past `main` is `main`, any mode past `pause` is `pause`
unfoldable pub shown : Option Form → ℕ → ℕ
shown None x = 0
shown (Some form.Number) x = widened x
shown (Some form.Kind) x = min x 2
shown (Some form.Mode) x = min x 1
shown (Some form.Target) x = widened x

-- field j of row i of a kind; 0 for a row that there is no room for
unfoldable pub field_of : List ℕ → ℕ → ℕ → ℕ → ℕ
field_of rows k i j = pick (ltb i (most_of k)) (shown (form_of k j) (get_or rows (slot_of k i + j) 0)) 0

-- row i of a kind
abbrev pub row_of : List ℕ → ℕ → ℕ → Row
row_of rows k i = record { kind = k; a = field_of rows k i 0; b = field_of rows k i 1; c = field_of rows k i 2 }

-- a stored number that is what is stored of what it says: 0 where there is no field, a codel kind up to `main`, a mode up to `pause`, 32 bits
unfoldable pub stored_ok : Option Form → ℕ → Bool
stored_ok None x = eqb x 0
stored_ok (Some form.Number) x = leb x ether_slot
stored_ok (Some form.Kind) x = ltb x 3
stored_ok (Some form.Mode) x = ltb x 2
stored_ok (Some form.Target) x = leb x ether_slot

-- number j of row i of a kind: such a number where the table has that row, else 0
unfoldable pub number_ok : Table → ℕ → ℕ → ℕ → Bool
number_ok t k i j =
    pick (ltb i (get_or t.counts k 0)) (stored_ok (form_of k j) (get_or t.rows (slot_of k i + j) 0)) (eqb (get_or t.rows (slot_of k i + j) 0) 0)

-- "So one table has one text.": of the tables that say the same rows, the one that is read from their text
unfoldable pub canonical : Table → Bool
canonical t =
    eqb (length t.counts) stored_kinds
    and eqb (length t.rows) slots
    and each stored_kinds (λ k. each (most_of k) (λ i. each most_fields (number_ok t k i)))

-- one row more
unfoldable pub add_row : Table → Row → Table
add_row t r = record {
  counts = set t.counts r.kind (get_or t.counts r.kind 0 + 1);
  rows = sets t.rows (slot_of r.kind (get_or t.counts r.kind 0)) (narrowed r.a ∷ narrowed r.b ∷ narrowed r.c ∷ []);
}

-- the pair (a, b) stands below the pair (c, d)
abbrev pub pair_below : ℕ → ℕ → ℕ → ℕ → Bool
pair_below a b c d = ltb a c or (eqb a c and ltb b d)

-- what the rules see
unfoldable pub table_of : Table → model.Table
table_of t = record {
  ntasks = get_or t.counts 0 0;
  nacts = get_or t.counts 1 0;
  ncodels = get_or t.counts 2 0;
  nedges = get_or t.counts 3 0;
  nmutex = get_or t.counts 4 0;
  period = λ i. field_of t.rows 0 i 0;
  keep = λ i. field_of t.rows 0 i 1;
  task = λ i. field_of t.rows 1 i 0;
  owner = λ i. field_of t.rows 2 i 0;
  kind = λ i. field_of t.rows 2 i 1;
  limit = λ i. field_of t.rows 2 i 2;
  edge = λ i. record { source = field_of t.rows 3 i 0; target = target_of (field_of t.rows 3 i 1); pause = eqb (field_of t.rows 3 i 2) 1 };
  mutex = λ i. record { lo = field_of t.rows 4 i 0; hi = field_of t.rows 4 i 1 };
}
