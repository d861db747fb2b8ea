-- A prepared table: the rows as the table by value has them, and an index of what lookups need: the counts, and what follows from the rows.
use Rattle.std.specs.Prelude.{ℕ, zero, suc, ◌+◌, ◌*◌, ◌≤◌, ◌<◌, List, Bool, true, ◌≡◌, length, get_or, take, eqb, ltb}
use Rattle.text.specs.Parts.{pick}
use Rattle.row.specs.Kinds.{stored_kinds, most_fields}
use Rattle.table.specs.Tables.{slots, made, table_of, ether_slot}
use Rattle.model.specs.Tests.{◌and◌, ◌or◌, some}
use Rattle.model.specs.Limits.{most_tasks, most_acts, most_codels}
use Rattle.model.specs.Tables.{Table, EdgeRow, is_start, safe}
use Rattle.model.specs.Rows.{wellformed}
use Rattle.model.specs.Rules.{stop_of}
use Rattle.model.specs.declared.Place.{Place}
use Rattle.model.specs.declared.Place.TheVariants.{Ether, Codel}

-- the counts come first; then a number that nothing asks for; then where each part of the index begins, and how long it is
abbrev pub nowhere : ℕ
nowhere = stored_kinds

abbrev pub safe_at : ℕ
safe_at = nowhere + 1

abbrev pub edges_at : ℕ
edges_at = safe_at + most_codels

abbrev pub pairs_from_at : ℕ
pairs_from_at = edges_at + most_codels

abbrev pub pairs_end_at : ℕ
pairs_end_at = pairs_from_at + most_codels

abbrev pub starts_at : ℕ
starts_at = pairs_end_at + most_codels

abbrev pub stops_at : ℕ
stops_at = starts_at + most_acts

abbrev pub acts_at : ℕ
acts_at = stops_at + most_acts

abbrev pub index_length : ℕ
index_length = acts_at + most_tasks

-- number j of row i of the rows that begin at a place
abbrev pub number_place : ℕ → ℕ → ℕ → ℕ
number_place at i j = at + most_fields * i + j

abbrev pub number_in : List ℕ → ℕ → ℕ → ℕ → ℕ
number_in rows at i j = get_or rows (number_place at i j) 0

-- what the rules see: the counts of the index with the rows
abbrev pub table_in : List ℕ → List ℕ → Table
table_in rows index = table_of (made (take stored_kinds index) rows)

-- the rows of one kind that belong to row i stand together: they end where the index says, and begin where those of the row before end
abbrev pub begin_of : List ℕ → ℕ → ℕ → ℕ
begin_of index at zero = 0
begin_of index at (suc i) = get_or index (at + i) 0

abbrev pub end_of : List ℕ → ℕ → ℕ → ℕ
end_of index at i = get_or index (at + i) 0

-- an activity's stop as the index has it; no codel has this number
abbrev pub no_stop : ℕ
no_stop = most_codels

abbrev pub stop_in : ℕ → Place
stop_in c = pick (eqb c no_stop) Ether (Codel c)

-- row e of n is one of those that belong to row i of m, exactly where it stands between the two places
pub record Together (index : List ℕ) (at n m : ℕ) (of : ℕ → ℕ) : Type 0 where
  pub ends : (i : ℕ) → i < m → end_of index at i ≤ n
  pub inside : (i e : ℕ) → i < m → begin_of index at i ≤ e → e < end_of index at i → of e ≡ i
  pub outside : (i e : ℕ) → i < m → e < n → of e ≡ i → (begin_of index at i ≤ e) × (e < end_of index at i)

-- mutex row m has the smaller codel c exactly where it stands between the two places
pub record Paired (index : List ℕ) (K : Table) : Type 0 where
  pub ends : (c : ℕ) → c < K.ncodels → get_or index (pairs_end_at + c) 0 ≤ K.nmutex
  pub inside : (c m : ℕ) → c < K.ncodels → get_or index (pairs_from_at + c) 0 ≤ m → m < get_or index (pairs_end_at + c) 0 → (K.mutex m).lo ≡ c
  pub outside : (c m : ℕ) → c < K.ncodels → m < K.nmutex → (K.mutex m).lo ≡ c → (get_or index (pairs_from_at + c) 0 ≤ m) × (m < get_or index (pairs_end_at + c) 0)

-- the index agrees with the rows of a well-formed table
pub record Prepared (rows index : List ℕ) : Type 0 where
  pub size : length rows ≡ slots
  pub indexed : length index ≡ index_length
  pub formed : wellformed (table_in rows index) ≡ true
  pub safes : (c : ℕ) → c < (table_in rows index).ncodels → eqb (get_or index (safe_at + c) 0) 1 ≡ safe (table_in rows index) c
  pub edges : Together index edges_at (table_in rows index).nedges (table_in rows index).ncodels (λ e. ((table_in rows index).edge e).source)
  pub acts : Together index acts_at (table_in rows index).nacts (table_in rows index).ntasks (table_in rows index).task
  pub pairs : Paired index (table_in rows index)
  pub starts : (a c : ℕ) → a < (table_in rows index).nacts → c < (table_in rows index).ncodels → is_start (table_in rows index) a c ≡ eqb c (get_or index (starts_at + a) 0)
  pub stops : (a : ℕ) → a < (table_in rows index).nacts → stop_in (get_or index (stops_at + a) 0) ≡ stop_of (table_in rows index) a

-- a place as a stored target, where its codel is small enough
abbrev pub small : Place → Bool
small Ether = true
small (Codel c) = ltb c most_codels

abbrev pub slot_in : Place → ℕ
slot_in Ether = ether_slot
slot_in (Codel c) = c

-- codels c and d are a mutex row, either way round
unfoldable pub conflict : Table → ℕ → ℕ → Bool
conflict K c d = some K.nmutex (λ m. (eqb (K.mutex m).lo c and eqb (K.mutex m).hi d) or (eqb (K.mutex m).lo d and eqb (K.mutex m).hi c))

-- where an edge pauses: its target, or ether where it is no pause
abbrev pub pause_of : EdgeRow → Place
pause_of r = pick r.pause r.target Ether
