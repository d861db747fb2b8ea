-- The index of a table, filled row by row.
use Rattle.std.specs.Prelude.{ℕ, zero, suc, ◌+◌, List, [], ◌∷◌, true, ◌≡◌, length, get_or, set, replicate, eqb}
use Rattle.text.specs.Parts.{pick}
use Rattle.row.specs.Kinds.{stored_kinds}
use Rattle.model.specs.Limits.{most_acts, most_codels}
use Rattle.model.specs.Tables.{Table}
use Rattle.model.specs.Rows.{wellformed}
use Rattle.table.specs.Tables.{slots, table_of, Counted}
use Rattle.table.specs.declared.Table as table
use Rattle.prepared.specs.Prepared.{nowhere, safe_at, edges_at, pairs_from_at, pairs_end_at, starts_at, stops_at, acts_at, index_length, no_stop}

-- n numbers from a place on made v
unfoldable pub filled : List ℕ → ℕ → ℕ → ℕ → List ℕ
filled l at v zero = l
filled l at v (suc n) = set (filled l at v n) (at + n) v

-- the counts of the first n kinds in front
unfoldable pub counted : (ℕ → ℕ) → List ℕ → ℕ → List ℕ
counted of l zero = l
counted of l (suc k) = set (counted of l k) k (of k)

-- how many rows of a kind there are
unfoldable pub count_in : Table → ℕ → ℕ
count_in K k = get_or (K.ntasks ∷ K.nacts ∷ K.ncodels ∷ K.nedges ∷ K.nmutex ∷ []) k 0

abbrev pub with_counts : Table → List ℕ → List ℕ
with_counts K l = counted (count_in K) l stored_kinds

-- the first n rows of a kind noted where the row that each belongs to has its end: the last of them wins
unfoldable pub ended : (ℕ → ℕ) → ℕ → List ℕ → ℕ → List ℕ
ended of at l zero = l
ended of at l (suc n) = set (ended of at l n) (at + of n) (n + 1)

-- where a codel is noted: as its activity's start or stop, or at a place that nothing asks for
abbrev pub kind_place : ℕ → ℕ → ℕ
kind_place z a = pick (eqb z 0) (starts_at + a) (pick (eqb z 1) (stops_at + a) nowhere)

unfoldable pub kinds_noted : Table → List ℕ → ℕ → List ℕ
kinds_noted K l zero = l
kinds_noted K l (suc c) = set (kinds_noted K l c) (kind_place (K.kind c) (K.owner c)) c

-- a mutex row: its smaller codel's rows begin at the first of them and end behind the last, and neither codel is thread safe
abbrev pub pair_noted : ℕ → ℕ → ℕ → List ℕ → List ℕ
pair_noted m lo hi l =
    set (set (set (set l (pairs_from_at + lo) (pick (eqb (get_or l (pairs_end_at + lo) 0) 0) m (get_or l (pairs_from_at + lo) 0)))
    (pairs_end_at + lo) (m + 1))
    (safe_at + lo) 0)
    (safe_at + hi) 0

unfoldable pub pairs_noted : Table → List ℕ → ℕ → List ℕ
pairs_noted K l zero = l
pairs_noted K l (suc m) = pair_noted m (K.mutex m).lo (K.mutex m).hi (pairs_noted K l m)

-- the whole index
abbrev pub blank : Table → List ℕ
blank K = filled (filled (with_counts K (replicate index_length 0)) safe_at 1 most_codels) stops_at no_stop most_acts

unfoldable pub index_of : Table → List ℕ
index_of K =
    pairs_noted K
    (kinds_noted K
    (ended K.task acts_at
    (ended (λ e. (K.edge e).source) edges_at (blank K) K.nedges)
    K.nacts)
    K.ncodels)
    K.nmutex

-- a well-formed table, with room for all that its rows may hold
pub record Laid (t : table.Table) : Type 0 where
  pub size : length t.rows ≡ slots
  pub counted : Counted t.counts
  pub formed : wellformed (table_of t) ≡ true
