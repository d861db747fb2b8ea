-- The table as the rules see it: how many rows of each kind, what each row says, and what follows from the rows.
use Rattle.std.specs.Prelude.{Bool, true, false, not, ℕ, eqb, ltb}
use Rattle.text.specs.Parts.{pick}
use Rattle.text.specs.Fields.{ether_value}
use Rattle.model.specs.Tests.{◌and◌, same_bool, each, some}
use Rattle.model.specs.declared.Place.{Place}
use Rattle.model.specs.declared.Place.TheVariants.{Ether, Codel}

-- "edge: codel, codel or `ether`, `run`/`pause`"
pub record EdgeRow : Type 0 where
  pub source : ℕ
  pub target : Place
  pub pause : Bool

-- "mutex: codel, codel"
pub record MutexRow : Type 0 where
  pub lo : ℕ
  pub hi : ℕ

-- "Tasks, activities and codels are numbered from 0 in row order." A codel's kind is 0 for `start`, 1 for `stop`, 2 for `main`.
pub record Table : Type 0 where
  pub ntasks : ℕ
  pub nacts : ℕ
  pub ncodels : ℕ
  pub nedges : ℕ
  pub nmutex : ℕ
  pub period : ℕ → ℕ
  pub keep : ℕ → ℕ
  pub task : ℕ → ℕ
  pub owner : ℕ → ℕ
  pub kind : ℕ → ℕ
  pub limit : ℕ → ℕ
  pub edge : ℕ → EdgeRow
  pub mutex : ℕ → MutexRow

-- a codel's number, or `ether`, as a place
abbrev pub target_of : ℕ → Place
target_of v = pick (eqb v ether_value) Ether (Codel v)

-- places
abbrev pub is_ether : Place → Bool
is_ether Ether = true
is_ether (Codel c) = false

abbrev pub is_codel : Place → ℕ → Bool
is_codel Ether c = false
is_codel (Codel d) c = eqb d c

abbrev pub same_place : Place → Place → Bool
same_place Ether q = is_ether q
same_place (Codel c) q = is_codel q c

-- ether, or a codel that has a row
abbrev pub known : Table → Place → Bool
known K Ether = true
known K (Codel c) = ltb c K.ncodels

-- c is the activity's start, its stop
abbrev pub is_kind : Table → ℕ → ℕ → ℕ → Bool
is_kind K a z c = eqb (K.owner c) a and eqb (K.kind c) z

abbrev pub is_start : Table → ℕ → ℕ → Bool
is_start K a c = is_kind K a 0 c

abbrev pub is_stop : Table → ℕ → ℕ → Bool
is_stop K a c = is_kind K a 1 c

-- there is an edge of that kind from c to p
unfoldable pub edge_is : EdgeRow → ℕ → Place → Bool → Bool
edge_is r c p z = eqb r.source c and same_place r.target p and same_bool r.pause z

unfoldable pub has_edge : Table → ℕ → Place → Bool → Bool
has_edge K c p z = some K.nedges (λ e. edge_is (K.edge e) c p z)

-- c is the target of a pause
unfoldable pub pausable : Table → ℕ → Bool
pausable K c = some K.nedges (λ e. (K.edge e).pause and is_codel (K.edge e).target c)

-- "A codel with no mutex row is thread safe."
abbrev pub row_clear : Table → ℕ → ℕ → Bool
row_clear K c m = not (eqb (K.mutex m).lo c) and not (eqb (K.mutex m).hi c)

unfoldable pub safe : Table → ℕ → Bool
safe K c = each K.nmutex (row_clear K c)
