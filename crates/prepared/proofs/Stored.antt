-- Where the numbers of a prepared table stand, and that each is what the table says.
use Prim.Native.Nat.{ℕ, ◌+◌, ◌*◌, ◌≤◌, ◌<◌, min}
use mathlib.Core.Bool.{Bool, true, false}
use mathlib.Core.List.{List}
use mathlib.Core.Path.{◌≡◌, refl, ◌∙◌}
use native.Mathlib.Omega.{arith}
use lib.ListN.{get_or, take}
use lib.Dec.{eqb}
use borrow.Author.Tests.{lt-ltb, eq-eqb, ne_eqb}
use Rattle.text.specs.Parts.{pick}
use Rattle.text.specs.Fields.{ether_value}
use Rattle.row.specs.Kinds.{kinds, stored_kinds, most_fields, most_of, form_of}
use Rattle.row.specs.declared.Form.TheVariants as form
use Rattle.std.specs.Prelude.{Some}
use Rattle.table.specs.Tables.{room_in, base_of, slot_of, ether_slot, widened, shown, field_of, made, table_of}
use Rattle.table.proofs.Limits.{row_room, number_most}
use Rattle.model.specs.Limits.{most_tasks, most_acts, most_codels, most_edges, most_mutexes, most_ticks}
use Rattle.model.specs.Tables.{target_of}
use Rattle.model.specs.Rows.{wellformed}
use Rattle.model.specs.declared.Place.TheVariants.{Ether, Codel}
use Rattle.model.proofs.Tests.{true_T}
use Rattle.model.proofs.Formed.{Formed, formed}
use Rattle.prepared.specs.Prepared.{number_place, number_in, table_in, end_of, edges_at, pairs_end_at, Prepared, pause_of}

-- where the rows of a kind begin, and number j of row i of them
abbrev pub rows_at : ℕ → ℕ
rows_at k = most_fields * room_in kinds k

abbrev pub cell : List ℕ → ℕ → ℕ → ℕ → ℕ
cell rows k i j = number_in rows (rows_at k) i j

cell_slot : (k i j : ℕ) → slot_of k i + j ≡ number_place (rows_at k) i j
unfolding base_of
cell_slot k i j = omega arith

-- a field of a row shows it
pub field_at : (rows : List ℕ) (k i j : ℕ) → i < most_of k → field_of rows k i j ≡ shown (form_of k j) (cell rows k i j)
unfolding field_of
field_at rows k i j h = rw (lt-ltb i (most_of k) h, cell_slot k i j)

-- which is the number itself, where the field is a number within the limits
plain : (x : ℕ) (b : Bool) → pick b ether_value x ≤ most_ticks → x ≡ pick b ether_value x
plain x true h = absurd (omega arith)
plain x false h = refl

-- the stored numbers of a well-formed table
module _ (counts rows : List ℕ) (w : wellformed (table_of (made counts rows)) ≡ true) where
  -- what follows from its being well formed
  pub shape_of : Formed (table_of (made counts rows))
  shape_of = formed (table_of (made counts rows)) (true_T _ w)

  module _ (k i j : ℕ) (h : k < stored_kinds) (l : i < get_or counts k 0) (m : j < most_fields) where
    pub number_at : (x : ℕ) → form_of k j ≡ Some form.Number → x ≡ cell rows k i j → x ≡ field_of rows k i j
    unfolding shown widened
    number_at x f e =
        let t = made counts rows in
        let q : field_of rows k i j ≡ pick (eqb (cell rows k i j) ether_slot) ether_value (cell rows k i j) = field_at rows k i j (row_room t w k i h l) ∙ rw f in
        rw q (e ∙ plain (cell rows k i j) (eqb (cell rows k i j) ether_slot) (rw q at (number_most t w k i h l j m f)))

module _ {rows index : List ℕ} (P : Prepared rows index) where
  -- what follows from a prepared table's being well formed
  pub shape : Formed (table_in rows index)
  shape = shape_of _ _ P.formed

  -- no kind has more rows than there is room for
  pub most_tasks_lem : (table_in rows index).ntasks ≤ most_tasks
  most_tasks_lem = shape.fits.0

  pub most_acts_lem : (table_in rows index).nacts ≤ most_acts
  most_acts_lem = shape.fits.1

  pub most_codels_lem : (table_in rows index).ncodels ≤ most_codels
  most_codels_lem = shape.fits.2

  pub most_edges_lem : (table_in rows index).nedges ≤ most_edges
  most_edges_lem = shape.fits.3

  pub most_mutexes_lem : (table_in rows index).nmutex ≤ most_mutexes
  most_mutexes_lem = shape.fits.4

  -- a number of a row that the table has
  module _ (k i j : ℕ) (h : k < stored_kinds) (l : i < get_or (take stored_kinds index) k 0) (m : j < most_fields) where
    pub number_is : form_of k j ≡ Some form.Number → (x : ℕ) → x ≡ cell rows k i j → x ≡ field_of rows k i j
    number_is f x e = number_at (take stored_kinds index) rows P.formed k i j h l m x f e

  -- where an edge pauses, by its stored target and mode
  module _ (e : ℕ) (h : e < (table_in rows index).nedges) where
    stored_pause : pause_of ((table_in rows index).edge e) ≡ pick (eqb (min (cell rows 3 e 2) 1) 1) (target_of (widened (cell rows 3 e 1))) Ether
    unfolding table_of most_of form_of shown
    stored_pause =
        let l : e < most_edges = omega (arith, most_edges_lem) in
        rw (field_at rows 3 e 1 l, field_at rows 3 e 2 l)

    module _ (z : ℕ) (q : z ≡ cell rows 3 e 2) where
      pub pause_none : z ≡ 0 → Ether ≡ pause_of ((table_in rows index).edge e)
      pause_none n = rw (stored_pause, ← q, n)

      module _ (m : z ≡ 0 → ⊥) (y : ℕ) (o : y ≡ cell rows 3 e 1) where
        pauses : eqb (min z 1) 1 ≡ true
        pauses = eq-eqb (min z 1) 1 (omega arith)

        pub pause_ether : y ≡ ether_slot → Ether ≡ pause_of ((table_in rows index).edge e)
        unfolding widened
        pause_ether t = rw (stored_pause, ← q, pauses, ← o, t)

        pub pause_codel : (x : ℕ) → y < 4294967296 → (y ≡ ether_slot → ⊥) → x ≡ y → Codel x ≡ pause_of ((table_in rows index).edge e)
        unfolding widened
        pause_codel x f n p = rw (stored_pause, ← q, pauses, ← o, ne_eqb _ ether_slot n, ne_eqb y ether_value (omega arith), p)

  -- the edges and the mutex rows of a codel end where there is still room
  module _ (c : ℕ) (h : c < (table_in rows index).ncodels) where
    pub edges_end : end_of index edges_at c ≤ most_edges
    edges_end = omega (arith, P.edges.ends c h, most_edges_lem)

    pub pairs_end : get_or index (pairs_end_at + c) 0 ≤ most_mutexes
    pairs_end = omega (arith, P.pairs.ends c h, most_mutexes_lem)

-- where the numbers of a prepared table end, for what reads them
pub ruleset limits = (most_tasks_lem, most_acts_lem, most_codels_lem, most_edges_lem, most_mutexes_lem, edges_end, pairs_end)
