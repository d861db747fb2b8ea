-- What the rows of a well-formed table store is what the table says, and the index has room for it.
use Prim.Native.Nat.{ℕ, ◌+◌, ◌≤◌, ◌<◌, min}
use mathlib.Core.List.{List}
use mathlib.Core.Path.{◌≡◌, refl}
use native.Mathlib.Omega.{arith}
use lib.ListN.{length, get_or}
use mir.Syntax.{w32}
use mir.Val.{Fits}
use Rattle.text.proofs.Picks.{order}
use Rattle.row.specs.Kinds.{stored_kinds, most_of, form_of}
use Rattle.row.proofs.Tables.{most_within}
use Rattle.table.specs.Tables.{shown, field_of, table_of, Counted}
use Rattle.table.specs.declared.Table.{Table}
use Rattle.model.specs.Limits.{most_acts, most_codels, most_edges, most_mutexes}
use Rattle.model.proofs.Formed.{Formed}
use Rattle.prepared.specs.Prepared.{number_place, edges_at, acts_at, index_length}
use Rattle.prepared.proofs.Stored.{rows_at, cell, field_at, number_at, shape_of}
use Rattle.preparing.specs.Filling.{kind_place, Laid}
use Rattle.preparing.proofs.Ordered.{ordered}
use Rattle.preparing.proofs.Noted.{place_past, place_low}

-- a count fits a number of the index
pub few : {counts : List ℕ} → Counted counts → (k : ℕ) → k < stored_kinds → Fits w32 (get_or counts k 0)
few C k h = record { fits = omega (arith, C.most k h, most_within k) }

module _ {t : Table} (L : Laid t) where
  -- what follows from the table's being well formed
  pub shape : Formed (table_of t)
  shape = shape_of _ _ L.formed

  -- there are no more rows than there may be
  pub most_codels_lem : get_or t.counts 2 0 ≤ most_codels
  unfolding table_of
  most_codels_lem = shape.fits.2

  pub most_mutexes_lem : get_or t.counts 4 0 ≤ most_mutexes
  unfolding table_of
  most_mutexes_lem = shape.fits.4

  -- the stored number of an edge's source
  pub source_cell : (e : ℕ) → e < get_or t.counts 3 0 → cell t.rows 3 e 0 ≡ ((table_of t).edge e).source
  unfolding table_of form_of
  source_cell e h = number_at t.counts t.rows L.formed 3 e 0 (omega arith) h (omega arith) _ refl refl

  -- a stored kind past `main` is `main`
  pub kind_cell : (c a : ℕ) → c < get_or t.counts 2 0 → kind_place (cell t.rows 2 c 1) a ≡ kind_place ((table_of t).kind c) a
  unfolding table_of most_of form_of shown
  kind_cell c a h =
      let x = cell t.rows 2 c 1 in
      let f : field_of t.rows 2 c 1 ≡ min x 2 = field_at t.rows 2 c 1 (omega (arith, shape.fits.2)) in
      order x 2
      (λ l. let e : min x 2 ≡ x = omega arith in rw (f, e))
      (λ l. let e : min x 2 ≡ 2 = omega arith in rw (f, e) (place_past x a l))

  -- the rows that a row names are few enough for the index
  pub owner_low : (c x : ℕ) → c < get_or t.counts 2 0 → x ≡ cell t.rows 2 c 0 → x < most_acts
  unfolding table_of form_of
  owner_low c x h e = omega (arith, number_at t.counts t.rows L.formed 2 c 0 (omega arith) h (omega arith) x refl e, shape.owner c h, shape.fits.1)

  -- and so is the place of its kind
  pub placed_low : (c a z p : ℕ) → c < get_or t.counts 2 0 → a ≡ cell t.rows 2 c 0 → p ≡ kind_place z a → p < index_length
  placed_low c a z p h e f = omega (arith, place_low z a (owner_low c a h e))

  pub lo_low : (m x : ℕ) → m < get_or t.counts 4 0 → x ≡ cell t.rows 4 m 0 → x < most_codels
  unfolding table_of form_of
  lo_low m x h e = omega (arith, number_at t.counts t.rows L.formed 4 m 0 (omega arith) h (omega arith) x refl e, (shape.mutex m h).0, most_codels_lem)

  pub hi_low : (m x : ℕ) → m < get_or t.counts 4 0 → x ≡ cell t.rows 4 m 1 → x < most_codels
  unfolding table_of form_of
  hi_low m x h e = omega (arith, number_at t.counts t.rows L.formed 4 m 1 (omega arith) h (omega arith) x refl e, (shape.mutex m h).1, most_codels_lem)

  -- the rows that are noted where they end are stored, and there is room for their ends
  pub edges_room : (n : ℕ) → n ≡ index_length → (get_or t.counts 3 0 ≤ most_edges) × ((e : ℕ) → e < get_or t.counts 3 0 → (number_place (rows_at 3) e 0 < length t.rows) × (edges_at + cell t.rows 3 e 0 < n))
  unfolding table_of
  edges_room n q = (shape.fits.3, λ e h. (omega (arith, L.size, shape.fits.3), omega (arith, source_cell e h, (ordered (table_of t) L.formed).source e h, most_codels_lem)))

  pub acts_room : (n : ℕ) → n ≡ index_length → (get_or t.counts 1 0 ≤ most_edges) × ((a : ℕ) → a < get_or t.counts 1 0 → (number_place (rows_at 1) a 0 < length t.rows) × (acts_at + cell t.rows 1 a 0 < n))
  unfolding table_of form_of
  acts_room n q = (omega (arith, shape.fits.1), λ a h. (omega (arith, L.size, shape.fits.1), omega (arith, number_at t.counts t.rows L.formed 1 a 0 (omega arith) h (omega arith) _ refl refl, shape.task a h, shape.fits.0)))
