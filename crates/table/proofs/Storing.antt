-- An accepted row is stored, and the table is still being built.
use Prim.Native.Nat.{ℕ, suc, ◌+◌, ◌<◌}
use mathlib.Core.Path.{◌≡◌, refl, sym, ◌∙◌}
use mathlib.Core.List.{List, [], ◌∷◌}
use native.Mathlib.Omega.{arith}
use native.Mathlib.Numerals.{add-one}
use lib.ListN.{get_or, set, length-append}
use Rattle.row.specs.Kinds.{most_of, form_of}
use Rattle.row.specs.declared.Row.{Row}
use Rattle.model.specs.Limits.{most_tasks, most_acts, most_codels}
use Rattle.table.specs.Tables.{made, slot_of, narrowed, add_row, total_of}
use Rattle.table.specs.Checks.{row_fault, rows_of}
use Rattle.table.specs.Marks.{mark_of, Building}
use Rattle.table.specs.declared.Table.{Table}
use Rattle.table.specs.Worded.{Worded}
use Rattle.table.proofs.Fields.{limit_of, below_limit}
use Rattle.table.proofs.Marks.{building_sized, building_added}
use Rattle.table.proofs.Accepted.{Follows, accepted}
use Rattle.table.proofs.RowsOf.{rows_count, rows_added}

-- a row stored
module _ (counts rows : List ℕ) (r : Row) where
  abbrev Slot : ℕ
  Slot = slot_of r.kind (get_or counts r.kind 0)

  -- its three numbers and the count
  pub row_stored : (i a b c : ℕ) → i ≡ Slot → a ≡ narrowed r.a → b ≡ narrowed r.b → c ≡ narrowed r.c
      → made (set counts r.kind (get_or counts r.kind 0 + 1)) (set (set (set rows i a) (i + 1) b) (i + 2) c) ≡ add_row (made counts rows) r
  unfolding add_row
  row_stored i a b c o p q s = let e : Slot + 2 ≡ suc (suc Slot) = omega arith in rw (o, p, q, s, e, add-one Slot)

-- an accepted row can be stored
module _ (t : Table) (marks : List ℕ) (b : Building t marks) (r : Row) (w : Worded r) (f : row_fault t r ≡ 0) where
  follows : Follows t r
  follows = record { sized = building_sized b; worded = w; fine = f }

  -- there is room for it
  pub store_room : get_or t.counts r.kind 0 < most_of r.kind
  store_room = (accepted follows).room

  -- it has a mark
  pub store_mark : (r.kind ≡ 1 → r.a < most_tasks) × (r.kind ≡ 2 → r.a < most_acts) × (r.kind ≡ 3 → r.a < most_codels)
  unfolding limit_of form_of
  store_mark =
      let first = (accepted follows).limited 0 (omega arith) in (
        λ e. below_limit 1 0 r.a refl (rw e at first),
        λ e. below_limit 2 0 r.a refl (rw e at first),
        λ e. below_limit 3 0 r.a refl (rw e at first),
      )

  -- the table is still being built
  pub store_building : (u : Table) (marks' : List ℕ) → u ≡ add_row t r → marks' ≡ set marks (mark_of r) 1 → Building u marks'
  store_building u marks' p q = rw (p, q) (building_added t r marks b w f)

  -- there is one row more
  pub store_total : (u : Table) → u ≡ add_row t r → total_of u.counts ≡ total_of t.counts + 1
  store_total u p =
      sym (rows_count u) ∙ rw (p, rows_added follows, length-append (rows_of t) (r ∷ []), rows_count t)
