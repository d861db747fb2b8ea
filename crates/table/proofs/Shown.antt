-- What a stored number says: a field of a row, and where its numbers stand.
use Prim.Native.Nat.{ℕ, ◌+◌, ◌≤◌, ◌<◌}
use mathlib.Core.Path.{◌≡◌}
use mathlib.Core.List.{List}
use native.Mathlib.Omega.{arith}
use lib.ListN.{get_or}
use lib.Dec.{eqb}
use mir.Val.{Fits}
use mir.Syntax.{w32}
use borrow.Author.Tests.{lt-ltb, le-ltb, eq-eqb, ne_eqb}
use Rattle.text.specs.Fields.{ether_value}
use Rattle.text.proofs.Picks.{cases}
use Rattle.row.specs.Kinds.{stored_kinds, most_fields, most_of, form_of}
use Rattle.std.specs.Prelude.{Option, Some, None}
use Rattle.row.specs.declared.Form.{Form}
use Rattle.row.specs.declared.Form.TheVariants as form
use Rattle.table.specs.Tables.{slots, slot_of, ether_slot, widened, shown, field_of}
use Rattle.table.proofs.Stored.{stretch}

-- what a stored number says that may be `ether`
module _ (x : ℕ) where
  -- the largest says `ether`
  pub wide_ether : x ≡ ether_slot → ether_value ≡ widened x
  unfolding widened
  wide_ether d = rw (eq-eqb _ _ d)

  -- any other says itself
  pub wide_value : (x ≡ ether_slot → ⊥) → x ≡ widened x
  unfolding widened
  wide_value d = rw (ne_eqb _ _ d)

-- a field of a row: 0 past the rows that there is room for, else what its number says
module _ (rows : List ℕ) (k i j m : ℕ) (e : m ≡ most_of k) where
  -- there is no room for the row
  pub field_past : m ≤ i → 0 ≡ field_of rows k i j
  unfolding field_of
  field_past h = let l : most_of k ≤ i = rw e at h in rw (le-ltb _ _ l)

  -- there is room
  pub field_is : i < m → (s : ℕ) (f : Option Form) (r : ℕ) → s ≡ slot_of k i → f ≡ form_of k j → r ≡ shown f (get_or rows (s + j) 0) → r ≡ field_of rows k i j
  unfolding field_of
  field_is h s f r o p q = let l : i < most_of k = rw e at h in rw (lt-ltb _ _ l, ← o, ← p) q

-- where its three numbers stand
pub slot_room : (k i : ℕ) → k < stored_kinds → i < most_of k → slot_of k i + most_fields ≤ slots
slot_room k i h l = omega (arith, stretch k h)

-- and how large it is at most
widened_most : (x : ℕ) → Fits w32 x → widened x ≤ ether_value
unfolding widened
widened_most x h = cases (eqb x ether_slot) (λ d. rw d (omega arith)) (λ d. rw d (omega arith))

pub shown_most : (f : Option Form) (x : ℕ) → Fits w32 x → shown f x ≤ ether_value
unfolding shown
shown_most None x h = omega arith
shown_most (Some form.Number) x h = widened_most x h
shown_most (Some form.Kind) x h = omega arith
shown_most (Some form.Mode) x h = omega arith
shown_most (Some form.Target) x h = widened_most x h
