-- What an accepted row shows: no row of a later kind is there, there is room for it, and its fields are within their limits.
use Prim.Native.Nat.{ℕ, suc, ◌<◌}
use mathlib.Core.Path.{◌≡◌, refl}
use mathlib.Core.Bool.{true}
use native.Mathlib.Omega.{arith}
use lib.ListN.{length, get_or}
use lib.Dec.{ltb, leb, eqb}
use borrow.Author.Tests.{lt-ltb, ltb-true, leb-true, eqb-true}
use Rattle.text.specs.Fields.{ether_value}
use Rattle.text.proofs.Picks.{cases}
use Rattle.model.specs.Tests.{◌implies◌}
use Rattle.model.specs.Limits.{most_tasks, most_acts, most_codels, most_ticks, in_range}
use Rattle.model.specs.Tables.{known, target_of}
use Rattle.model.specs.Tables as model
use Rattle.row.specs.Kinds.{stored_kinds, most_of, form_of}
use Rattle.row.specs.declared.Row.{Row}
use Rattle.table.specs.Tables.{slots, Counted, table_of}
use Rattle.table.specs.Checks.{in_place, fault_at, kind_fault, row_fault}
use Rattle.table.specs.declared.Table.{Table}
use Rattle.table.proofs.Tests.{both, needed, each_at}
use Rattle.table.proofs.Faults.{task_passes, act_passes, codel_passes, edge_passes, mutex_passes}
use Rattle.table.specs.Worded.{value_at, Worded}
use Rattle.table.proofs.Fields.{row_by, by_kind, three, limit_of, within, Limited}

-- a table that is being built
pub record Sized (t : Table) : Type 0 where
  pub size : length t.rows ≡ slots
  pub counted : Counted t.counts

-- a row that is accepted behind the rows of such a table
pub record Follows (t : Table) (r : Row) : Type 0 where
  pub sized : Sized t
  pub worded : Worded r
  pub fine : row_fault t r ≡ 0

-- what it shows
pub record Accepted (t : Table) (r : Row) : Type 0 where
  pub later : (j : ℕ) → r.kind < j → j < stored_kinds → get_or t.counts j 0 ≡ 0
  pub room : get_or t.counts r.kind 0 < most_of r.kind
  pub limited : Limited r

-- a value below its field's limit is within it
below : (k j v : ℕ) → v < limit_of k j → within k j v ≡ true
unfolding within
below k j v h = rw (lt-ltb _ _ h)

limits : (k a b c : ℕ) → a < limit_of k 0 → within k 1 b ≡ true → c < limit_of k 2 → Limited (row_by k a b c)
limits k a b c p q r = three (λ j. within k j (value_at (row_by k a b c) j) ≡ true) (below k 0 a p) q (below k 2 c r)

-- a number from 1 to 1,000,000,000
ranged : (v : ℕ) → in_range v ≡ true → v < suc most_ticks
ranged v h = let e = leb-true v most_ticks (both (leb 1 v) h).1 in omega arith

-- what each kind's own refusal shows
module _ (t : Table) (counted : Counted t.counts) where
  abbrev K : model.Table
  K = table_of t

  abbrev Shows : Row → Type 0
  Shows r = Worded r → kind_fault t r ≡ 0 → (get_or t.counts r.kind 0 < most_of r.kind) × Limited r

  codel : (v : ℕ) → ltb v K.ncodels ≡ true → v < most_codels
  unfolding table_of most_of
  codel v h = let l = ltb-true v K.ncodels h in omega (arith, counted.most 2 (omega arith))

  target : (v : ℕ) → known K (target_of v) ≡ true → within 3 1 v ≡ true
  unfolding within limit_of form_of
  target v h =
      cases (eqb v ether_value)
      (λ e. rw (eqb-true v ether_value e))
      (λ e. let l : ltb v K.ncodels ≡ true = rw e at h in below 3 1 v (codel v l))

  shows : (r : Row) → r.kind < stored_kinds → Shows r
  unfolding kind_fault fault_at table_of most_of limit_of form_of
  shows =
      by_kind Shows
      (λ a b c w f.
      let e = task_passes K.ntasks a b f in
      (ltb-true _ _ e.room, limits 0 a b c (ranged a e.period) (below 0 1 b (ranged b e.keep)) (w.words 2 (omega arith) refl)))
      (λ a b c w f.
      let e = act_passes K K.nacts a f in
      let l : a < most_tasks = omega (arith, ltb-true a K.ntasks e.names, counted.most 0 (omega arith)) in
      (ltb-true _ _ e.room, limits 1 a b c l (below 1 1 b (w.words 1 (omega arith) refl)) (w.words 2 (omega arith) refl)))
      (λ a b c w f.
      let e = codel_passes K K.ncodels a b c f in
      let l : a < most_acts = omega (arith, ltb-true a K.nacts e.names, counted.most 1 (omega arith)) in
      (ltb-true _ _ e.room, limits 2 a b c l (below 2 1 b (w.words 1 (omega arith) refl)) (ranged c e.limit)))
      (λ a b c w f.
      let e = edge_passes K K.nedges a (target_of b) (eqb c 1) f in
      (ltb-true _ _ e.room, limits 3 a b c (codel a e.source) (target b e.target) (w.words 2 (omega arith) refl)))
      (λ a b c w f.
      let e = mutex_passes K K.nmutex a b f in
      (ltb-true _ _ e.room, limits 4 a b c (codel a e.lower) (below 4 1 b (codel b e.higher)) (w.words 2 (omega arith) refl)))

-- an accepted row shows so much
pub accepted : {t : Table} {r : Row} → Follows t r → Accepted t r
unfolding row_fault in_place
accepted {t} {r} f =
    let a = needed (in_place t.counts r.kind) 1 f.fine in
    let s = shows t f.sized.counted r f.worded.kind f.worded a.1 in
    record {
      later = λ j h l.
          eqb-true _ _ (rw (lt-ltb _ _ h) at (each_at stored_kinds (λ i. ltb r.kind i implies eqb (get_or t.counts i 0) 0) a.0 j l));
      room = s.0;
      limited = s.1;
    }
