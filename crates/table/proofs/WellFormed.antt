-- A table that is accepted row by row is well formed as a whole: what was accepted behind the rows before it stays so beside all others.
use Prim.Native.Nat.{ℕ, ◌≤◌, ◌<◌}
use mathlib.Core.Path.{◌≡◌, refl, ap, ◌∙◌}
use mathlib.Core.List.{List}
use mathlib.Core.Bool.{Bool, true, not}
use native.Mathlib.Omega.{arith}
use lib.ListN.{get_or, get_or-replicate}
use lib.Dec.{ltb, leb, eqb}
use borrow.Author.Tests.{lt-ltb, ltb-true, eq-eqb}
use Rattle.text.proofs.Picks.{order}
use Rattle.row.specs.Kinds.{stored_kinds}
use Rattle.row.specs.declared.Row.{Row}
use Rattle.model.specs.Tests.{◌and◌, each, after, accepted}
use Rattle.model.specs.Tables.{EdgeRow, MutexRow, known, is_kind, target_of}
use Rattle.model.specs.Rows.{edge_below, mutex_below, target_ok}
use Rattle.model.specs.Rows.{has_act, has_start, leaves, last_fault, wellformed}
use Rattle.model.specs.declared.Place.{Place}
use Rattle.model.specs.declared.Place.TheVariants.{Ether, Codel}
use Rattle.table.specs.Tables.{empty_table, field_of, row_of, add_row, table_of}
use Rattle.table.specs.Checks.{fault_at, kind_fault, row_fault, in_place, rows_of, check_table, Passes}
use Rattle.table.specs.declared.Table.{Table}
use Rattle.table.proofs.Tests.{needed, each_all, each_same, some_same, after_same}
use Rattle.table.proofs.Fields.{by_kind}
use Rattle.table.proofs.Faults.{act_passes, codel_passes, edge_passes, mutex_passes}
use Rattle.table.proofs.Accepted.{Follows}
use Rattle.table.proofs.Stored.{place_of, stored}
use Rattle.table.proofs.RowsOf.{some_row}
use Rattle.table.proofs.Grown.{Grown, grown_added, added_place, same_counts, same_grown}
use Rattle.table.proofs.Built.{Built, done, more, built_all, table_whole, fine_accepts}

-- each row of a table is accepted behind those before it
unfoldable pub RowsFine : Table → Type 0
RowsFine t = (k i : ℕ) → k < stored_kinds → i < get_or t.counts k 0 → fault_at (table_of t) i (row_of t.rows k i) ≡ 0

-- an edge and a mutex as the rules see them
abbrev edge_of : Row → EdgeRow
edge_of r = record { source = r.a; target = target_of r.b; pause = eqb r.c 1 }

abbrev mutex_of : Row → MutexRow
mutex_of r = record { lo = r.a; hi = r.b }

-- what decides on a row of kind k behind n rows of its kind is in u as in t: the earlier kinds, and those n rows
pub record Behind (t u : Table) (k n : ℕ) : Type 0 where
  pub counts : (m : ℕ) → m < k → get_or t.counts m 0 ≤ get_or u.counts m 0
  pub rows : (m i : ℕ) → m < k → i < get_or t.counts m 0 → row_of u.rows m i ≡ row_of t.rows m i
  pub own : (i : ℕ) → i < n → row_of u.rows k i ≡ row_of t.rows k i

module _ {t u : Table} {k n : ℕ} (s : Behind t u k n) where
  first_kept : (m i : ℕ) → m < k → i < get_or t.counts m 0 → field_of u.rows m i 0 ≡ field_of t.rows m i 0
  first_kept m i h l = ap (λ (r : Row). r.a) (s.rows m i h l)

  second_kept : (m i : ℕ) → m < k → i < get_or t.counts m 0 → field_of u.rows m i 1 ≡ field_of t.rows m i 1
  second_kept m i h l = ap (λ (r : Row). r.b) (s.rows m i h l)

  -- a test of the row before
  order_kept : (q : Row → Bool) → after n (λ i. q (row_of u.rows k i)) ≡ after n (λ i. q (row_of t.rows k i))
  order_kept q = after_same (λ i. q (row_of u.rows k i)) (λ i. q (row_of t.rows k i)) n (λ i l. ap q (s.own i l))

  -- a number that names a row still names it
  named : (m v : ℕ) → m < k → ltb v (get_or t.counts m 0) ≡ true → ltb v (get_or u.counts m 0) ≡ true
  named m v h e = let l = ltb-true v (get_or t.counts m 0) e in lt-ltb v (get_or u.counts m 0) (omega (arith, s.counts m h))

  module _ (h : 2 < k) where
    known_kept : (p : Place) → known (table_of t) p ≡ true → known (table_of u) p ≡ true
    unfolding table_of
    known_kept Ether e = refl
    known_kept (Codel c) e = named 2 c h e

    stays_kept : (c : ℕ) (p : Place) (pause : Bool) → ltb c (table_of t).ncodels ≡ true → known (table_of t) p ≡ true
        → target_ok (table_of u) c p pause ≡ target_ok (table_of t) c p pause
    unfolding table_of
    stays_kept c Ether pause l m = refl
    stays_kept c (Codel d) pause l m =
        let b = ltb-true d (get_or t.counts 2 0) m in
        rw (first_kept 2 c h (ltb-true _ _ l), first_kept 2 d h b, second_kept 2 d h b)

-- each codel's activity is there
unfoldable pub Owned : Table → Type 0
Owned t = (i : ℕ) → i < get_or t.counts 2 0 → (table_of t).owner i < get_or t.counts 1 0

-- a row that is accepted behind the first n rows of its kind in t is so in u
module _ (t u : Table) (owned : Owned t) (n : ℕ) where
  abbrev Stays : Row → Type 0
  Stays r = Behind t u r.kind n → fault_at (table_of t) n r ≡ 0 → fault_at (table_of u) n r ≡ 0

  pub stays : (r : Row) → r.kind < stored_kinds → Stays r
  unfolding fault_at table_of Owned
  stays =
      by_kind Stays
      (λ a b c s f. f)
      (λ a b c s f.
      let p = act_passes (table_of t) n a f in
      rw (order_kept s (λ r. leb r.a a), p.order, p.room, named s 0 a (omega arith) p.names))
      (λ a b c s f.
      let p = codel_passes (table_of t) n a b c f in
      rw (
        order_kept s (λ r. leb r.a a),
        p.order,
        p.room,
        p.limit,
        named s 1 a (omega arith) p.names,
        each_same (λ i. not (is_kind (table_of u) a b i)) (λ i. not (is_kind (table_of t) a b i)) n
            (λ i l. ap (λ (r : Row). not (eqb r.a a and eqb r.b b)) (s.own i l)),
        p.alone,
      ))
      (λ a b c s f.
      let p = edge_passes (table_of t) n a (target_of b) (eqb c 1) f in
      rw (
        order_kept s (λ r. edge_below (edge_of r) a (target_of b)),
        p.order,
        p.room,
        named s 2 a (omega arith) p.source,
        known_kept s (omega arith) (target_of b) p.target,
        stays_kept s (omega arith) a (target_of b) (eqb c 1) p.source p.target,
        p.stays,
      ))
      (λ a b c s f.
      let p = mutex_passes (table_of t) n a b f in
      let x = ltb-true a (get_or t.counts 2 0) p.lower in
      let y = ltb-true b (get_or t.counts 2 0) p.higher in
      rw (
        p.first,
        order_kept s (λ r. mutex_below (mutex_of r) a b),
        p.order,
        p.room,
        named s 2 a (omega arith) p.lower,
        named s 2 b (omega arith) p.higher,
        first_kept s 2 a (omega arith) x,
        first_kept s 2 b (omega arith) y,
        first_kept s 1 ((table_of t).owner a) (omega arith) (owned a x),
        first_kept s 1 ((table_of t).owner b) (omega arith) (owned b y),
        p.spans,
      ))

-- a table that has grown has what decides on its rows
grown_behind : {t u : Table} → Grown t u → (k n : ℕ) → k < stored_kinds → n ≤ get_or t.counts k 0 → Behind t u k n
grown_behind g k n h l =
    record { counts = λ m a. g.counts m (omega arith); rows = λ m i a. g.rows m i (omega arith); own = λ i a. g.rows k i h (omega arith) }

-- where each row is accepted, each codel's activity is there
pub fine_owned : (t : Table) → RowsFine t → Owned t
unfolding RowsFine Owned fault_at table_of
fine_owned t s i h =
    let r = row_of t.rows 2 i in
    ltb-true _ _ (codel_passes (table_of t) i r.a r.b r.c (s 2 i (omega arith) h)).names

-- its rows are accepted in a table that grew from it
fine_grown : (t u : Table) → Grown t u → RowsFine t → (k i : ℕ) → k < stored_kinds → i < get_or t.counts k 0
    → fault_at (table_of u) i (row_of u.rows k i) ≡ 0
unfolding RowsFine
fine_grown t u g s k i h l =
    rw (g.rows k i h l)
    (stays t u (fine_owned t s) i (row_of t.rows k i) h (grown_behind g k i h (omega arith)) (s k i h l))

-- and so is a row that is added
fine_added : {t : Table} {r : Row} → Follows t r → RowsFine t → RowsFine (add_row t r)
unfolding RowsFine row_fault kind_fault
fine_added {t} {r} f o k i h l =
    let g = grown_added f in
    order i (get_or t.counts k 0)
    (λ m. fine_grown t (add_row t r) g o k i h m)
    (λ m.
    let p = added_place f k i m l in
    let own = (needed (in_place t.counts r.kind) 1 f.fine).1 in
    let before = grown_behind g r.kind (place_of t r) f.worded.kind (omega arith) in
    rw (p.0, p.1, stored f) (stays t (add_row t r) (fine_owned t o) (place_of t r) r f.worded.kind before own))

fine_built : {t u : Table} {rs : List Row} → Built t rs u → RowsFine t → RowsFine u
fine_built done o = o
fine_built (more f b) o = fine_built b (fine_added f o)

fine_empty : RowsFine empty_table
unfolding RowsFine
fine_empty k i h l = absurd (omega (arith, get_or-replicate {A = ℕ} stored_kinds k 0 0 h))

-- tables with the same rows: what holds of the one holds of the other
module _ (t u : Table) (e : rows_of t ≡ rows_of u) where
  fine_same : RowsFine t → RowsFine u
  unfolding RowsFine
  fine_same s k i h l = fine_grown t u (same_grown t u e) s k i h (omega (arith, same_counts t u e k h))

  some_row_lem : (k : ℕ) → k < stored_kinds → (q : Row → Bool) → some_row u k q ≡ some_row t k q
  some_row_lem k h q =
      let rows = (same_grown t u e).rows k in
      rw (← same_counts t u e k h)
      (some_same (λ i. q (row_of u.rows k i)) (λ i. q (row_of t.rows k i)) (get_or t.counts k 0) (λ i l. ap q (rows i h l)))

  pub last_same : last_fault (table_of u) ≡ last_fault (table_of t)
  unfolding last_fault table_of
  last_same =
      rw (
        each_same (has_act (table_of u)) (has_act (table_of t)) (table_of u).ntasks (λ x l. some_row_lem 1 (omega arith) (λ r. eqb r.a x)),
        each_same (has_start (table_of u)) (has_start (table_of t)) (table_of u).nacts
            (λ x l. some_row_lem 2 (omega arith) (λ r. eqb r.a x and eqb r.b 0)),
        each_same (leaves (table_of u)) (leaves (table_of t)) (table_of u).ncodels (λ x l. some_row_lem 3 (omega arith) (λ r. eqb r.a x)),
        ← same_counts t u e 0 (omega arith),
        ← same_counts t u e 1 (omega arith),
        ← same_counts t u e 2 (omega arith),
      )

-- each kind of a table whose every row is accepted
fines : (t : Table) → RowsFine t → (k : ℕ) → k < stored_kinds
    → each (get_or t.counts k 0) (λ i. accepted (fault_at (table_of t) i (row_of t.rows k i))) ≡ true
unfolding RowsFine
fines t s k h =
    each_all (get_or t.counts k 0) (λ i. accepted (fault_at (table_of t) i (row_of t.rows k i))) (λ i l. eq-eqb _ 0 (s k i h l))

-- an accepted table is well formed
pub accepted_wellformed : (t : Table) → Passes t → wellformed (table_of t) ≡ true
unfolding wellformed fault_at table_of
accepted_wellformed t e =
    let w = table_whole t (check_table t).table (fine_accepts (check_table t) e) in
    let same = built_all w.built in
    let s : RowsFine t = fine_same (check_table t).table t same (fine_built w.built fine_empty) in
    let l : last_fault (table_of t) ≡ 0 = last_same (check_table t).table t same ∙ w.last in
    rw (fines t s 0 (omega arith), fines t s 1 (omega arith), fines t s 2 (omega arith), fines t s 3 (omega arith), fines t s 4 (omega arith), l)
