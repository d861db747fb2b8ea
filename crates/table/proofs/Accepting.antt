-- A table that is well formed as a whole is accepted row by row: so the check accepts exactly the well-formed tables.
use Prim.Native.Nat.{ℕ, zero, suc, ◌+◌, ◌<◌}
use mathlib.Core.Path.{◌≡◌, refl, sym, ap, ◌∙◌}
use mathlib.Core.List.{List, ◌++◌}
use mathlib.Core.Bool.{true}
use mathlib.Core.Logic.{◌↔◌}
use native.Mathlib.Omega.{arith}
use lib.ListN.{get_or, get_or-replicate}
use lib.Dec.{ltb, eqb}
use borrow.Author.Tests.{le-ltb, lt-ltb, eqb-true, eqb-false}
use Rattle.text.proofs.Picks.{cases, order}
use Rattle.row.specs.Kinds.{stored_kinds}
use Rattle.row.specs.declared.Row.{Row}
use Rattle.model.specs.Tests.{◌implies◌, each}
use Rattle.model.specs.Rows.{task_fine, act_fine, codel_fine, edge_fine, mutex_fine, last_fault, wellformed}
use Rattle.table.specs.Tables.{empty_table, row_of, add_row, table_of}
use Rattle.table.specs.Checks.{in_place, fault_at, kind_fault, row_fault, rows_from, kinds_from, Said, check_table, Passes}
use Rattle.table.specs.declared.Table.{Table}
use Rattle.table.proofs.Tests.{both, each_at, each_all}
use Rattle.table.proofs.Fields.{at_kind, row_worded}
use Rattle.table.proofs.Accepted.{Sized, Follows}
use Rattle.table.proofs.Stored.{empty_sized, added_sized, stored, others, count_same, count_other}
use Rattle.table.proofs.Built.{Built, done, more, built_all, whole_check}
use Rattle.table.proofs.WellFormed.{RowsFine, Behind, stays, fine_owned, last_same, accepted_wellformed}

-- each row of a well-formed table is accepted behind those before it, and nothing is missing
well_fine : (t : Table) → wellformed (table_of t) ≡ true → RowsFine t × (last_fault (table_of t) ≡ 0)
unfolding wellformed RowsFine fault_at table_of
well_fine t w =
    let K = table_of t in
    let a = both (each K.ntasks (task_fine K)) w in
    let b = both (each K.nacts (act_fine K)) a.1 in
    let c = both (each K.ncodels (codel_fine K)) b.1 in
    let d = both (each K.nedges (edge_fine K)) c.1 in
    let e = both (each K.nmutex (mutex_fine K)) d.1 in (
      λ k i h. at_kind (λ k. i < get_or t.counts k 0 → fault_at K i (row_of t.rows k i) ≡ 0)
          (λ l. eqb-true _ 0 (each_at K.ntasks (task_fine K) a.0 i l))
          (λ l. eqb-true _ 0 (each_at K.nacts (act_fine K) b.0 i l))
          (λ l. eqb-true _ 0 (each_at K.ncodels (codel_fine K) c.0 i l))
          (λ l. eqb-true _ 0 (each_at K.nedges (edge_fine K) d.0 i l))
          (λ l. eqb-true _ 0 (each_at K.nmutex (mutex_fine K) e.0 i l)) k h,
      eqb-true _ 0 e.1,
    )

-- b has the rows of t before row i of kind k, and no others
record Taken (t b : Table) (k i : ℕ) : Type 0 where
  sized : Sized b
  before : (m : ℕ) → m < k → get_or b.counts m 0 ≡ get_or t.counts m 0
  own : k < stored_kinds → get_or b.counts k 0 ≡ i
  later : (m : ℕ) → k < m → m < stored_kinds → get_or b.counts m 0 ≡ 0
  rows : (m j : ℕ) → m < stored_kinds → j < get_or b.counts m 0 → row_of b.rows m j ≡ row_of t.rows m j

taken_none : (t : Table) → Taken t empty_table 0 0
taken_none t =
    let none : (m : ℕ) → m < stored_kinds → get_or empty_table.counts m 0 ≡ 0 = λ m h. get_or-replicate {A = ℕ} stored_kinds m 0 0 h in
    record {
      sized = empty_sized;
      before = λ m h. absurd (omega arith);
      own = λ h. none 0 h;
      later = λ m h l. none m l;
      rows = λ m j h l. absurd (omega (arith, none m h));
    }

-- a table that has rows of t before that one
record Reached (t b : Table) (rs : List Row) (k i : ℕ) : Type 0 where
  to : Table
  built : Built b rs to
  taken : Taken t to k i

joined : {b c d : Table} {rs ss : List Row} → Built b rs c → Built c ss d → Built b (rs ++ ss) d
joined done d = d
joined (more f b) d = more f (joined b d)

module _ (t : Table) (fine : RowsFine t) where
  -- the next row is accepted
  next_follows : {b : Table} (k i : ℕ) → k < stored_kinds → i < get_or t.counts k 0 → Taken t b k i → Follows b (row_of t.rows k i)
  unfolding row_fault kind_fault in_place RowsFine
  next_follows {b} k i h l s =
      let r = row_of t.rows k i in
      let place : in_place b.counts k ≡ true =
      each_all stored_kinds (λ j. ltb k j implies eqb (get_or b.counts j 0) 0)
      (λ j m. order k j (λ a. rw (lt-ltb _ _ a, s.later j a m)) (λ a. rw (le-ltb _ _ a))) in
      let behind : Behind t b k i =
      record {
        counts = λ m a. omega (arith, s.before m a);
        rows = λ m j a c. s.rows m j (omega arith) (omega (arith, s.before m a));
        own = λ j a. s.rows k j h (omega (arith, s.own h));
      } in
      let own = stays t b (fine_owned t fine) i r h behind (fine k i h l) in
      record {
        sized = s.sized;
        worded = row_worded t.rows k i h;
        fine = rw (place, s.own h) own;
      }

  -- and is then one of those taken
  next_taken : {b : Table} (k i : ℕ) → k < stored_kinds → i < get_or t.counts k 0 → Taken t b k i → Taken t (add_row b (row_of t.rows k i)) k (i + 1)
  next_taken {b} k i h l s =
      let r = row_of t.rows k i in
      let f = next_follows k i h l s in
      let own : get_or (add_row b r).counts k 0 ≡ i + 1 = count_same f ∙ ap (λ (n : ℕ). n + 1) (s.own h) in
      record {
        sized = added_sized f;
        before = λ m a. count_other f m (λ e. omega arith) ∙ s.before m a;
        own = λ a. own;
        later = λ m a c. count_other f m (λ e. omega arith) ∙ s.later m a c;
        rows = λ m j a c.
            cases (eqb m k)
            (λ e.
            let q = eqb-true m k e in
            let d : j < i + 1 = omega (arith, own, ap (λ (x : ℕ). get_or (add_row b r).counts x 0) q) in
            rw q
            (cases (eqb j i)
            (λ z. rw (eqb-true j i z) (rw (s.own h) at (stored f)))
            (λ z.
            let n = eqb-false j i z in
            others f k j (λ p y. n (y ∙ s.own h)) ∙ s.rows k j h (order j i (λ l. omega (arith, s.own h)) (λ l. absurd (n (omega arith)))))))
            (λ e.
            let n = eqb-false m k e in
            others f m j (λ p z. n p) ∙ s.rows m j a (rw (count_other f m n) at c));
      }

  -- the rows of a kind
  rows_reached : (n : ℕ) {b : Table} (k i : ℕ) → k < stored_kinds → i + n ≡ get_or t.counts k 0 → Taken t b k i
      → Reached t b (rows_from t.rows k i n) k (get_or t.counts k 0)
  unfolding rows_from
  rows_reached zero {b} k i h e s =
      let q : i ≡ get_or t.counts k 0 = omega arith in
      record { to = b; built = done; taken = rw q at s }
  rows_reached (suc n) k i h e s =
      let l : i < get_or t.counts k 0 = omega arith in
      let r = rows_reached n k (i + 1) h (omega arith) (next_taken k i h l s) in
      record { to = r.to; built = more (next_follows k i h l s) r.built; taken = r.taken }

  -- and the kinds
  next_kind : {b : Table} (k : ℕ) → k < stored_kinds → Taken t b k (get_or t.counts k 0) → Taken t b (k + 1) 0
  next_kind k h s =
      record {
        sized = s.sized;
        before = λ m a. order m k (λ l. s.before m l) (λ l. let e : m ≡ k = omega arith in rw e (s.own h));
        own = λ a. s.later (k + 1) (omega arith) a;
        later = λ m a c. s.later m (omega arith) c;
        rows = s.rows;
      }

  kinds_reached : (n : ℕ) {b : Table} (k : ℕ) → k + n ≡ stored_kinds → Taken t b k 0 → Reached t b (kinds_from t k n) stored_kinds 0
  unfolding kinds_from
  kinds_reached zero {b} k e s = let q : k ≡ stored_kinds = omega arith in record { to = b; built = done; taken = rw q at s }
  kinds_reached (suc n) k e s =
      let h : k < stored_kinds = omega arith in
      let r = rows_reached (get_or t.counts k 0) k 0 h (omega arith) s in
      let q = kinds_reached n (k + 1) (omega arith) (next_kind k h r.taken) in
      record { to = q.to; built = joined r.built q.built; taken = q.taken }

-- a well-formed table is accepted
wellformed_accepted : (t : Table) → wellformed (table_of t) ≡ true → Passes t
unfolding check_table
wellformed_accepted t w =
    let f = well_fine t w in
    let r = kinds_reached t f.0 stored_kinds 0 refl (taken_none t) in
    let last : last_fault (table_of r.to) ≡ 0 = last_same t r.to (sym (built_all r.built)) ∙ f.1 in
    ap (λ (x : Said). x.numbers) (whole_check 1 r.built last)

-- the check accepts exactly the well-formed tables
pub accepted_exactly : (t : Table) → Passes t ↔ wellformed (table_of t) ≡ true
accepted_exactly t = (accepted_wellformed t, wellformed_accepted t)
