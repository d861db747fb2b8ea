-- A given table checked row by row.
use Prim.Native.Nat.{ℕ, ◌+◌, ◌≤◌, ◌<◌}
use mathlib.Core.Path.{◌≡◌, refl, sym, ◌∙◌}
use mathlib.Core.List.{List}
use mathlib.Core.Bool.{Bool, true, false}
use native.Mathlib.Omega.{arith}
use lib.ListN.{get_or}
use lib.Dec.{ltb, leb}
use borrow.Author.Tests.{lt-ltb, le-ltb, le-leb, leb-true}
use Rattle.text.proofs.Picks.{order, false_true}
use Rattle.row.specs.Kinds.{stored_kinds, most_of}
use Rattle.row.specs.declared.Row.{Row}
use Rattle.model.specs.Tests.{sum}
use Rattle.table.specs.Tables.{empty_table, add_row, total_of, row_of}
use Rattle.table.specs.Faults.{number_of}
use Rattle.table.specs.Checks.{row_fault, Said, refused, on_fault, closed, given_fault, check_rows, check_table}
use Rattle.table.specs.Marks.{Building}
use Rattle.table.specs.Worded.{Worded}
use Rattle.table.proofs.Fields.{row_worded}
use Rattle.table.specs.declared.Table.{Table}
use Rattle.table.proofs.Totals.{few_counted}
use Rattle.table.specs.declared.fault.Fault.TheVariants as fault
use Rattle.table.specs.declared.fault.Refused.{Refused}
use Rattle.table.proofs.Answers.{stops, Is, told}
use Rattle.table.proofs.Storing.{store_total}
use Rattle.table.proofs.RowsLeft.{left_all, left_none, left_next, left, left_skip}

-- a row of a table is worded as one
pub given_worded : (rows : List ℕ) (k i : ℕ) (r : Row) → r ≡ row_of rows k i → k < stored_kinds → Worded r
given_worded rows k i r e h = rw e (row_worded rows k i h)

-- a table being checked before row i of kind k, at line l: the rows so far make d, and checking the rows left gives what checking all gives
pub record Checking (t : Table) (k i l : ℕ) (d : Table) : Type 0 where
  pub line : l ≡ total_of d.counts + 1
  pub same : check_rows d l (left t k i) ≡ check_table t

-- before the first row
pub check_start : (t d : Table) → d ≡ empty_table → Checking t 0 0 1 d
unfolding check_table sum
check_start t d e = rw e record { line = refl; same = rw (left_all t) }

module _ {t : Table} {k i l : ℕ} {d : Table} (c : Checking t k i l d) where
  -- no row is left
  pub check_end : stored_kinds ≤ k → (x : Said) → x ≡ closed d l → x ≡ check_table t
  unfolding check_rows
  check_end h x z = z ∙ rw (left_none t k i h) at c.same

  module _ (h : k < stored_kinds) where
    -- no row of this kind is left
    pub check_skip : get_or t.counts k 0 ≤ i → Checking t (k + 1) 0 l d
    check_skip b = record { line = c.line; same = rw (left_skip t k i h b) at c.same }

    module _ (b : i < get_or t.counts k 0) (m : Bool) (y : m ≡ leb (most_of k) (get_or d.counts k 0)) where
      check_given : (r : Row) → r ≡ row_of t.rows k i
          → on_fault (given_fault d r) l (check_rows (add_row d r) (l + 1) (left t k (i + 1))) ≡ check_table t
      unfolding check_rows
      check_given r q = rw q (rw (left_next t k i h b) at c.same)

      -- 3: there is no room for the row
      pub check_full : m ≡ true → (x : Refused) → Is x fault.Limit l → refused (number_of x.fault) x.line ≡ check_table t
      unfolding given_fault
      check_full f x z =
          let o = leb-true _ _ (sym y ∙ f) in
          told x _ _ z ∙ rw (le-ltb _ _ o) at (check_given (row_of t.rows k i) refl)

      module _ (f : m ≡ false) (r : Row) (q : r ≡ row_of t.rows k i) where
        room : get_or d.counts k 0 < most_of k
        room = order (get_or d.counts k 0) (most_of k) (λ a. a) (λ a. absurd (false_true (sym f ∙ y ∙ le-leb _ _ a)))

        check_next : on_fault (row_fault d r) l (check_rows (add_row d r) (l + 1) (left t k (i + 1))) ≡ check_table t
        unfolding given_fault
        check_next =
            let a : ltb (get_or d.counts r.kind 0) (most_of r.kind) ≡ true = rw q (lt-ltb _ _ room) in
            rw a at (check_given r q)

        -- the row is refused
        pub check_stops : (x : Refused) → number_of x.fault ≡ row_fault d r → x.line ≡ l → refused (number_of x.fault) x.line ≡ check_table t
        check_stops x e z = rw z (stops x.fault _ l _ e) ∙ check_next

        -- the row was stored
        pub check_more : (marks : List ℕ) → Building d marks → row_fault d r ≡ 0 → (u : Table) → u ≡ add_row d r → Checking t k (i + 1) (l + 1) u
        check_more marks b e u p =
            let w = given_worded t.rows k i r q h in
            record {
              line = omega (arith, c.line, store_total d marks b r w e u p);
              same = rw p (rw e at check_next);
            }

  -- there are few lines
  pub line_fits : (marks : List ℕ) → Building d marks → l + 1 < 18446744073709551616
  line_fits marks b = omega (arith, c.line, few_counted d.counts b.counted)
