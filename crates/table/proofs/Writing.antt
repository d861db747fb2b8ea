-- A table written row by row.
use Prim.Native.Nat.{ℕ, ◌+◌, ◌≤◌, ◌<◌}
use mathlib.Core.Path.{◌≡◌, refl, sym, ◌∙◌, ap}
use mathlib.Core.List.{List, [], ◌∷◌, ◌++◌}
use native.Mathlib.Omega.{arith}
use lib.ListN.{get_or, length, length-append}
use borrow.Author.Tests.{le-leb, lt-leb}
use Rattle.row.specs.Kinds.{stored_kinds}
use Rattle.row.specs.declared.Row.{Row}
use Rattle.model.specs.Tests.{after}
use Rattle.table.specs.Tables.{most_rows, total_of, row_of}
use Rattle.table.specs.Checks.{Said, numbers_of, says, check_table, Passes}
use lib.Seq.{sets, length-sets}
use Rattle.text.specs.Put.{Put}
use Rattle.text.proofs.Puts.{put_fits, sets_append}
use Rattle.row.specs.Row.{row_text}
use Rattle.table.specs.Texts.{longest, end_row, text_of, table_text, write_table, wrote_numbers, written_over}
use Rattle.table.specs.declared.Table.{Table}
use Rattle.table.specs.declared.fault.Refused.{Refused}
use Rattle.std.specs.Prelude.{Result, Ok, Err}
use Rattle.table.specs.Faults.{number_of}
use Rattle.table.specs.declared.fault.Fault.TheVariants as fault
use Rattle.table.proofs.Answers.{Is}
use Rattle.table.proofs.RowsOf.{rows_count}
use Rattle.table.proofs.Built.{fine_accepts}
use Rattle.table.proofs.Widths.{few_rows}
use Rattle.table.proofs.RowsLeft.{left_all, left_none, left_next, left, left_skip}

-- an accepted table has few rows, and its text starts with them
pub few : (t : Table) → Passes t → total_of t.counts ≤ most_rows
few t e = rw (rows_count t) at (few_rows t (check_table t).table (fine_accepts (check_table t) e))

text_start : (t : Table) → text_of (total_of t.counts) (left t 0 0) ≡ table_text t
unfolding table_text
text_start t = rw (left_all t, rows_count t)

-- a table's text, row by row: how long it is
pub width_start : (t : Table) → 0 + length (text_of (total_of t.counts) (left t 0 0)) ≡ length (table_text t)
width_start t = omega (arith, ap length (text_start t))

module _ (t : Table) (n k i at whole : ℕ) (now : at + length (text_of n (left t k i)) ≡ whole) where
  module _ (h : stored_kinds ≤ k) (m : ℕ) (p : m ≡ n) (r : Row) (q : r ≡ end_row m) (w : ℕ) (z : w ≡ length (row_text r)) where
    -- no row is left: with the `end` row it is the whole
    pub width_end : at + w ≡ whole
    unfolding text_of
    width_end = rw (z, q, p) (rw (left_none t k i h) at now)

    -- which fits
    pub end_fits : whole ≤ longest → at + w < 18446744073709551616
    end_fits l = omega (arith, width_end)

  module _ (h : k < stored_kinds) where
    -- no row of this kind is left
    pub width_skip : get_or t.counts k 0 ≤ i → at + length (text_of n (left t (k + 1) 0)) ≡ whole
    width_skip b = rw (left_skip t k i h b) at now

    module _ (b : i < get_or t.counts k 0) (r : Row) (q : r ≡ row_of t.rows k i) (w : ℕ) (z : w ≡ length (row_text r)) where
      -- one row more
      pub width_next : at + w + length (text_of n (left t k (i + 1))) ≡ whole
      unfolding text_of
      width_next =
          let e : at + length (row_text r ++ text_of n (left t k (i + 1))) ≡ whole = rw q (rw (left_next t k i h b) at now) in
          omega (arith, length-append (row_text r) (text_of n (left t k (i + 1))))

      -- which fits
      pub width_fits : whole ≤ longest → at + w < 18446744073709551616
      width_fits l = omega (arith, width_next)

-- a table being written before row i of kind k, at a place: writing the rows left gives what writing all gives
pub record Putting (t : Table) (k i at : ℕ) (buf buf₀ : List ℕ) : Type 0 where
  pub kept : length buf ≡ length buf₀
  pub wide : at + length (text_of (total_of t.counts) (left t k i)) ≡ length (table_text t)
  pub same : sets buf at (text_of (total_of t.counts) (left t k i)) ≡ sets buf₀ 0 (table_text t)

-- before the first row
pub put_start : (t : Table) (buf : List ℕ) → Putting t 0 0 0 buf buf
put_start t buf = record { kept = refl; wide = width_start t; same = rw (text_start t) }

module _ {t : Table} {k i at : ℕ} {buf buf₀ : List ℕ} (c : Putting t k i at buf buf₀) where
  -- no row of this kind is left
  pub put_skip : k < stored_kinds → get_or t.counts k 0 ≤ i → Putting t (k + 1) 0 at buf buf₀
  put_skip h b =
      record { kept = c.kept; wide = width_skip t (total_of t.counts) k i at _ c.wide h b; same = rw (left_skip t k i h b) at c.same }

  module _ (room : length (table_text t) ≤ length buf₀) (r : Row) (e : ℕ) (after : List ℕ) (z : Put buf at (row_text r) e after) where
    -- the row was written
    pub put_more : k < stored_kinds → i < get_or t.counts k 0 → r ≡ row_of t.rows k i → Putting t k (i + 1) e after buf₀
    unfolding text_of
    put_more h b q =
        let n = total_of t.counts in
        let wide = width_next t n k i at _ c.wide h b r q _ refl in
        let p = put_fits (omega (arith, c.kept)) z in
        let d : sets buf at (row_text r ++ text_of n (left t k (i + 1))) ≡ sets buf₀ 0 (table_text t) =
        rw q (rw (left_next t k i h b) at c.same) in
        record {
          kept = ap length p.1 ∙ length-sets buf at (row_text r) ∙ c.kept;
          wide = rw p.0 wide;
          same = rw (p.0, p.1) (sym (sets_append buf at (row_text r) (text_of n (left t k (i + 1)))) ∙ d);
        }

    -- the `end` row was written
    pub put_end : stored_kinds ≤ k → (m : ℕ) → m ≡ total_of t.counts → r ≡ end_row m
        → (e ≡ length (table_text t)) × (after ≡ sets buf₀ 0 (table_text t))
    unfolding text_of
    put_end h m p q =
        let wide = width_end t (total_of t.counts) k i at _ c.wide h m p r q _ refl in
        let d = put_fits (omega (arith, c.kept)) z in
        (d.0 ∙ wide, d.1 ∙ rw (q, p) (rw (left_none t k i h) at c.same))

-- a table written: refused, longer than the buffer, or whole
module _ (t : Table) (c : Result Table Refused) (e : says c ≡ check_table t) (buf : List ℕ) where
  told_same : (check_table t).numbers ≡ numbers_of c
  told_same = ap (λ (x : Said). x.numbers) (sym e) ∙ same c
    where
      same : (r : Result Table Refused) → (says r).numbers ≡ numbers_of r
      same (Ok u) = refl
      same (Err r) = refl

  -- the table is accepted
  pub checked_fine : (u : Table) → c ≡ Ok u → Passes t
  checked_fine u q = told_same ∙ ap numbers_of q

  -- the table is refused
  pub write_refused : (r : Refused) → c ≡ Err r → (w : Result ℕ Refused) → w ≡ Err r
      → (wrote_numbers w ≡ write_table t (length buf)) × (buf ≡ written_over (write_table t (length buf)) (table_text t) buf)
  unfolding write_table
  write_refused r u w q = rw (told_same, u, q) (refl, refl)

  module _ (u : Table) (p : c ≡ Ok u) (n : ℕ) (q : n ≡ length (table_text t)) where
    -- 31: the text is longer than the buffer
    pub write_short : length buf < n
        → (x : Refused) → Is x fault.NoRoom 0 → (number_of x.fault ∷ x.line ∷ [] ≡ write_table t (length buf)) × (buf ≡ written_over (write_table t (length buf)) (table_text t) buf)
    unfolding write_table
    write_short h x z = rw (z.0, z.1, told_same, p, ← q, lt-leb _ _ h) (refl, refl)

    -- the text is written
    pub write_whole : n ≤ length buf → (m : ℕ) (after : List ℕ) → (m ≡ length (table_text t)) × (after ≡ sets buf 0 (table_text t))
        → (m ∷ [] ≡ write_table t (length buf)) × (after ≡ written_over (write_table t (length buf)) (table_text t) buf)
    unfolding write_table
    write_whole h m after w = rw (told_same, p, ← q, le-leb _ _ h) (rw (w.0, q), w.1)
