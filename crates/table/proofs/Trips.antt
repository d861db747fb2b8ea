-- Reading and writing a table undo each other.
use Prim.Native.Nat.{ℕ, ◌+◌, ◌-◌}
use mathlib.Core.Path.{◌≡◌, refl, sym, ap, ◌∙◌}
use mathlib.Core.List.{List}
use mathlib.Core.Bool.{true}
use mathlib.Core.Logic.{◌↔◌}
use native.Mathlib.Omega.{arith}
use lib.ListN.{length}
use lib.Dec.{ltb}
use borrow.Author.Tests.{le-ltb}
use Rattle.text.specs.Parts.{split_on}
use Rattle.text.proofs.Parts.{join_split}
use Rattle.text.proofs.Picks.{passed}
use Rattle.model.specs.Tests.{◌and◌}
use Rattle.model.specs.Rows.{wellformed}
use Rattle.table.specs.Tables.{empty_table, canonical, table_of}
use Rattle.table.specs.Checks.{Said, accepts, rows_of, check_table, Passes}
use Rattle.table.specs.Texts.{longest, read_table, table_text}
use Rattle.table.specs.declared.Table.{Table}
use Rattle.table.proofs.Tests.{both}
use Rattle.table.proofs.Stored.{empty_sized}
use Rattle.table.proofs.Built.{fine_accepts, refused_not, built_all, table_whole, whole_check}
use Rattle.table.proofs.Lines.{Back, lines_back, rows_read}
use Rattle.table.proofs.WellFormed.{accepted_wellformed}
use Rattle.table.proofs.Accepting.{accepted_exactly}
use Rattle.table.proofs.Canonical.{canonical_same}
use Rattle.table.proofs.Widths.{few_rows, text_short}

read_back : (s : List ℕ) (t : Table) → read_table s ≡ accepts t → Back empty_table 1 (split_on 10 s) t
unfolding read_table
read_back s t e =
    let lines = (passed (ltb longest (length s)) (refused_not 3 0 t) e).1 in
    lines_back (split_on 10 s) empty_table 1 t empty_sized (omega arith) lines

-- what the reader accepts is the text that the writer gives for that table
pub read_text_lem : (s : List ℕ) (t : Table) → read_table s ≡ accepts t → table_text t ≡ s
unfolding table_text
read_text_lem s t e =
    let b = read_back s t e in
    let n : 1 - 1 + length b.got ≡ length b.got = omega arith in
    rw (built_all b.whole.built, ← n) (sym b.text ∙ join_split 10 s)

-- a table that was read passes the check of given tables, and is the table that its rows make
pub read_checks : (s : List ℕ) (t : Table) → read_table s ≡ accepts t → check_table t ≡ accepts t
unfolding check_table
read_checks s t e =
    let w = (read_back s t e).whole in
    rw (built_all w.built) (whole_check 1 w.built w.last)

-- and is well formed
pub read_wellformed : (s : List ℕ) (t : Table) → read_table s ≡ accepts t → wellformed (table_of t) ≡ true
read_wellformed s t e = accepted_wellformed t (ap (λ (x : Said). x.numbers) (read_checks s t e))

-- a table that was read is canonical
pub read_canonical : (s : List ℕ) (t : Table) → read_table s ≡ accepts t → canonical t ≡ true
read_canonical s t e = (canonical_same t t (read_checks s t e)).0 refl

-- the text of an accepted table is read as the table that its rows make
text_reads : (t u : Table) → check_table t ≡ accepts u → read_table (table_text t) ≡ accepts u
unfolding read_table table_text
text_reads t u e =
    let w = table_whole t u e in
    let n : 1 - 1 + length (rows_of t) ≡ length (rows_of t) = omega arith in
    let short = text_short t (ap (λ (x : Said). x.numbers) e) in
    rw (le-ltb longest (length (table_text t)) short)
    (rw n at (rows_read 1 w.built w.last (omega arith) (omega (arith, few_rows t u e))))

-- written, then read: what is read back says exactly the rows that the given table says
pub written_reads : (t : Table) → Passes t
    → (read_table (table_text t) ≡ accepts (check_table t).table) × (rows_of (check_table t).table ≡ rows_of t)
written_reads t e =
    let a = fine_accepts (check_table t) e in
    (text_reads t (check_table t).table a, built_all (table_whole t (check_table t).table a).built)

-- a table is read from its own text exactly where it is canonical and well formed
pub read_exactly : (t : Table) → read_table (table_text t) ≡ accepts t ↔ (canonical t and wellformed (table_of t)) ≡ true
read_exactly t = (
  λ e. rw (read_canonical (table_text t) t e, read_wellformed (table_text t) t e),
  λ b.
      let c = both (canonical t) b in
      let e = fine_accepts (check_table t) ((accepted_exactly t).1 c.1) in
      let q = (canonical_same t (check_table t).table e).1 c.0 in
      text_reads t t (e ∙ ap accepts q),
)
