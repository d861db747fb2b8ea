-- `text_width` meets its contract. The width so far and that of the rows left make the whole.
use Prim.Native.Nat.{◌+◌}
use mathlib.Core.Path.{◌≡◌}
use lib.ListN.{length}
use Rattle.table.specs.Tables.{total_of}
use Rattle.table.specs.Texts.{text_of, table_text}
use Rattle.table.proofs.RowsLeft.{left}
use Rattle.table.proofs.text_width.Given as goal

abbrev pub invariant-loop-k : goal.invariant-loop-k
invariant-loop-k l = l.width + length (text_of (total_of l.t.counts) (left l.t l.k 0)) ≡ length (table_text l.t)

abbrev pub invariant-loop-i : goal.invariant-loop-i
invariant-loop-i l = l.width + length (text_of (total_of l.t.counts) (left l.t l.k l.i)) ≡ length (table_text l.t)
