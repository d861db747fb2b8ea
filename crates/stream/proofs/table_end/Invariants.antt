-- `table_end` meets its contract. The end looked for from `at` on is that of the whole text.
use Prim.Native.Nat.{◌-◌, ◌≤◌}
use mathlib.Core.Path.{◌≡◌}
use lib.ListN.{length}
use Rattle.text.specs.Parts.{split_on, parts_from}
use Rattle.stream.specs.Cut.{end_in}
use Rattle.stream.proofs.table_end.Given as goal

abbrev pub invariant-loop-at : goal.invariant-loop-at
invariant-loop-at l = (l.at ≤ length l.s) × (end_in l.at (parts_from 10 l.s l.at) l.most ≡ end_in 0 (split_on 10 l.s) l.most)

abbrev pub decreases-loop-at : goal.decreases-loop-at
decreases-loop-at l = length l.s - l.at
