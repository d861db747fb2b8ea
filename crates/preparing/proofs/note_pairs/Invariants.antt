-- `preparing::note_pairs` meets its contract. The loop's invariant: the first m mutex rows are noted.
use Prim.Native.Nat.{◌≤◌}
use mathlib.Core.Path.{◌≡◌}
use lib.ListN.{length, get_or}
use Rattle.model.specs.Limits.{most_mutexes}
use Rattle.table.specs.Tables.{table_of}
use Rattle.prepared.specs.Prepared.{index_length}
use Rattle.preparing.specs.Filling.{pairs_noted}
use Rattle.preparing.proofs.note_pairs.Given as goal

abbrev pub invariant-loop-m : goal.invariant-loop-m
invariant-loop-m l = (get_or l.t.counts 4 0 ≤ most_mutexes) × (length l.index ≡ index_length) × (l.index ≡ pairs_noted (table_of l.t) l.initial.index l.m)
