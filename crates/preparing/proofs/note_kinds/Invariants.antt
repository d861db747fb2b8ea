-- `preparing::note_kinds` meets its contract. The loop's invariant: the first c codels are noted.
use Prim.Native.Nat.{◌≤◌}
use mathlib.Core.Path.{◌≡◌}
use lib.ListN.{length, get_or}
use Rattle.model.specs.Limits.{most_codels}
use Rattle.table.specs.Tables.{table_of}
use Rattle.prepared.specs.Prepared.{index_length}
use Rattle.preparing.specs.Filling.{kinds_noted}
use Rattle.preparing.proofs.note_kinds.Given as goal

abbrev pub invariant-loop-c : goal.invariant-loop-c
invariant-loop-c l = (get_or l.t.counts 2 0 ≤ most_codels) × (length l.index ≡ index_length) × (l.index ≡ kinds_noted (table_of l.t) l.initial.index l.c)
