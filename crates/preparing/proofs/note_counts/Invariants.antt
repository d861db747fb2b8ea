-- `preparing::note_counts` meets its contract. The loop's invariant: the counts of the first k kinds are noted.
use mathlib.Core.Path.{◌≡◌}
use lib.ListN.{length, get_or}
use Rattle.prepared.specs.Prepared.{index_length}
use Rattle.preparing.specs.Filling.{counted}
use Rattle.preparing.proofs.note_counts.Given as goal

abbrev pub invariant-loop-k : goal.invariant-loop-k
invariant-loop-k l = (length l.index ≡ index_length) × (l.index ≡ counted (λ j. get_or l.counts j 0) l.initial.index l.k)
