-- `preparing::note_ends` meets its contract. The loop's invariant: the first e rows are noted.
use mathlib.Core.Path.{◌≡◌}
use lib.ListN.{length}
use Rattle.prepared.specs.Prepared.{number_in}
use Rattle.preparing.specs.Filling.{ended}
use Rattle.preparing.proofs.note_ends.Given as goal

abbrev pub invariant-loop-e : goal.invariant-loop-e
invariant-loop-e l = (length l.index ≡ length l.initial.index) × (l.index ≡ ended (λ i. number_in l.rows l.from i 0) l.at l.initial.index l.e)
