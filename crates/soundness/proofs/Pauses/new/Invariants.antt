-- `new` meets its contract. The pauses among the first e edges are marked.
use Rattle.std.proofs.Common.{◌≡◌}
use Rattle.prepared.specs.Held.{held}
use Rattle.soundness.specs.Marks.{pause_marks}
use Rattle.soundness.proofs.Pauses.new.Given as goal

abbrev pub invariant-loop-e : goal.invariant-loop-e
invariant-loop-e l = l.marks ≡ pause_marks (held l.component) l.e
