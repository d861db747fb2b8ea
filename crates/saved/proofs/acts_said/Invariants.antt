-- `acts_said` meets its contract. The first a activities are set.
use Rattle.std.proofs.Common.{◌≡◌}
use Rattle.prepared.specs.Held.{held}
use Rattle.saved.specs.Rows.{acts_said}
use Rattle.saved.proofs.acts_said.Given as goal

abbrev pub invariant-loop-a : goal.invariant-loop-a
invariant-loop-a l = l.acts ≡ acts_said (held l.component) l.values l.a l.initial.acts
