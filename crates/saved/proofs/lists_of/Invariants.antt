-- `lists_of` meets its contract. The bits of the activities before a are added.
use Rattle.std.proofs.Common.{◌≡◌, ◌≤◌}
use Rattle.prepared.specs.Held.{held}
use Rattle.saved.proofs.Marks.{bits_of}
use Rattle.saved.proofs.Listed.{in_run, in_halt}
use Rattle.saved.proofs.lists_of.Given as goal

abbrev pub invariant-loop-a : goal.invariant-loop-a
invariant-loop-a l = (l.a ≤ (held l.component).nacts) × (l.run ≡ bits_of (held l.component) (in_run l.listed) l.t l.a) × (l.halt ≡ bits_of (held l.component) (in_halt l.listed) l.t l.a)
