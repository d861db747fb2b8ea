-- `byte_behind` meets its contract. The first b from i on is the first from the start on.
use mathlib.Core.Path.{◌≡◌}
use Rattle.text.specs.Parts.{first_at}
use Rattle.text.proofs.byte_behind.Given as goal

abbrev pub invariant-loop-i : goal.invariant-loop-i
invariant-loop-i l = first_at l.s l.i l.b ≡ first_at l.s l.at l.b
