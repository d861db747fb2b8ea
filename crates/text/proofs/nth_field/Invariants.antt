-- `nth_field` meets its contract. The field that is as many fields on from here as are not passed yet is field i.
use Prim.Native.Nat.{◌≤◌, ◌-◌}
use mathlib.Core.Path.{◌≡◌}
use lib.ListN.{length}
use Rattle.text.specs.Parts.{parts_from, field_from, field_at}
use Rattle.text.proofs.nth_field.Given as goal

abbrev pub invariant-loop : goal.invariant-loop
invariant-loop l = (l.at ≤ length l.line) × (field_from l.at (parts_from 9 l.line l.at) (l.i - l.counter) ≡ field_at l.line l.i)
