-- `put_field` meets its contract.
use mathlib.Core.Path.{refl}
use native.Mathlib.Omega.{arith}
use Rattle.row.specs.Row.{tabbed}
use Rattle.row.proofs.Writing.{field_put}
use Rattle.row.proofs.put_field.Goals as goal

pub returns-in_default : goal.returns-in_default
unfolding tabbed
returns-in_default c = rw c.in_default.is (omega arith, refl)

pub bounds-buf-at : goal.bounds-buf-at
unfolding tabbed
bounds-buf-at c = let h = rw c.in-Some.is at c.requires in omega arith

pub returns : goal.returns
returns c = rw c.in-Some.is (field_put _ _ _ _ _ _ c.put_value.ensures (rw c.in-Some.is at c.requires))
