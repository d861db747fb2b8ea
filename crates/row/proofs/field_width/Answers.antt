-- `field_width` meets its contract.
use mathlib.Core.Path.{refl}
use native.Mathlib.Omega.{arith}
use Rattle.row.specs.Row.{tabbed}
use Rattle.row.proofs.Fields.{value_within}
use Rattle.row.proofs.field_width.Goals as goal

pub returns-in-None : goal.returns-in-None
unfolding tabbed
returns-in-None c = rw c.in-None.is (refl, omega arith)

pub overflow_add-result : goal.overflow_add-result
overflow_add-result c = omega (arith, value_within c.in-Some.form c.args.v)

pub returns-in-Some : goal.returns-in-Some
unfolding tabbed
returns-in-Some c = rw c.in-Some.is (omega arith, omega (arith, value_within c.in-Some.form c.args.v))
