-- The promise on a lent record leaves no choice.
use mathlib.Core.Path.{◌≡◌}
use Rattle.text.proofs.Unique.{one_value}
use Rattle.model.specs.Rules.{signalled}
use Rattle.model.specs.declared.Task.{Task}

-- two records, lent to `fire` as x, that satisfy its promise when it hands them back are equal
pub fired_unique : (x : Task) {after after' : Task} → after ≡ signalled x → after' ≡ signalled x → after ≡ after'
fired_unique x = one_value
