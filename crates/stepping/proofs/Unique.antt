-- The promise on one step leaves no choice.
use Prim.Native.Nat.{ℕ}
use mathlib.Core.List.{List}
use mathlib.Core.Path.{◌≡◌}
use Rattle.text.proofs.Unique.{one_value}
use Rattle.model.specs.declared.State.{State}
use Rattle.table.specs.declared.Table.{Table}
use Rattle.stepping.specs.Stepping.{stepped}
use Rattle.stepping.specs.declared.Stepped.{Stepped}

-- two answers that satisfy the promise of `step` are equal, their numbers and their states
pub step_unique : (t : Table) (s : State) (line : List ℕ) {r r' : Stepped} → r ≡ stepped t s line → r' ≡ stepped t s line → r ≡ r'
step_unique t s line = one_value
