-- N and R by what stands beside the state: of each activity in which of them it is.
use Rattle.std.specs.Prelude.{ℕ, ◌+◌, ◌*◌, Bool, true, List, map, get_or, eqb}
use Rattle.model.specs.Tests.{◌implies◌, one, each}
use Rattle.model.specs.Tables.{Table}
use Rattle.model.specs.declared.Act.{Act}
use Rattle.model.specs.declared.State.{State}
use Rattle.model.specs.declared.TaskStep.{TaskStep}
use Rattle.model.specs.declared.TaskStep.TheVariants.{St, Fm}

-- in which of N and R an activity is: 1 for N, 2 for R
abbrev pub listed_of : Act → ℕ
listed_of y = one y.run + 2 * one y.halt

-- of each activity of a state
abbrev pub listed_in : State → List ℕ
listed_in s = map listed_of s.acts

-- no activity of the task t is in N or R
unfoldable pub none_by : Table → List ℕ → ℕ → Bool
none_by K listed t = each K.nacts (λ a. eqb (K.task a) t implies eqb (get_or listed a 0) 0)

-- what `fm` of the task t asks beside the record
abbrev pub empty_for_by : Table → List ℕ → ℕ → TaskStep → Bool
empty_for_by K listed t St = true
empty_for_by K listed t Fm = none_by K listed t
