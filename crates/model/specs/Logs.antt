-- A sequence of steps: whether each is accepted, the state reached, and the most steps other than waits at one date.
use Rattle.std.specs.Prelude.{Bool, true, false, cond, List, [], ◌∷◌, ℕ, ◌+◌, max}
use Rattle.model.specs.Tests.{◌and◌, accepted}
use Rattle.model.specs.Tables.{Table}
use Rattle.model.specs.Rules.{refusal, next}
use Rattle.model.specs.declared.State.{State}
use Rattle.model.specs.declared.Step.{Step}
use Rattle.model.specs.declared.Step.TheVariants.{Wait, Sm, OfTask, OfAct}

unfoldable pub all_accepted : Table → State → List Step → Bool
all_accepted K s [] = true
all_accepted K s (x ∷ xs) = accepted (refusal K s x) and all_accepted K (next K s x) xs

unfoldable pub reached : Table → State → List Step → State
reached K s [] = s
reached K s (x ∷ xs) = reached K (next K s x) xs

abbrev pub is_wait : Step → Bool
is_wait (Wait d) = true
is_wait (Sm t n r) = false
is_wait (OfTask t k) = false
is_wait (OfAct a k) = false

-- "most steps other than waits between two neighbouring waits or at either end of the log", n of them since the last wait
unfoldable pub most : ℕ → List Step → ℕ
most n [] = n
most n (x ∷ xs) = cond (is_wait x) (max n (most 0 xs)) (most (n + 1) xs)
