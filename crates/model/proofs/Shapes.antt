-- What a step does to a state leaves it as many rows as it had.
use mathlib.Core.Path.{◌∙◌}
use Prim.Native.Nat.{ℕ}
use lib.Dec.{eqb}
use lib.ListN.{length-set}
use Rattle.text.specs.declared.Set.{Set}
use Rattle.model.specs.Tables.{Table}
use Rattle.model.specs.States.{no_task, no_act, task_at}
use Rattle.model.specs.Rules.{put_task, put_both, managed, listed, sm_next, timed, clocked, wait_next}
use Rattle.model.specs.declared.Task.{Task}
use Rattle.model.specs.declared.Act.{Act}
use Rattle.model.specs.declared.State.{State}
use Rattle.model.proofs.Rows.{anew_length}
use Rattle.model.proofs.Soundness.{Shaped}

-- one task's record anew, or a task's and an activity's
pub task_shaped : (s : State) → Shaped s → (t : ℕ) (x : Task) → Shaped (put_task s t x)
task_shaped s h t x = record { tasks = length-set s.tasks t x ∙ h.tasks; acts = h.acts }

pub both_shaped : (s : State) → Shaped s → (t : ℕ) (x : Task) (a : ℕ) (y : Act) → Shaped (put_both s t x a y)
both_shaped s h t x a y = record { tasks = length-set s.tasks t x ∙ h.tasks; acts = length-set s.acts a y ∙ h.acts }

module _ (K : Table) (s : State) (h : Shaped s) where
  pub sm_shaped : (t : ℕ) (n r : Set) → Shaped (sm_next K s t n r)
  sm_shaped t n r = record { tasks = length-set s.tasks t (managed s.date (task_at s t)) ∙ h.tasks; acts = anew_length (λ a. listed (eqb (K.task a) t) n r a) no_act s.acts K.nacts ∙ h.acts }

  pub wait_shaped : (d : ℕ) → Shaped (wait_next K s d)
  wait_shaped d = record { tasks = anew_length (λ t. timed d) no_task s.tasks K.ntasks ∙ h.tasks; acts = anew_length (λ a. clocked d) no_act s.acts K.nacts ∙ h.acts }
