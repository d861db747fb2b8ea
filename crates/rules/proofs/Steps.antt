-- The rules' answer to a step is the one told by its records, and the next state has those records anew.
use mathlib.Core.Bool.{Bool, true, false}
use mathlib.Core.Path.{◌≡◌, refl, ◌∙◌}
use Prim.Native.Nat.{ℕ, zero, suc, ◌≤◌, ◌<◌}
use native.Mathlib.Omega.{arith}
use lib.Dec.{T, ltb, ltb→lt}
use borrow.Author.Tests.{lt-ltb, le-ltb}
use Rattle.model.specs.Tests.{need}
use Rattle.model.specs.Tables.{Table}
use Rattle.model.specs.States.{task_at, act_at}
use Rattle.model.specs.Rules.{put_task, put_both, ia_to, task_refusal, act_refusal, task_next, act_next}
use Rattle.model.specs.declared.State.{State}
use Rattle.model.specs.declared.Task.{Task}
use Rattle.model.specs.declared.Act.{Act}
use Rattle.model.specs.declared.Place.{Place}
use Rattle.model.specs.declared.Place.TheVariants.{Ether, Codel}
use Rattle.model.specs.declared.TaskStep.{TaskStep}
use Rattle.model.specs.declared.TaskStep.TheVariants.{St, Fm}
use Rattle.model.specs.declared.ActStep.{ActStep}
use Rattle.model.specs.declared.ActStep.TheVariants.{Lm, Ia, Ea, Cx, Fa}
use Rattle.rules.specs.Local.{TaskTold, Told, told_task, told, unless, task_local, interrupted, local, naming, task_in, clear_for, empty_for}

-- the refusal of an answer
number : (b : Bool) (refused go : Told) → (unless b refused go).number ≡ need b refused.number go.number
number true refused go = refl
number false refused go = refl

task_number : (b : Bool) (refused go : TaskTold) → (unless b refused go).number ≡ need b refused.number go.number
task_number true refused go = refl
task_number false refused go = refl

interrupted_number : (K : Table) (p : Place) (y : Task) (z : Act) → (interrupted K p y z).number ≡ 0
interrupted_number K Ether y z = refl
interrupted_number K (Codel c) y z = refl

-- the first refusal of two
abbrev or_else : ℕ → ℕ → ℕ
or_else zero n = n
or_else (suc m) n = suc m

need_else : (b : Bool) (n : ℕ) → or_else (need b 12 0) n ≡ need b 12 n
need_else true n = refl
need_else false n = refl

module _ (K : Table) (s : State) where
  -- a step told by the record of its task
  abbrev pub answered_task : ℕ → TaskStep → TaskTold
  answered_task t k = task_local K t k (empty_for K s t k) (task_at s t)

  -- a step told by the records of its activity and of the task that it touches
  abbrev pub answered : ℕ → ActStep → Told
  answered a k = local K a k (clear_for K s a k) (task_at s (task_in K a k)) (act_at s a)

  task_refused : (t : ℕ) (k : TaskStep) → task_refusal K s t k ≡ need (ltb t K.ntasks) 12 (answered_task t k).number
  unfolding task_local
  task_refused t St = simp task_number
  task_refused t Fm = simp task_number

  act_refused : (a : ℕ) (k : ActStep) → act_refusal K s a k ≡ or_else (naming K a k) (answered a k).number
  unfolding local naming
  act_refused a (Lm t) = simp (need_else, number)
  act_refused a Ia = simp (need_else, number, interrupted_number)
  act_refused a (Ea Ether) = refl
  act_refused a (Ea (Codel c)) = simp (need_else, number)
  act_refused a Cx = simp (need_else, number)
  act_refused a (Fa p) = simp (need_else, number)

  -- where a task's step names a row, its refusal is the one told; else it is 12
  module _ (t : ℕ) (k : TaskStep) where
    pub task_refusal_lem : t < K.ntasks → task_refusal K s t k ≡ (answered_task t k).number
    task_refusal_lem h = task_refused t k ∙ rw (lt-ltb t K.ntasks h)

    pub task_unnamed : K.ntasks ≤ t → task_refusal K s t k ≡ 12
    task_unnamed h = task_refused t k ∙ rw (le-ltb t K.ntasks h)

  -- where an activity's step is one and names rows, its refusal is the one told; else it is the number of that
  module _ (a : ℕ) (k : ActStep) where
    pub local_refusal : naming K a k ≡ 0 → act_refusal K s a k ≡ (answered a k).number
    local_refusal h = act_refused a k ∙ rw h

    pub local_unnamed : (naming K a k ≡ 0 → ⊥) → act_refusal K s a k ≡ naming K a k
    local_unnamed h = act_refused a k ∙ go (naming K a k) h
      where
        go : (n : ℕ) → (n ≡ 0 → ⊥) → or_else n (answered a k).number ≡ n
        go zero h = absurd (h refl)
        go (suc n) h = refl

-- an answer that is accepted gives the state w, once its record is put back
record StoredTask (s : State) (t : ℕ) (w : State) (r : TaskTold) : Type 0 where
  stored : r.number ≡ 0 → w ≡ put_task s t r.task

-- once its two records are
record Stored (s : State) (t a : ℕ) (w : State) (r : Told) : Type 0 where
  stored : r.number ≡ 0 → w ≡ put_both s t r.task a r.act

past_task : {s : State} {t : ℕ} {w : State} {go : TaskTold} (b : Bool) (n : ℕ) (y : Task) → T (ltb 0 n) → StoredTask s t w go → StoredTask s t w (unless b (told_task n y) go)
past_task true n y h k = k
past_task false n y h k = record { stored = λ e. absurd (omega (arith, ltb→lt 0 n h)) }

past : {s : State} {t a : ℕ} {w : State} {go : Told} (b : Bool) (n : ℕ) (y : Task) (z : Act) → T (ltb 0 n) → Stored s t a w go → Stored s t a w (unless b (told n y z) go)
past true n y z h k = k
past false n y z h k = record { stored = λ e. absurd (omega (arith, ltb→lt 0 n h)) }

task_put : (s : State) (t : ℕ) (y : Task) → StoredTask s t (put_task s t y) (told_task 0 y)
task_put s t y = record { stored = λ _. refl }

both_put : (s : State) (t a : ℕ) (y : Task) (z : Act) → Stored s t a (put_both s t y a z) (told 0 y z)
both_put s t a y z = record { stored = λ _. refl }

module _ (K : Table) (s : State) where
  ia_put : (a : ℕ) (p : Place) → Stored s (K.task a) a (ia_to K s a p) (interrupted K p (task_at s (K.task a)) (act_at s a))
  ia_put a Ether = both_put s (K.task a) a _ _
  ia_put a (Codel c) = both_put s (K.task a) a _ _

  ruleset puts = (past_task, past, task_put, both_put, ia_put, tt)

  put_task_lem : (t : ℕ) (k : TaskStep) → StoredTask s t (task_next s t k) (answered_task K s t k)
  unfolding task_local
  put_task_lem t St = search puts
  put_task_lem t Fm = search puts

  put : (a : ℕ) (k : ActStep) → Stored s (task_in K a k) a (act_next K s a k) (answered K s a k)
  unfolding local
  put a (Lm t) = search puts
  put a Ia = search puts
  put a (Ea Ether) = record { stored = λ e. absurd (omega arith) }
  put a (Ea (Codel c)) = search puts
  put a Cx = search puts
  put a (Fa p) = search puts

  -- where a step is accepted, the next state has its task's record as it is told
  pub task_next_lem : (t : ℕ) (k : TaskStep) → (answered_task K s t k).number ≡ 0 → task_next s t k ≡ put_task s t (answered_task K s t k).task
  task_next_lem t k = (put_task_lem t k).stored

  -- or its two records
  pub local_next : (a : ℕ) (k : ActStep) → (answered K s a k).number ≡ 0 → act_next K s a k ≡ put_both s (task_in K a k) (answered K s a k).task a (answered K s a k).act
  local_next a k = (put a k).stored

-- an answer that is refused has the records as they came
record KeptTask (y : Task) (r : TaskTold) : Type 0 where
  kept : (r.number ≡ 0 → ⊥) → r.task ≡ y

record Kept (y : Task) (z : Act) (r : Told) : Type 0 where
  kept : (r.number ≡ 0 → ⊥) → (r.task ≡ y) × (r.act ≡ z)

unless_kept_task : {y : Task} {go : TaskTold} (b : Bool) (n : ℕ) → KeptTask y go → KeptTask y (unless b (told_task n y) go)
unless_kept_task true n k = k
unless_kept_task false n k = record { kept = λ _. refl }

unless_kept : {y : Task} {z : Act} {go : Told} (b : Bool) (n : ℕ) → Kept y z go → Kept y z (unless b (told n y z) go)
unless_kept true n k = k
unless_kept false n k = record { kept = λ _. (refl, refl) }

accepted_kept_task : (y : Task) (r : TaskTold) → r.number ≡ 0 → KeptTask y r
accepted_kept_task y r e = record { kept = λ n. absurd (n e) }

accepted_kept : (y : Task) (z : Act) (r : Told) → r.number ≡ 0 → Kept y z r
accepted_kept y z r e = record { kept = λ n. absurd (n e) }

ruleset kept-all = (unless_kept_task, unless_kept, accepted_kept_task, accepted_kept, interrupted_number)

module _ (K : Table) (b : Bool) (y : Task) where
  keeps_task : (t : ℕ) (k : TaskStep) → KeptTask y (task_local K t k b y)
  unfolding task_local
  keeps_task t St = search kept-all
  keeps_task t Fm = search kept-all

  -- a refused step gives the records back as they came
  pub task_kept : (t : ℕ) (k : TaskStep) → ((task_local K t k b y).number ≡ 0 → ⊥) → (task_local K t k b y).task ≡ y
  task_kept t k = (keeps_task t k).kept

  module _ (z : Act) where
    keeps : (a : ℕ) (k : ActStep) → Kept y z (local K a k b y z)
    unfolding local
    keeps a (Lm t) = search kept-all
    keeps a Ia = search kept-all
    keeps a (Ea Ether) = record { kept = λ _. (refl, refl) }
    keeps a (Ea (Codel c)) = search kept-all
    keeps a Cx = search kept-all
    keeps a (Fa p) = search kept-all

    pub local_kept : (a : ℕ) (k : ActStep) → ((local K a k b y z).number ≡ 0 → ⊥) → ((local K a k b y z).task ≡ y) × ((local K a k b y z).act ≡ z)
    local_kept a k = (keeps a k).kept
