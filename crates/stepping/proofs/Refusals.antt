-- The promises of a Result by its number leave no choice: no two refusals have one number, and none has 0.
use Prim.Native.Nat.{ℕ}
use mathlib.Core.Path.{◌≡◌, refl, sym, ap, ◌∙◌}
use lib.Dec.{eqb}
use Rattle.std.specs.Prelude.{Result, Ok, Err}
use Rattle.text.specs.Parts.{pick}
use Rattle.model.specs.Refusals.{number_of, numbered}
use Rattle.model.specs.declared.State.{State}
use Rattle.model.specs.declared.Task.{Task}
use Rattle.model.specs.declared.Act.{Act}
use Rattle.model.specs.declared.refusal.Refusal.{Refusal}
use Rattle.model.specs.declared.refusal.Refusal.TheVariants.{NoStep, Unknown, NotAllowed, TooEarly, InConflict, StillEnabled, TooLate, PastCeiling, NotGiven, Unsound, NotReached}
use Rattle.rules.specs.Local.{TaskTold, Told, told_task_by, told_by}
use Rattle.saved.specs.Rows.{Read, read_by}
use Rattle.entries.proofs.Answers.{refusal_some}

-- the refusal of a number
abbrev refusal_at : ℕ → Refusal
refusal_at n =
    pick (eqb n 11) NoStep
    (pick (eqb n 12) Unknown
    (pick (eqb n 13) NotAllowed
    (pick (eqb n 14) TooEarly
    (pick (eqb n 15) InConflict
    (pick (eqb n 16) StillEnabled
    (pick (eqb n 17) TooLate
    (pick (eqb n 18) PastCeiling
    (pick (eqb n 19) NotGiven
    (pick (eqb n 20) Unsound NotReached)))))))))

at_own : (r : Refusal) → refusal_at (number_of r) ≡ r
at_own NoStep = refl
at_own Unknown = refl
at_own NotAllowed = refl
at_own TooEarly = refl
at_own InConflict = refl
at_own StillEnabled = refl
at_own TooLate = refl
at_own PastCeiling = refl
at_own NotGiven = refl
at_own Unsound = refl
at_own NotReached = refl

-- no two refusals have one number
pub refusal_one : (a b : Refusal) → number_of a ≡ number_of b → a ≡ b
refusal_one a b e = sym (at_own a) ∙ ap refusal_at e ∙ at_own b

-- `check_names`, `check_sm`, `check_wait`, `later_number`
pub numbered_one : (r s : Result (Unit {0}) Refusal) → numbered r ≡ numbered s → r ≡ s
numbered_one (Ok u) (Ok v) e = refl
numbered_one (Ok u) (Err b) e = absurd (refusal_some b (sym e))
numbered_one (Err a) (Ok v) e = absurd (refusal_some a e)
numbered_one (Err a) (Err b) e = ap (λ x. Err x) (refusal_one a b e)

-- `task_step`
pub told_task_one : (task : Task) (r s : Result Task Refusal) → told_task_by r task ≡ told_task_by s task → r ≡ s
told_task_one task (Ok u) (Ok v) e = ap (λ x. Ok x) (ap (λ (t : TaskTold). t.task) e)
told_task_one task (Ok u) (Err b) e = absurd (refusal_some b (sym (ap (λ (t : TaskTold). t.number) e)))
told_task_one task (Err a) (Ok v) e = absurd (refusal_some a (ap (λ (t : TaskTold). t.number) e))
told_task_one task (Err a) (Err b) e = ap (λ x. Err x) (refusal_one a b (ap (λ (t : TaskTold). t.number) e))

-- `local_step`
pub told_one : (task : Task) (act : Act) (r s : Result (Task × Act) Refusal) → told_by r task act ≡ told_by s task act → r ≡ s
told_one task act (Ok p) (Ok q) e = ap (λ (t : Told). Ok (t.task, t.act)) e
told_one task act (Ok p) (Err b) e = absurd (refusal_some b (sym (ap (λ (t : Told). t.number) e)))
told_one task act (Err a) (Ok q) e = absurd (refusal_some a (ap (λ (t : Told). t.number) e))
told_one task act (Err a) (Err b) e = ap (λ x. Err x) (refusal_one a b (ap (λ (t : Told). t.number) e))

-- `read_state`, `read_sound`
pub read_one : (r s : Result State Refusal) → read_by r ≡ read_by s → r ≡ s
read_one (Ok u) (Ok v) e = ap (λ x. Ok x) (ap (λ (t : Read). t.state) e)
read_one (Ok u) (Err b) e = absurd (refusal_some b (sym (ap (λ (t : Read). t.number) e)))
read_one (Err a) (Ok v) e = absurd (refusal_some a (ap (λ (t : Read). t.number) e))
read_one (Err a) (Err b) e = ap (λ x. Err x) (refusal_one a b (ap (λ (t : Read). t.number) e))
