-- A step of a task, `st` or `fm`, or of an activity, as what a run carries takes it.
use Prim.Native.Nat.{ℕ, ◌≤◌, ◌<◌}
use mathlib.Core.Bool.{Bool}
use mathlib.Core.List.{List}
use mathlib.Core.Path.{◌≡◌, refl, ap, sym, ◌∙◌}
use native.Mathlib.Omega.{arith}
use borrow.Author.Tests.{lt-ltb, le-ltb}
use Rattle.text.proofs.Picks.{order}
use Rattle.model.specs.Tables.{Table}
use Rattle.model.specs.States.{task_at, act_at}
use Rattle.model.specs.Refusals.{number_of}
use Rattle.model.specs.declared.refusal.Refusal.{Refusal}
use Rattle.model.specs.declared.refusal.Refusal.TheVariants.{NoStep, Unknown, NotAllowed, TooEarly, InConflict, StillEnabled, TooLate, PastCeiling, NotGiven, Unsound, NotReached}
use Rattle.model.specs.Rules.{refusal, next, put_task, put_both}
use Rattle.model.specs.Cycles.{verdict}
use Rattle.model.specs.declared.State.{State}
use Rattle.model.specs.declared.TaskStep.{TaskStep}
use Rattle.model.specs.declared.ActStep.{ActStep}
use Rattle.model.specs.declared.Step.TheVariants.{OfTask, OfAct}
use Rattle.model.proofs.Rows.{map_set}
use Rattle.prepared.specs.Prepared.{table_in}
use Rattle.rules.specs.Local.{TaskTold, Told, told_task, local, naming, task_told, row_in, task_in}
use Rattle.rules.proofs.Named.{row_own}
use Rattle.rules.proofs.Steps.{answered_task, answered, task_refusal_lem, task_unnamed, local_refusal, local_unnamed, task_next_lem, local_next}
use Rattle.conflicts.specs.Busy.{busy_of, busy_in, clear_for_by}
use Rattle.conflicts.proofs.Busy.{clear_for_by_lem}
use Rattle.managing.specs.Listed.{listed_of, listed_in, empty_for_by}
use Rattle.managing.proofs.Listed.{empty_for_by_lem}
use Rattle.tally.specs.Tallies.{ruling_of, ruling_by, after_step}
use Rattle.tally.specs.declared.Tally.{Tally}
use Rattle.tally.specs.declared.Ruling.{Ruling}
use Rattle.tally.specs.declared.Ruling.TheVariants.{Open}
use Rattle.tally.proofs.Tallying.{ruling_is, step_counts}
use Rattle.engine.specs.Starts.{going_at}
use Rattle.engine.specs.Steps.{with_state, with_act, Takes, Refuses}
use Rattle.engine.specs.declared.Going.{Going}
use Rattle.engine.proofs.Finding.{Found, formed_there}

-- no refusal has the number 0
pub number_some : (w : Refusal) → number_of w ≡ 0 → ⊥
number_some NoStep z = omega arith
number_some Unknown z = omega arith
number_some NotAllowed z = omega arith
number_some TooEarly z = omega arith
number_some InConflict z = omega arith
number_some StillEnabled z = omega arith
number_some TooLate z = omega arith
number_some PastCeiling z = omega arith
number_some NotGiven z = omega arith
number_some Unsound z = omega arith
number_some NotReached z = omega arith

-- what is carried behind a step, part by part
pub going_is : {s w : State} {b l : List ℕ} {c d : Tally} → w ≡ s → b ≡ busy_in s → l ≡ listed_in s → c ≡ d → record { state = w; busy = b; listed = l; tally = c } ≡ going_at s d
going_is e f h k = λ i. record { state = e i; busy = f i; listed = h i; tally = k i }

module _ {rows index : List ℕ} {g : Going} (F : Found rows index g) where
  -- a step k of the task t, which reads row i, is told r of that row's record
  module _ (t : ℕ) (k : TaskStep) {i n : ℕ} (q : n ≡ (table_in rows index).ntasks) (e : i ≡ row_in t n) {b : Bool} (f : b ≡ empty_for_by (table_in rows index) g.listed i k) {r : TaskTold} (j : r ≡ task_told (table_in rows index) t k b (task_at g.state i)) where
    -- where there is such a task, row i is its own
    there : t < (table_in rows index).ntasks → (i ≡ t) × (r ≡ answered_task (table_in rows index) g.state t k)
    there l =
        let own : i ≡ t = e ∙ sym (row_own t n (omega arith)) in
        (own, j ∙ rw (lt-ltb t (table_in rows index).ntasks l, f, F.listed, own, empty_for_by_lem (table_in rows index) g.state t k))

    missing : (table_in rows index).ntasks ≤ t → r ≡ told_task 12 (task_at g.state i)
    missing l = j ∙ rw (le-ltb t (table_in rows index).ntasks l)

    task_number : r.number ≡ refusal (table_in rows index) g.state (OfTask t k)
    unfolding refusal
    task_number =
        order t (table_in rows index).ntasks
        (λ l. ap (λ r. r.number) (there l).1 ∙ sym (task_refusal_lem (table_in rows index) g.state t k l))
        (λ l. ap (λ r. r.number) (missing l) ∙ sym (task_unnamed (table_in rows index) g.state t k l))

    pub task_refuses : {w : Refusal} → number_of w ≡ r.number → Refuses (table_in rows index) g (OfTask t k) w g
    task_refuses z = record { number = z ∙ task_number; going = refl }

    module _ (z : r.number ≡ 0) where
      named : t < (table_in rows index).ntasks
      named = order t (table_in rows index).ntasks (λ l. l) (λ l. absurd (let y : ◌≡◌ {A = ℕ} 12 0 = ap (λ r. r.number) (sym (missing l)) ∙ z in omega arith))

      stored : put_task g.state i r.task ≡ next (table_in rows index) g.state (OfTask t k)
      unfolding next
      stored =
          let w = there named in
          rw (w.0, w.1) (sym (task_next_lem (table_in rows index) g.state t k (ap (λ r. r.number) (sym w.1) ∙ z)))

      pub task_takes : {v : Ruling} → v ≡ ruling_by (table_in rows index) i k g.state.date (task_at g.state i) → {c : Tally} → c ≡ after_step g.tally v
          → Takes (table_in rows index) g (OfTask t k) v (record { state = put_task g.state i r.task; busy = g.busy; listed = g.listed; tally = c })
      task_takes {v} ev {c} ec =
          let rules : v ≡ ruling_of (verdict (table_in rows index) g.state (OfTask t k)) = ev ∙ rw (there named).0 (ruling_is (table_in rows index) g.state t k) in
          record {
            accepted = sym task_number ∙ z;
            ruling = rules;
            going = going_is stored (F.busy ∙ ap busy_in stored) (F.listed ∙ ap listed_in stored) (ec ∙ rw rules (step_counts (table_in rows index) g.state g.tally (OfTask t k) refl refl));
          }

  -- a step k of the activity a that names rows and touches the task t is told r of their records
  module _ (a : ℕ) (k : ActStep) (y : 0 ≡ naming (table_in rows index) a k) {t : ℕ} (q : t ≡ task_in (table_in rows index) a k) {b : Bool} (f : b ≡ clear_for_by (table_in rows index) g.busy k (act_at g.state a).place) {r : Told} (j : r ≡ local (table_in rows index) a k b (task_at g.state t) (act_at g.state a)) where
    told : r ≡ answered (table_in rows index) g.state a k
    told = j ∙ rw (f, q, F.busy, clear_for_by_lem (table_in rows index) (formed_there F) g.state F.sound a k)

    act_number : r.number ≡ refusal (table_in rows index) g.state (OfAct a k)
    unfolding refusal
    act_number = ap (λ r. r.number) told ∙ sym (local_refusal (table_in rows index) g.state a k (sym y))

    pub act_refuses : {w : Refusal} → number_of w ≡ r.number → Refuses (table_in rows index) g (OfAct a k) w g
    act_refuses z = record { number = z ∙ act_number; going = refl }

    module _ (z : r.number ≡ 0) where
      both_stored : put_both g.state t r.task a r.act ≡ next (table_in rows index) g.state (OfAct a k)
      unfolding next
      both_stored = rw (q, told) (sym (local_next (table_in rows index) g.state a k (ap (λ r. r.number) (sym told) ∙ z)))

      pub act_takes : {h : Going} → h ≡ with_act (with_state g (put_task g.state t r.task)) a r.act → {c : Tally} → c ≡ after_step h.tally Open
          → Takes (table_in rows index) g (OfAct a k) Open (record { state = h.state; busy = h.busy; listed = h.listed; tally = c })
      unfolding verdict
      act_takes {h} eh {c} ec =
          record {
            accepted = sym act_number ∙ z;
            ruling = refl;
            going = going_is (rw eh both_stored) (rw (eh, F.busy) (sym (map_set busy_of g.state.acts a r.act) ∙ ap busy_in both_stored)) (rw (eh, F.listed) (sym (map_set listed_of g.state.acts a r.act) ∙ ap listed_in both_stored)) (ec ∙ rw eh (step_counts (table_in rows index) g.state g.tally (OfAct a k) refl refl));
          }

-- 11 or 12 of a step of an activity by what it names
pub act_unnamed : (K : Table) (g : Going) (a : ℕ) (k : ActStep) {w : Refusal} → number_of w ≡ naming K a k → Refuses K g (OfAct a k) w g
unfolding refusal
act_unnamed K g a k {w} q = record { number = q ∙ sym (local_unnamed K g.state a k (λ z. number_some w (q ∙ z))); going = refl }
