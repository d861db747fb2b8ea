-- Every cycle opened is kept, dropped or still managing.
use mathlib.Core.Path.{◌≡◌, ap, ◌∙◌}
use mathlib.Core.List.{List, [], ◌∷◌}
use Prim.Native.Nat.{ℕ, ◌+◌, ◌<◌, zero-le}
use native.Mathlib.Omega.{arith}
use lib.Dec.{T, eqb, eqb→eq, T_not}
use lib.ListN.{length, get_or, set}
use lib.Seq.{get_or-set_same, get_or-set_other}
use Rattle.model.specs.Tests.{one, sum, accepted}
use Rattle.model.specs.Tables.{Table}
use Rattle.model.specs.Rows.{wellformed}
use Rattle.model.specs.States.{no_task, no_act, fresh, task_at, act_at}
use Rattle.model.specs.Records.{with_acts}
use Rattle.model.specs.Rules.{entered, rested, held, put_task, anew, signalled, managed, listed, again, stop_of, out_of_r, ia_to, begun, closed, timed, wait_next, refusal, next}
use Rattle.model.specs.Logs.{all_accepted, reached}
use Rattle.model.specs.Cycles.{KeptRow, Verdict, none, kept, dropped, verdict, is_fm, is_verdict, opens, opened_in, with_kept, kept_in, drops, dropped_in, managing}
use Rattle.model.specs.declared.Task.{Task}
use Rattle.model.specs.declared.Act.{Act}
use Rattle.model.specs.declared.State.{State}
use Rattle.model.specs.declared.Place.{Place}
use Rattle.model.specs.declared.Place.TheVariants.{Ether, Codel}
use Rattle.model.specs.declared.Holder.TheVariants.{Manager, Activity}
use Rattle.model.specs.declared.TaskStep.TheVariants.{St, Fm}
use Rattle.model.specs.declared.ActStep.TheVariants.{Lm, Ia, Ea, Cx, Fa}
use Rattle.model.specs.declared.Step.{Step}
use Rattle.model.specs.declared.Step.TheVariants.{Wait, Sm, OfTask, OfAct}
use Rattle.model.proofs.Tests.{T_true, T_false, and_both}
use Rattle.model.proofs.Rows.{anew_at}
use Rattle.model.proofs.Formed.{Formed, formed}
use Rattle.model.proofs.Soundness.{Sound, fresh_task, start_sound}
use Rattle.model.proofs.Accepted.{st_goes, sm_goes, lm_goes, ia_goes, ea_goes, cx_goes, fa_goes, fm_goes}
use Rattle.model.proofs.Frames.{in_tasks}
use Rattle.model.proofs.StepsKeep.{step_keeps}
use Rattle.model.proofs.Sums.{sum_le, sum_bound, sum_but}
use Rattle.model.proofs.Verdicts.{verdict_at_fm}

-- a verdict adds one to the kept or to the dropped
one_more_lem : (v : Verdict) (rs : List KeptRow) → length (with_kept v rs) + drops v ≡ one (is_verdict v) + length rs
one_more_lem none rs = omega arith
one_more_lem (kept r) rs = omega arith
one_more_lem dropped rs = omega arith

module _ (K : Table) (F : Formed K) (s : State) (S : Sound K s) where
  -- one task's record anew
  set_managing : (t : ℕ) → t < K.ntasks → (z : Task) (l : List Act) → managing K (with_acts l (put_task s t z)) + one (task_at s t).managing ≡ managing K s + one z.managing
  unfolding managing
  set_managing t ht z l =
      let f : ℕ → ℕ = λ u. one (get_or (set s.tasks t z) u no_task).managing in
      let g : ℕ → ℕ = λ u. one (task_at s u).managing in
      let w : sum K.ntasks f + g t ≡ sum K.ntasks g + f t = sum_but K.ntasks t f g ht (λ u hu n. ap (λ x. one x.managing) (get_or-set_other s.tasks t u z no_task n)) in
      w ∙ ap (λ x. sum K.ntasks g + one x.managing) (get_or-set_same s.tasks t z no_task (in_tasks K F s S t ht))

  wait_managing : (d : ℕ) → managing K s ≡ managing K (wait_next K s d)
  unfolding managing
  wait_managing d =
      let f : ℕ → ℕ = λ t. one (task_at s t).managing in
      let g : ℕ → ℕ = λ t. one (task_at (wait_next K s d) t).managing in
      let e : (t : ℕ) → t < K.ntasks → g t ≡ f t = λ t ht. ap (λ x. one x.managing) (anew_at (λ t. timed d) no_task s.tasks K.ntasks t ht (in_tasks K F s S t ht)) in
      omega (arith, sum_le K.ntasks f g (λ t ht. omega (arith, e t ht)), sum_le K.ntasks g f (λ t ht. omega (arith, e t ht)))

  ia_managing : (a : ℕ) → a < K.nacts → (q : Place) → managing K s ≡ managing K (ia_to K s a q)
  ia_managing a ha Ether = omega (arith, set_managing (K.task a) (F.task a ha) (held Manager 0 (task_at s (K.task a))) (set s.acts a (rested Ether)))
  ia_managing a ha (Codel c) = omega (arith, set_managing (K.task a) (F.task a ha) (task_at s (K.task a)) (set s.acts a (entered K c (out_of_r (act_at s a)))))

  -- `sm` opens a cycle, `fm` closes one, and no other step does either
  step_balance : (x : Step) → refusal K s x ≡ 0 → opens x + managing K s ≡ one (is_fm x) + managing K (next K s x)
  unfolding refusal next
  step_balance (Wait d) ok = omega (arith, wait_managing d)
  step_balance (Sm t n r) ok =
      let g = sm_goes K s t n r ok in
      let e : one (task_at s t).managing ≡ 0 = ap one (T_false (task_at s t).managing (T_not (task_at s t).managing g.waits)) in
      omega (arith, set_managing t g.in_t (managed s.date (task_at s t)) (anew K.nacts (λ a. listed (eqb (K.task a) t) n r a) no_act s.acts))
  step_balance (OfTask t St) ok = omega (arith, set_managing t (st_goes K s t ok).in_t (signalled (task_at s t)) s.acts)
  step_balance (OfTask t Fm) ok =
      let g = fm_goes K s t ok in
      let e : one (task_at s t).managing ≡ 1 = ap one (T_true (task_at s t).managing g.managing) in
      omega (arith, set_managing t g.in_t (closed (task_at s t)) s.acts)
  step_balance (OfAct a (Lm t)) ok = omega (arith, set_managing t (lm_goes K s t a ok).in_t (held (Activity a) 0 (task_at s t)) (set s.acts a (again K (act_at s a).halt (act_at s a).place (act_at s a))))
  step_balance (OfAct a Ia) ok = omega (arith, ia_managing a (ia_goes K s a ok).in_a (stop_of K a))
  step_balance (OfAct a (Ea Ether)) ok = absurd (omega arith)
  step_balance (OfAct a (Ea (Codel c))) ok = omega (arith, set_managing (K.task a) (F.task a (ea_goes K s a c ok).in_a) (held (task_at s (K.task a)).holder (act_at s a).clock (task_at s (K.task a))) (set s.acts a (entered K c (act_at s a))))
  step_balance (OfAct a Cx) ok = omega (arith, set_managing (K.task a) (F.task a (cx_goes K s a ok).in_a) (task_at s (K.task a)) (set s.acts a (begun (act_at s a))))
  step_balance (OfAct a (Fa p)) ok = omega (arith, set_managing (K.task a) (F.task a (fa_goes K s a p ok).in_a) (held Manager (act_at s a).clock (task_at s (K.task a))) (set s.acts a (rested p)))

-- from any sound state: what was managing and what was opened is kept, dropped or managing at the end
pub balance_from : (K : Table) → Formed K → (xs : List Step) (s : State) → Sound K s → T (all_accepted K s xs) → opened_in xs + managing K s ≡ length (kept_in K s xs) + dropped_in K s xs + managing K (reached K s xs)
unfolding all_accepted reached opened_in kept_in dropped_in
balance_from K F [] s S ok = omega arith
balance_from K F (x ∷ xs) s S ok =
    let now = and_both (accepted (refusal K s x)) _ ok in
    let acc : refusal K s x ≡ 0 = eqb→eq _ _ now.0 in
    let s' = next K s x in
    let rest : opened_in xs + managing K s' ≡ length (kept_in K s' xs) + dropped_in K s' xs + managing K (reached K s' xs) = balance_from K F xs s' (step_keeps K F s S x acc) now.1 in
    omega (arith, step_balance K F s S x acc, one_more_lem (verdict K s x) (kept_in K s' xs), ap one (verdict_at_fm K s x))

-- no task manages in the fresh state
pub fresh_managing : (K : Table) → managing K fresh ≡ 0
unfolding managing
fresh_managing K = omega (arith, sum_bound K.ntasks 0 (λ t. one (task_at fresh t).managing) (λ t h. rw (fresh_task t) zero-le))

-- from the fresh state: "Opened (accepted `sm`) equals kept plus dropped plus the tasks managing at the end."
pub balance : (K : Table) → T (wellformed K) → (xs : List Step) → T (all_accepted K fresh xs) → opened_in xs ≡ length (kept_in K fresh xs) + dropped_in K fresh xs + managing K (reached K fresh xs)
balance K wf xs ok = omega (arith, balance_from K (formed K wf) xs fresh (start_sound K) ok, fresh_managing K)
