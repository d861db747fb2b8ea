-- 16 as the page says it: which accepted steps hinder a wait; and the same told by the tasks and their holders of a sound state.
use mathlib.Core.Bool.{Bool, not}
use mathlib.Core.Path.{◌≡◌, refl, subst⁻¹}
use mathlib.Core.Logic.{⊎_elim, ◌↔◌}
use Prim.Native.Nat.{ℕ, ◌<◌}
use native.Mathlib.Omega.{arith}
use borrow.Author.Tests.{eq-eqb, not-false}
use lib.Dec.{T, eqb, eqb→eq, eqb_refl, T_not}
use Rattle.text.specs.Set.{empty_set}
use Rattle.text.proofs.Members.{each_of_none}
use Rattle.model.specs.Tests.{◌and◌, some, accepted}
use Rattle.model.specs.Tables.{Table, is_ether, is_start}
use Rattle.model.specs.States.{task_at, act_at, by_manager, held_by, holds, in_sets, stands}
use Rattle.model.specs.Rules.{within, sm_refusal, lm_refusal, ia_refusal, ea_allowed, ea_refusal, cx_refusal, none_in, urgent_task, urgent_act, urgent, refusal, holder_hinders, task_hinders, hindered, urgent_kind}
use Rattle.model.specs.declared.Task.{Task}
use Rattle.model.specs.declared.Act.{Act}
use Rattle.model.specs.declared.State.{State}
use Rattle.model.specs.declared.Place.{Place}
use Rattle.model.specs.declared.Place.TheVariants.{Ether, Codel}
use Rattle.model.specs.declared.Holder.{Holder}
use Rattle.model.specs.declared.Holder.TheVariants.{Manager, Activity}
use Rattle.model.specs.declared.TaskStep.TheVariants.{St, Fm}
use Rattle.model.specs.declared.ActStep.TheVariants.{Lm, Ia, Ea, Cx, Fa}
use Rattle.model.specs.declared.Step.{Step}
use Rattle.model.specs.declared.Step.TheVariants.{Wait, Sm, OfTask, OfAct}
use Rattle.model.proofs.Tests.{true_T, yes_or_no, same_test, and_i, and_l, and_r, or_l, or_r, or_cases, some_at, some_mk, each_or}
use Rattle.model.proofs.Formed.{Formed}
use Rattle.model.proofs.Soundness.{Sound, held_is, holder_in}
use Rattle.model.proofs.Accepted.{sm_goes, goes_sm, lm_goes, goes_lm, ia_goes, goes_ia, ea_goes, goes_ea, cx_goes, goes_cx, fm_goes, goes_fm}

-- a step of those that is accepted
abbrev pub Hindering : Table → State → Type 0
Hindering K s = (x : Step) × T (urgent_kind s x) × (refusal K s x ≡ 0)

-- the empty set is within every task
within_none : (K : Table) (t : ℕ) → T (within K t empty_set)
unfolding within
within_none K t = true_T (within K t empty_set) (each_of_none _)

-- a refusal of 0 is no refusal
zero_accepted : (n : ℕ) → n ≡ 0 → T (accepted n)
zero_accepted n e = true_T (accepted n) (eq-eqb n 0 e)

module _ (K : Table) (s : State) where
  -- where some sets let `sm` in, the empty ones do
  empty_sm : (t : ℕ) → t < K.ntasks → T (not (task_at s t).managing) → T (task_at s t).signal → sm_refusal K s t empty_set empty_set ≡ 0
  empty_sm t h w g = goes_sm K s t empty_set empty_set (record { in_t = h; within_n = within_none K t; within_r = within_none K t; waits = w; signal = g })

  -- an urgent task, an urgent activity
  by_task : (t : ℕ) → t < K.ntasks → T (urgent_task K s t) → T (urgent K s)
  unfolding urgent
  by_task t h u = or_l (some K.ntasks (urgent_task K s)) _ (some_mk (urgent_task K s) K.ntasks t h u)

  by_act : (a : ℕ) → a < K.nacts → T (urgent_act K s a) → T (urgent K s)
  unfolding urgent
  by_act a h u = or_r (some K.ntasks (urgent_task K s)) _ (some_mk (urgent_act K s) K.nacts a h u)

  -- such a step, `sm` with any sets, hinders a wait
  some_urgent : (x : Step) → T (urgent_kind s x) → refusal K s x ≡ 0 → T (urgent K s)
  unfolding urgent_task urgent_act refusal
  some_urgent (Wait d) k ok = absurd k
  some_urgent (Sm t n r) k ok =
      let g = sm_goes K s t n r ok in
      by_task t g.in_t (or_l (accepted (sm_refusal K s t empty_set empty_set)) _ (zero_accepted _ (empty_sm t g.in_t g.waits g.signal)))
  some_urgent (OfTask t St) k ok = absurd k
  some_urgent (OfTask t Fm) k ok = by_task t (fm_goes K s t ok).in_t (or_r (accepted (sm_refusal K s t empty_set empty_set)) _ (or_r (some K.nacts (λ a. accepted (lm_refusal K s t a))) _ (zero_accepted _ ok)))
  some_urgent (OfAct a (Lm t)) k ok =
      let g = lm_goes K s t a ok in
      by_task t g.in_t (or_r (accepted (sm_refusal K s t empty_set empty_set)) _ (or_l (some K.nacts (λ a. accepted (lm_refusal K s t a))) _ (some_mk (λ a. accepted (lm_refusal K s t a)) K.nacts a g.in_a (zero_accepted _ ok))))
  some_urgent (OfAct a Ia) k ok = by_act a (ia_goes K s a ok).in_a (or_l (accepted (ia_refusal K s a)) _ (zero_accepted _ ok))
  some_urgent (OfAct a (Ea Ether)) k ok = absurd (omega arith)
  some_urgent (OfAct a (Ea (Codel c))) k ok =
      let g = ea_goes K s a c ok in
      by_act a g.in_a (or_r (accepted (ia_refusal K s a)) _ (or_r (accepted (cx_refusal K s a)) _ (and_i (is_ether (act_at s a).place) _ k (some_mk (λ c. accepted (ea_refusal K s a (Codel c))) K.ncodels c g.in_c (zero_accepted _ ok)))))
  some_urgent (OfAct a Cx) k ok = by_act a (cx_goes K s a ok).in_a (or_r (accepted (ia_refusal K s a)) _ (or_l (accepted (cx_refusal K s a)) _ (zero_accepted _ ok)))
  some_urgent (OfAct a (Fa p)) k ok = absurd k

  -- and a hindered wait has such a step
  urgent_some : T (urgent K s) → Hindering K s
  unfolding urgent urgent_task urgent_act refusal
  urgent_some u = ⊎_elim task act (or_cases (some K.ntasks (urgent_task K s)) _ u)
    where
      task : T (some K.ntasks (urgent_task K s)) → Hindering K s
      task v =
          let w = some_at (urgent_task K s) K.ntasks v in
          let t = w.0 in
          let lms : ℕ → Bool = λ a. accepted (lm_refusal K s t a) in
          ⊎_elim (λ h. (Sm t empty_set empty_set, tt, eqb→eq _ _ h))
          (λ r. ⊎_elim (λ q. let z = some_at lms K.nacts q in (OfAct z.0 (Lm t), tt, eqb→eq _ _ z.2)) (λ h. (OfTask t Fm, tt, eqb→eq _ _ h))
          (or_cases (some K.nacts lms) _ r))
          (or_cases (accepted (sm_refusal K s t empty_set empty_set)) _ w.2)

      act : T (some K.nacts (urgent_act K s)) → Hindering K s
      act v =
          let w = some_at (urgent_act K s) K.nacts v in
          let a = w.0 in
          let eas : ℕ → Bool = λ c. accepted (ea_refusal K s a (Codel c)) in
          let ether = is_ether (act_at s a).place in
          ⊎_elim (λ h. (OfAct a Ia, tt, eqb→eq _ _ h))
          (λ r. ⊎_elim (λ h. (OfAct a Cx, tt, eqb→eq _ _ h)) (λ q. let z = some_at eas K.ncodels (and_r ether _ q) in (OfAct a (Ea (Codel z.0)), and_l ether _ q, eqb→eq _ _ z.2))
          (or_cases (accepted (cx_refusal K s a)) _ r))
          (or_cases (accepted (ia_refusal K s a)) _ w.2)

  -- 16 is given exactly where one of the named steps would be accepted
  pub urgent_exact : T (urgent K s) ↔ Hindering K s
  urgent_exact = (urgent_some, λ w. some_urgent w.0 w.1 w.2)

module _ (K : Table) (F : Formed K) (s : State) (S : Sound K s) where
  -- a managing manager that holds hinders, and so does a holder of which the test says so
  by_manager_lem : (t : ℕ) → T (task_at s t).managing → T (by_manager (task_at s t).holder) → T (task_hinders K s t)
  by_manager_lem t m h = or_r (not (task_at s t).managing and (task_at s t).signal) _ (or_l ((task_at s t).managing and by_manager (task_at s t).holder) _ (and_i (task_at s t).managing _ m h))

  by_holder : (a : ℕ) → a < K.nacts → T (holds K s a) → T (holder_hinders K s (Activity a)) → (t : ℕ) × (t < K.ntasks) × T (task_hinders K s t)
  by_holder a h hh u =
      let x = task_at s (K.task a) in
      (K.task a, F.task a h, or_r (not x.managing and x.signal) _ (or_r (x.managing and by_manager x.holder) _ (subst⁻¹ (λ z. T (holder_hinders K s z)) (held_is x.holder a hh) u)))

  -- an accepted step of those has a task that hinders
  to_task : (x : Step) → T (urgent_kind s x) → refusal K s x ≡ 0 → (t : ℕ) × (t < K.ntasks) × T (task_hinders K s t)
  unfolding refusal
  to_task (Wait d) k ok = absurd k
  to_task (Sm t n r) k ok =
      let g = sm_goes K s t n r ok in
      (t, g.in_t, or_l (not (task_at s t).managing and (task_at s t).signal) _ (and_i (not (task_at s t).managing) _ g.waits g.signal))
  to_task (OfTask t St) k ok = absurd k
  to_task (OfTask t Fm) k ok = let g = fm_goes K s t ok in (t, g.in_t, by_manager_lem t g.managing g.holds)
  to_task (OfAct a (Lm t)) k ok = let g = lm_goes K s t a ok in (t, g.in_t, by_manager_lem t g.managing g.holds)
  to_task (OfAct a Ia) k ok = let g = ia_goes K s a ok in by_holder a g.in_a g.holds (or_l (act_at s a).halt _ g.in_r)
  to_task (OfAct a (Ea Ether)) k ok = absurd (omega arith)
  to_task (OfAct a (Ea (Codel c))) k ok = let g = ea_goes K s a c ok in by_holder a g.in_a g.holds (or_r (act_at s a).halt _ (or_l (is_ether (act_at s a).place) _ k))
  to_task (OfAct a Cx) k ok =
      let g = cx_goes K s a ok in
      let y = act_at s a in
      by_holder a g.in_a g.holds (or_r y.halt _ (or_r (is_ether y.place) _ (and_i (stands K y y.place) _ g.stands g.clear)))
  to_task (OfAct a (Fa p)) k ok = absurd k

  -- a holder that hinders has such a step: `ia` in R, `ea` to its start at ether, else `cx`
  of_holder : (a : ℕ) → a < K.nacts → T (holds K s a) → T (holder_hinders K s (Activity a)) → Hindering K s
  unfolding refusal
  of_holder a ha hh u = ⊎_elim
      (λ l. (OfAct a Ia, tt, goes_ia K s a (record { in_a = ha; holds = hh; in_r = l })))
      (λ n. ⊎_elim (λ l. absurd (T_not y.halt n l))
      (λ v. ⊎_elim
      (λ e. let c = F.starts a ha in (OfAct a (Ea (Codel c.0)), e, goes_ea K s a c.0 (record { in_a = ha; in_c = c.1; holds = hh; not_r = n; allowed = start c.0 y.place e c.2; clock = or_l (is_ether y.place) _ e })))
      (λ w. (OfAct a Cx, tt, goes_cx K s a (record { in_a = ha; holds = hh; not_r = n; stands = and_l (stands K y y.place) _ w; clear = and_r (stands K y y.place) _ w })))
      (or_cases (is_ether y.place) _ v))
      (or_cases y.halt _ u))
      (yes_or_no y.halt)
    where
      y : Act
      y = act_at s a

      start : (c : ℕ) (p : Place) → T (is_ether p) → T (is_start K a c) → T (ea_allowed K y a c p)
      start c Ether e h = h
      start c (Codel d) e h = absurd e

  -- a managing manager that holds has one: `fm` where N and R are empty, else `lm`
  of_manager : (t : ℕ) → t < K.ntasks → T (task_at s t).managing → T (by_manager (task_at s t).holder) → Hindering K s
  unfolding refusal none_in
  of_manager t ht m h = ⊎_elim
      (λ e. (OfTask t Fm, tt, goes_fm K s t (record { in_t = ht; managing = m; holds = h; none = e })))
      (λ w.
      let a = w.0 in
      let u : T (in_sets K s t a) = true_T _ (not-false (in_sets K s t a) w.2) in
      (OfAct a (Lm t), tt, goes_lm K s t a (record { in_t = ht; in_a = w.1; managing = m; holds = h; task = eqb→eq _ _ (and_l (eqb (K.task a) t) _ u); listed = and_r (eqb (K.task a) t) _ u })))
      (each_or (λ a. not (in_sets K s t a)) K.nacts)

  -- a task that hinders has such a step
  of_hindering : (t : ℕ) → t < K.ntasks → T (task_hinders K s t) → Hindering K s
  unfolding refusal
  of_hindering t ht u = ⊎_elim
      (λ w. (Sm t empty_set empty_set, tt, empty_sm K s t ht (and_l (not x.managing) _ w) (and_r (not x.managing) _ w)))
      (λ v. ⊎_elim (λ w. of_manager t ht (and_l x.managing _ w) (and_r x.managing _ w)) (go x.holder refl) (or_cases (x.managing and by_manager x.holder) _ v))
      (or_cases (not x.managing and x.signal) _ u)
    where
      x : Task
      x = task_at s t

      go : (h : Holder) → x.holder ≡ h → T (holder_hinders K s h) → Hindering K s
      go Manager e w = absurd w
      go (Activity a) e w =
          let i = holder_in K s S t a ht e in
          of_holder a i.0 (subst⁻¹ (λ u. T (held_by (task_at s u).holder a)) i.1 (subst⁻¹ (λ h. T (held_by h a)) e (eqb_refl a))) w

  -- in a sound state the test of 16 is the one by tasks and their holders
  pub urgent_hindered : urgent K s ≡ hindered K s
  unfolding hindered
  urgent_hindered = same_test (urgent K s) (some K.ntasks (task_hinders K s))
      (λ u. let w = (urgent_exact K s).0 u in let z = to_task w.0 w.1 w.2 in some_mk (task_hinders K s) K.ntasks z.0 z.1 z.2)
      (λ u. let w = some_at (task_hinders K s) K.ntasks u in (urgent_exact K s).1 (of_hindering w.0 w.1 w.2))
