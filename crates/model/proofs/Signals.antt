-- What a cycle counts while it is open, and its verdict by the log alone.
use mathlib.Core.Bool.{not}
use mathlib.Core.Path.{◌≡◌, refl, ap, sym, subst, subst⁻¹, ◌∙◌}
use mathlib.Core.List.{List, [], ◌∷◌, ◌++◌}
use Prim.Native.Nat.{ℕ, ◌+◌, ◌<◌}
use native.Mathlib.Omega.{arith}
use borrow.Author.Tests.{ne_eqb}
use lib.Dec.{T, eqb, eqb→eq, eqb_refl, T_not}
use lib.ListN.{get_or, set}
use lib.Seq.{get_or-set_same}
use Rattle.text.specs.declared.Set.{Set}
use Rattle.model.specs.Tests.{◌and◌, one, accepted}
use Rattle.model.specs.Tables.{Table}
use Rattle.model.specs.Rows.{wellformed}
use Rattle.model.specs.States.{no_task, fresh, task_at, act_at, by_manager}
use Rattle.model.specs.Rules.{held, signalled, managed, stop_of, ia_to, closed, timed, refusal, next}
use Rattle.model.specs.Logs.{all_accepted, reached}
use Rattle.model.specs.Cycles.{verdict, signals, signals_in, closes, stays_open, cycle_row, verdict_on}
use Rattle.model.specs.declared.Task.{Task}
use Rattle.model.specs.declared.State.{State}
use Rattle.model.specs.declared.Place.{Place}
use Rattle.model.specs.declared.Place.TheVariants.{Ether, Codel}
use Rattle.model.specs.declared.Holder.{Holder}
use Rattle.model.specs.declared.Holder.TheVariants.{Manager, Activity}
use Rattle.model.specs.declared.TaskStep.TheVariants.{St, Fm}
use Rattle.model.specs.declared.ActStep.TheVariants.{Lm, Ia, Ea, Cx, Fa}
use Rattle.model.specs.declared.Step.{Step}
use Rattle.model.specs.declared.Step.TheVariants.{Wait, Sm, OfTask, OfAct}
use Rattle.model.proofs.Tests.{T_true, and_l, and_r, and_both, imp_e}
use Rattle.model.proofs.Rows.{set_cases, anew_at}
use Rattle.model.proofs.Formed.{Formed, formed}
use Rattle.model.proofs.Soundness.{Sound, start_sound, task_at_lem}
use Rattle.model.proofs.Accepted.{st_goes, sm_goes, lm_goes, ia_goes, ea_goes, cx_goes, fa_goes, fm_goes}
use Rattle.model.proofs.Frames.{in_tasks}
use Rattle.model.proofs.StepsKeep.{step_keeps, parts_accepted, parts_reached, reached_sound}

-- the cycle that is open in x is open in z, n signals later
pub record Open (x z : Task) (n : ℕ) : Type 0 where
  pub managing : T z.managing
  pub cycle : z.cycle ≡ x.cycle
  pub opened : z.opened ≡ x.opened
  pub missed : z.missed ≡ x.missed + n

-- one step from a sound state in which the task t is managing
module _ (K : Table) (F : Formed K) (s : State) (S : Sound K s) (t : ℕ) (ht : t < K.ntasks) (m : T (task_at s t).managing) where
  abbrev x : Task
  x = task_at s t

  as_it_was : Open x x 0
  as_it_was = record { managing = m; cycle = refl; opened = refl; missed = omega arith }

  -- the record of the task u anew
  set_open : (u : ℕ) → u < K.ntasks → (z : Task) (n : ℕ) → (t ≡ u → Open x z n) → ((t ≡ u → ⊥) → n ≡ 0) → Open x (get_or (set s.tasks u z) t no_task) n
  set_open u hu z n at off = set_cases (λ w. Open x w n) s.tasks u z no_task t (in_tasks K F s S u hu) at (λ ne. subst⁻¹ (λ k. Open x x k) (off ne) as_it_was)

  set_same : (u : ℕ) → u < K.ntasks → Open x (get_or (set s.tasks u (task_at s u)) t no_task) 0
  set_same u hu = set_open u hu (task_at s u) 0 (λ e. subst (λ v. Open x (task_at s v) 0) e as_it_was) (λ ne. refl)

  set_held : (u : ℕ) → u < K.ntasks → (h : Holder) (k : ℕ) → Open x (get_or (set s.tasks u (held h k (task_at s u))) t no_task) 0
  set_held u hu h k = set_open u hu (held h k (task_at s u)) 0 (λ e. subst (λ v. Open x (held h k (task_at s v)) 0) e (record { managing = m; cycle = refl; opened = refl; missed = omega arith })) (λ ne. refl)

  -- "missed grows at each `st` accepted while the cycle is open, set or not"
  one_signal : Open x (signalled x) (one (eqb t t))
  one_signal = record { managing = m; cycle = refl; opened = refl; missed = rw (T_true (eqb t t) (eqb_refl t), T_true x.managing m) refl }

  ia_open : (u a : ℕ) → K.task a ≡ u → u < K.ntasks → (q : Place) → Open x (task_at (ia_to K s a q) t) 0
  ia_open u a e hu Ether = rw e (set_held u hu Manager 0)
  ia_open u a e hu (Codel c) = rw e (set_same u hu)

  -- every accepted step but its own `fm` leaves the cycle open, and counts if it is its own `st`
  step_open : (y : Step) → refusal K s y ≡ 0 → T (not (closes t y)) → Open x (task_at (next K s y) t) (one (signals t y))
  unfolding refusal next
  step_open (Wait d) ok on = subst⁻¹ (λ w. Open x w 0) (anew_at (λ t. timed d) no_task s.tasks K.ntasks t ht (in_tasks K F s S t ht)) (record { managing = m; cycle = refl; opened = refl; missed = omega arith })
  step_open (Sm u n r) ok on =
      let g = sm_goes K s u n r ok in
      set_open u g.in_t (managed s.date (task_at s u)) 0 (λ e. absurd (T_not (task_at s u).managing g.waits (subst (λ v. T (task_at s v).managing) e m))) (λ ne. refl)
  step_open (OfTask u St) ok on =
      set_open u (st_goes K s u ok).in_t (signalled (task_at s u)) (one (eqb u t)) (λ e. subst (λ v. Open x (signalled (task_at s v)) (one (eqb v t))) e one_signal) (λ ne. ap one (ne_eqb u t (λ q. ne (sym q))))
  step_open (OfTask u Fm) ok on =
      set_open u (fm_goes K s u ok).in_t (closed (task_at s u)) 0 (λ e. absurd (T_not (eqb u t) on (subst (λ v. T (eqb v t)) e (eqb_refl t)))) (λ ne. refl)
  step_open (OfAct a (Lm u)) ok on = set_held u (lm_goes K s u a ok).in_t (Activity a) 0
  step_open (OfAct a Ia) ok on = ia_open (K.task a) a refl (F.task a (ia_goes K s a ok).in_a) (stop_of K a)
  step_open (OfAct a (Ea Ether)) ok on = absurd (omega arith)
  step_open (OfAct a (Ea (Codel c))) ok on = set_held (K.task a) (F.task a (ea_goes K s a c ok).in_a) (task_at s (K.task a)).holder (act_at s a).clock
  step_open (OfAct a Cx) ok on = set_same (K.task a) (F.task a (cx_goes K s a ok).in_a)
  step_open (OfAct a (Fa p)) ok on = set_held (K.task a) (F.task a (fa_goes K s a p ok).in_a) Manager (act_at s a).clock

-- so while a cycle is open, missed is the number of its signals
pub stays_open_lem : (K : Table) → Formed K → (t : ℕ) → t < K.ntasks → (xs : List Step) (s : State) → Sound K s → T (task_at s t).managing → T (all_accepted K s xs) → T (stays_open t xs)
    → Open (task_at s t) (task_at (reached K s xs) t) (signals_in t xs)
unfolding all_accepted reached signals_in stays_open
stays_open_lem K F t ht [] s S m ok on = as_it_was K F s S t ht m
stays_open_lem K F t ht (y ∷ xs) s S m ok on =
    let now = and_both (accepted (refusal K s y)) _ ok in
    let acc : refusal K s y ≡ 0 = eqb→eq _ _ now.0 in
    let rest = and_both (not (closes t y)) _ on in
    let a = step_open K F s S t ht m y acc rest.0 in
    let b = stays_open_lem K F t ht xs (next K s y) (step_keeps K F s S y acc) a.managing now.1 rest.1 in
    record { managing = b.managing; cycle = b.cycle ∙ a.cycle; opened = b.opened ∙ a.opened; missed = omega (arith, b.missed, a.missed) }

-- from a sound state: a cycle that `sm` opens and `fm` closes is kept exactly if it took its task's keep, or a signal came while it was open; its
-- row has as missed how many came
pub cycle_told_from : (K : Table) → Formed K → (s : State) → Sound K s → (t : ℕ) (n r : Set) (xs : List Step) → T (all_accepted K s (Sm t n r ∷ xs)) → T (stays_open t xs)
    → verdict K (reached K s (Sm t n r ∷ xs)) (OfTask t Fm) ≡ verdict_on K (cycle_row s (reached K s (Sm t n r ∷ xs)) t (signals_in t xs))
unfolding all_accepted reached verdict refusal next
cycle_told_from K F s S t n r xs ok on =
    let now = and_both (accepted (refusal K s (Sm t n r))) _ ok in
    let acc : refusal K s (Sm t n r) ≡ 0 = eqb→eq _ _ now.0 in
    let g = sm_goes K s t n r acc in
    let z = next K s (Sm t n r) in
    let first : task_at z t ≡ managed s.date (task_at s t) = get_or-set_same s.tasks t (managed s.date (task_at s t)) no_task (in_tasks K F s S t g.in_t) in
    let o = stays_open_lem K F t g.in_t xs z (step_keeps K F s S (Sm t n r) acc) (subst⁻¹ (λ w. T w.managing) first tt) now.1 on in
    let none : (task_at s t).missed ≡ 0 = none_missed (task_at s t) (imp_e (not (task_at s t).managing) _ (task_at_lem K s S t g.in_t).waits g.waits) in
    let missed : (task_at (reached K z xs) t).missed ≡ signals_in t xs = omega (arith, o.missed, ap (λ w. w.missed) first, none) in
    rw (o.cycle ∙ ap (λ w. w.cycle) first, o.opened ∙ ap (λ w. w.opened) first, missed) refl
  where
    none_missed : (x : Task) → T (by_manager x.holder and eqb x.opened 0 and eqb x.missed 0 and eqb x.longest 0) → x.missed ≡ 0
    none_missed x w = eqb→eq _ _ (and_l (eqb x.missed 0) _ (and_r (eqb x.opened 0) _ (and_r (by_manager x.holder) _ w)))

-- the same of every cycle of a log that is accepted from the fresh state
pub cycle_told : (K : Table) → T (wellformed K) → (ys : List Step) (t : ℕ) (n r : Set) (xs zs : List Step) → T (all_accepted K fresh (ys ++ ((Sm t n r ∷ xs) ++ zs))) → T (stays_open t xs)
    → verdict K (reached K fresh (ys ++ Sm t n r ∷ xs)) (OfTask t Fm) ≡ verdict_on K (cycle_row (reached K fresh ys) (reached K fresh (ys ++ Sm t n r ∷ xs)) t (signals_in t xs))
cycle_told K wf ys t n r xs zs ok on =
    let F = formed K wf in
    let parts = parts_accepted K ys ((Sm t n r ∷ xs) ++ zs) fresh ok in
    let S = reached_sound K F ys fresh (start_sound K) parts.0 in
    rw (parts_reached K ys (Sm t n r ∷ xs) fresh) (cycle_told_from K F (reached K fresh ys) S t n r xs (parts_accepted K (Sm t n r ∷ xs) zs (reached K fresh ys) parts.1).0 on)
