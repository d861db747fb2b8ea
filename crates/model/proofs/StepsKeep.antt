-- Each accepted step takes a sound state to a sound one, and so does any accepted sequence.
use mathlib.Core.Bool.{Bool, true, false, not}
use mathlib.Core.Path.{◌≡◌, refl, ap, sym, subst, subst⁻¹, subst₂, ◌∙◌}
use mathlib.Core.Logic.{inl, inr, ⊎_elim}
use mathlib.Core.List.{List, [], ◌∷◌, ◌++◌}
use Prim.Native.Nat.{ℕ, zero, suc, ◌+◌, ◌≤◌, ◌<◌, zero-le}
use native.Mathlib.Omega.{arith}
use borrow.Author.Tests.{eq-eqb, ne_eqb}
use lib.Dec.{T, leb, ltb, eqb, leb→le, lt→ltb, eqb→eq, eqb_refl, T_not}
use lib.ListN.{get_or, set}
use Rattle.text.specs.declared.Set.{Set}
use Rattle.model.specs.Tests.{◌or◌, ◌implies◌, each, accepted}
use Rattle.model.specs.Limits.{most_ticks}
use Rattle.model.specs.Tables.{Table, is_codel, is_stop}
use Rattle.model.specs.States.{no_task, task_at, act_at, by_manager, held_by, holds, in_sets, runs, executes}
use Rattle.model.specs.Records.{with_date, with_tasks}
use Rattle.model.specs.Rules.{entered, rested, held, put_task, put_both, anew, st_refusal, signalled, st_next, sm_refusal, managed, listed, sm_next, lm_refusal, again, lm_next, ia_refusal, or_at, first, stop_of, out_of_r, ia_to, ia_next, ea_refusal, ea_next, cx_refusal, begun, cx_next, fa_allowed, fa_refusal, fa_next, none_in, fm_refusal, closed, fm_next, room_for, wait_refusal, timed, clocked, wait_next, refusal, next}
use Rattle.model.specs.Sound.{at_own, sets_while_managing, may_rest, fine_act, fine_task, is_fresh_task}
use Rattle.model.specs.Logs.{all_accepted, reached}
use Rattle.model.specs.declared.Task.{Task}
use Rattle.model.specs.declared.Act.{Act}
use Rattle.model.specs.declared.State.{State}
use Rattle.model.specs.declared.Place.{Place}
use Rattle.model.specs.declared.Place.TheVariants.{Ether, Codel}
use Rattle.model.specs.declared.Holder.TheVariants.{Manager, Activity}
use Rattle.model.specs.declared.TaskStep.TheVariants.{St, Fm}
use Rattle.model.specs.declared.ActStep.TheVariants.{Lm, Ia, Ea, Cx, Fa}
use Rattle.model.specs.declared.Step.{Step}
use Rattle.model.specs.declared.Step.TheVariants.{Wait, Sm, OfTask, OfAct}
use Rattle.model.proofs.Tests.{true_T, and_i, and_l, and_r, and_both, imp_i, imp_e, each_at}
use Rattle.model.proofs.Rows.{set_cases, anew_past, anew_at}
use Rattle.model.proofs.Formed.{Formed}
use Rattle.model.proofs.Soundness.{Sound, FineAct, of_act, FineTask, of_task, held_is, manager_is, fine_at, task_at_lem, fine_in, executing_at}
use Rattle.model.proofs.Accepted.{WaitGoes, SmGoes, wait_goes, st_goes, sm_goes, lm_goes, ia_goes, ea_goes, cx_goes, fa_goes, fm_goes}
use Rattle.model.proofs.Shapes.{sm_shaped, wait_shaped}
use Rattle.model.proofs.Frames.{Handed, handed_to, given_back, held_on, held_longer, safe_clear, in_tasks, set_tasks, set_past, keep_task, keep_both, anew_acts, anew_pairs, anew_rest}
use Rattle.model.proofs.Sentences.{signalled_fine, managed_fine, held_fine, closed_fine, timed_fine, managing_of, clock_bound, fine_same, closed_act, listed_fine, enter_fine, lm_fine, cx_fine, rested_fine, clocked_fine, enter_runs, again_runs, cx_clear, ea_own, fa_rests, listed_runs}

-- the first number that passes is below the bound and passes
pub first_at_lem : (n : ℕ) (p : ℕ → Bool) (c : ℕ) → first n p ≡ Codel c → (c < n) × T (p c)
unfolding first
first_at_lem zero p c e = let z : ◌≡◌ {A = ℕ} 0 1 = cc in absurd (omega arith)
first_at_lem (suc n) p c e = go (first_at_lem n p c) (first n p) refl (p n) refl e
  where
    go : (first n p ≡ Codel c → (c < n) × T (p c)) → (q : Place) → first n p ≡ q → (b : Bool) → p n ≡ b → or_at n q b ≡ Codel c → (c < suc n) × T (p c)
    go ih Ether f true g h = let e : n ≡ c = cc in (omega arith, subst (λ k. T (p k)) e (true_T (p n) g))
    go ih Ether f false g h = let z : ◌≡◌ {A = ℕ} 0 1 = cc in absurd (omega arith)
    go ih (Codel d) f b g h = let e : d ≡ c = cc in let w = ih (f ∙ ap Codel e) in (omega (arith, w.0), w.1)

module _ (K : Table) (F : Formed K) (s : State) (S : Sound K s) where
  st_keeps : (t : ℕ) → st_refusal K s t ≡ 0 → Sound K (st_next s t)
  st_keeps t ok =
      let g = st_goes K s t ok in
      let x = task_at s t in
      keep_task K F s S t g.in_t (signalled x) (signalled_fine K s.date t x (task_at_lem K s S t g.in_t) g.due (F.period t g.in_t))
      (λ b hb q. fine_same K b x (signalled x) (act_at s b) refl refl (fine_in K s S t b hb q))

  lm_keeps : (t a : ℕ) → lm_refusal K s t a ≡ 0 → Sound K (lm_next K s t a)
  lm_keeps t a ok =
      let g = lm_goes K s t a ok in
      let x = task_at s t in
      let y = act_at s a in
      let free : x.holder ≡ Manager = manager_is x.holder g.holds in
      keep_both K F s S t a g.in_t g.in_a g.task (held (Activity a) 0 x) (again K y.halt y.place y)
      (handed_to a 0 x free)
      (held_fine K s.date t x (Activity a) 0 (task_at_lem K s S t g.in_t) g.managing (and_i (ltb a K.nacts) _ (lt→ltb _ _ g.in_a) (true_T _ (eq-eqb _ _ g.task))) zero-le)
      (lm_fine K a x y (fine_in K s S t a g.in_a g.task) (ap (λ h. held_by h a) free) g.listed)
      (λ c u. ⊎_elim inl (λ v. inr (safe_clear K s c v)) (again_runs K y.halt y.place y c u))

  -- an activity and its task
  module _ (a : ℕ) (ha : a < K.nacts) (hh : T (holds K s a)) where
    abbrev x : Task
    x = task_at s (K.task a)

    abbrev y : Act
    y = act_at s a

    ht : K.task a < K.ntasks
    ht = F.task a ha

    f : FineAct K a x y
    f = fine_at K s S a ha

    fx : FineTask K s.date (K.task a) x
    fx = task_at_lem K s S (K.task a) ht

    managing : T x.managing
    managing = managing_of K s.date (K.task a) a x fx hh

    -- a gives the task back at p
    give_keeps : (k : ℕ) (p : Place) → k ≤ most_ticks → T (at_own K a p) → T (may_rest K p) → Sound K (put_both s (K.task a) (held Manager k x) a (rested p))
    give_keeps k p hk o r = keep_both K F s S (K.task a) a ht ha refl (held Manager k x) (rested p)
        (given_back a k x (held_is x.holder a hh))
        (held_fine K s.date (K.task a) x Manager k fx managing tt hk)
        (rested_fine K a k x p o r)
        (λ c u. absurd u)

    -- a goes on holding and enters a codel of its own
    enter_keeps : (z : Task) (w : Act) (c : ℕ) → Handed a x z → T (held_by z.holder a) → FineTask K s.date (K.task a) z → T (sets_while_managing z w) → T (not w.halt) → T (at_own K a (Codel c)) → Sound K (put_both s (K.task a) z a (entered K c w))
    enter_keeps z w c hand hz fz ws nl o = keep_both K F s S (K.task a) a ht ha refl z (entered K c w) hand fz (enter_fine K a z w c hz nl o ws)
        (λ d u. inr (safe_clear K s d (enter_runs K c d u)))

    ia_to_lem : (q : Place) → stop_of K a ≡ q → Sound K (ia_to K s a q)
    ia_to_lem Ether e = give_keeps 0 Ether zero-le tt tt
    ia_to_lem (Codel c) e =
        let g = first_at_lem K.ncodels (is_stop K a) c e in
        enter_keeps x (out_of_r y) c (held_on a x) hh fx (imp_i (y.run or false) _ (λ u. managing)) tt (and_i (ltb c K.ncodels) _ (lt→ltb _ _ g.0) (and_l (eqb (K.owner c) a) _ g.1))

  ia_keeps : (a : ℕ) → ia_refusal K s a ≡ 0 → Sound K (ia_next K s a)
  ia_keeps a ok = let g = ia_goes K s a ok in ia_to_lem a g.in_a g.holds (stop_of K a) refl

  ea_keeps : (a c : ℕ) → ea_refusal K s a (Codel c) ≡ 0 → Sound K (ea_next K s a (Codel c))
  ea_keeps a c ok =
      let g = ea_goes K s a c ok in
      let t = K.task a in
      let h = (task_at s t).holder in
      let k = (act_at s a).clock in
      let f = fine_at K s S a g.in_a in
      let fx = task_at_lem K s S t (F.task a g.in_a) in
      enter_keeps a g.in_a g.holds (held h k (task_at s t)) (act_at s a) c
      (held_longer a k (task_at s t))
      g.holds
      (held_fine K s.date t (task_at s t) h k fx (managing a g.in_a g.holds) fx.holder (clock_bound K a F _ _ f))
      f.sets g.not_r (ea_own K F a c (act_at s a) (act_at s a).place g.in_c f.own g.allowed)

  cx_keeps : (a : ℕ) → cx_refusal K s a ≡ 0 → Sound K (cx_next K s a)
  cx_keeps a ok =
      let g = cx_goes K s a ok in
      let t = K.task a in
      let x = task_at s t in
      let y = act_at s a in
      let ht : t < K.ntasks = F.task a g.in_a in
      keep_both K F s S t a ht g.in_a refl x (begun y) (held_on a x) (task_at_lem K s S t ht)
      (cx_fine K a x y (fine_at K s S a g.in_a) g.holds g.not_r g.stands)
      (λ c u. inr (cx_clear K s y.place c g.clear u))

  fa_keeps : (a : ℕ) (p : Place) → fa_refusal K s a p ≡ 0 → Sound K (fa_next K s a p)
  fa_keeps a p ok =
      let g = fa_goes K s a p ok in
      let w = executing_at K s S a g.in_a g.executing in
      let to = fa_rests K F w.codel p (subst (λ q. T (fa_allowed K q p)) w.place g.allowed) in
      give_keeps a g.in_a g.holds (act_at s a).clock p (omega (arith, w.in_time, F.limit_high w.codel w.in_k)) (subst (λ b. T (at_own K b p)) w.owner to.1) to.0

  fm_keeps : (t : ℕ) → fm_refusal K s t ≡ 0 → Sound K (fm_next s t)
  unfolding none_in
  fm_keeps t ok =
      let g = fm_goes K s t ok in
      let x = task_at s t in
      keep_task K F s S t g.in_t (closed x) (closed_fine K s.date t x (task_at_lem K s S t g.in_t) g.holds)
      (λ b hb q. closed_act K b x (act_at s b) (fine_in K s S t b hb q)
      (λ u. T_not (in_sets K s t b) (each_at _ K.nacts g.none b hb) (and_i (eqb (K.task b) t) _ (true_T _ (eq-eqb _ _ q)) u)))

  sm_keeps : (t : ℕ) (n r : Set) → sm_refusal K s t n r ≡ 0 → Sound K (sm_next K s t n r)
  sm_keeps t n r ok = record {
    shape = sm_shaped K s S.shape t n r;
    date = S.date;
    tasks = set_tasks K F s S t g.in_t z (managed_fine K s.date t x fx g.signal);
    acts = λ b hb. subst⁻¹ (λ w. T (fine_act K b (get_or (set s.tasks t z) (K.task b) no_task) w)) (anew_acts K F s S put b hb)
        (set_cases (λ v. T (fine_act K b v (put b (act_at s b)))) s.tasks t z no_task (K.task b) (in_tasks K F s S t g.in_t) (ours b hb) (theirs b hb));
    pairs = anew_pairs K F s S put (λ b c y. listed_runs (eqb (K.task b) t) n r b y c) (put_task s t z);
    rest_t = set_past K F s S t g.in_t z;
    rest_a = anew_rest K F s S put;
  }
    where
      g : SmGoes K s t n r
      g = sm_goes K s t n r ok

      x : Task
      x = task_at s t

      z : Task
      z = managed s.date (task_at s t)

      put : ℕ → Act → Act
      put b = listed (eqb (K.task b) t) n r b

      fx : FineTask K s.date t (task_at s t)
      fx = task_at_lem K s S t g.in_t

      free : (task_at s t).holder ≡ Manager
      free = manager_is x.holder (and_l (by_manager x.holder) _ (imp_e (not x.managing) _ fx.waits g.waits))

      theirs : (b : ℕ) → b < K.nacts → (K.task b ≡ t → ⊥) → T (fine_act K b (task_at s (K.task b)) (put b (act_at s b)))
      theirs b hb e = rw (ne_eqb (K.task b) t e) (S.acts b hb)

      ours : (b : ℕ) → b < K.nacts → K.task b ≡ t → T (fine_act K b z (put b (act_at s b)))
      ours b hb e = rw (eq-eqb (K.task b) t e) (of_act K b _ _ (listed_fine K b s.date x n r (act_at s b) (fine_in K s S t b hb e) (ap (λ h. held_by h b) free)))

  wait_keeps : (d : ℕ) → wait_refusal K s d ≡ 0 → Sound K (wait_next K s d)
  unfolding room_for
  wait_keeps d ok = record {
    shape = wait_shaped K s S.shape d;
    date = g.below;
    tasks = λ t ht.
        subst⁻¹ (λ w. T (fine_task K (s.date + d) t w)) (tasks t ht)
        (of_task K (s.date + d) t _ (timed_fine K s.date t d (task_at s t) (task_at_lem K s S t ht) (leb→le _ _ (each_at timers K.ntasks (and_l (each K.ntasks timers) _ g.room) t ht))));
    acts = λ b hb.
        subst₂ (λ v w. T (fine_act K b v w)) (sym (tasks (K.task b) (F.task b hb))) (sym (anew_acts K F s S older b hb))
        (of_act K b _ _ (clocked_fine K b d (task_at s (K.task b)) (act_at s b) (fine_at K s S b hb) (in_time b hb)));
    pairs = anew_pairs K F s S older (λ b c y. refl) (with_date (s.date + d) (with_tasks (anew K.ntasks late no_task s.tasks) s));
    rest_t = λ t l h. subst⁻¹ (λ w. T (is_fresh_task w)) (anew_past late no_task s.tasks K.ntasks t l) (S.rest_t t l h);
    rest_a = anew_rest K F s S older;
  }
    where
      g : WaitGoes K s d
      g = wait_goes K s d ok

      late : ℕ → Task → Task
      late t = timed d

      older : ℕ → Act → Act
      older b = clocked d

      timers : ℕ → Bool
      timers t = leb ((task_at s t).timer + d) (K.period t)

      codels : ℕ → Bool
      codels c = executes K s c implies leb ((act_at s (K.owner c)).clock + d) (K.limit c)

      tasks : (t : ℕ) → t < K.ntasks → get_or (anew K.ntasks late no_task s.tasks) t no_task ≡ timed d (task_at s t)
      tasks t ht = anew_at late no_task s.tasks K.ntasks t ht (in_tasks K F s S t ht)

      in_time : (b : ℕ) → b < K.nacts → (c : ℕ) → (act_at s b).place ≡ Codel c → T (act_at s b).executing → (act_at s b).clock + d ≤ K.limit c
      in_time b hb c p e =
          let y = act_at s b in
          let w = executing_at K s S b hb e in
          let q : w.codel ≡ c = cc (w.place, p) in
          let u : T (runs y w.codel implies leb (y.clock + d) (K.limit w.codel)) = subst (λ b. T (runs (act_at s b) w.codel implies leb ((act_at s b).clock + d) (K.limit w.codel))) w.owner (each_at codels K.ncodels (and_r (each K.ntasks timers) _ g.room) w.codel w.in_k) in
          subst (λ c. y.clock + d ≤ K.limit c) q (leb→le _ _ (imp_e (runs y w.codel) _ u (and_i y.executing _ e (subst⁻¹ (λ p. T (is_codel p w.codel)) w.place (eqb_refl w.codel)))))

  -- every accepted step keeps a state sound
  pub step_keeps : (x : Step) → refusal K s x ≡ 0 → Sound K (next K s x)
  unfolding refusal next
  step_keeps (Wait d) ok = wait_keeps d ok
  step_keeps (Sm t n r) ok = sm_keeps t n r ok
  step_keeps (OfTask t St) ok = st_keeps t ok
  step_keeps (OfTask t Fm) ok = fm_keeps t ok
  step_keeps (OfAct a (Lm t)) ok = lm_keeps t a ok
  step_keeps (OfAct a Ia) ok = ia_keeps a ok
  step_keeps (OfAct a (Ea Ether)) ok = S
  step_keeps (OfAct a (Ea (Codel c))) ok = ea_keeps a c ok
  step_keeps (OfAct a Cx) ok = cx_keeps a ok
  step_keeps (OfAct a (Fa p)) ok = fa_keeps a p ok

-- every accepted sequence of steps leads from a sound state to a sound one
pub reached_sound : (K : Table) → Formed K → (xs : List Step) (s : State) → Sound K s → T (all_accepted K s xs) → Sound K (reached K s xs)
unfolding all_accepted reached
reached_sound K F [] s S ok = S
reached_sound K F (x ∷ xs) s S ok = let now = and_both (accepted (refusal K s x)) _ ok in reached_sound K F xs (next K s x) (step_keeps K F s S x (eqb→eq _ _ now.0)) now.1

-- steps in two parts: the second is accepted from the state that the first reaches
pub parts_reached : (K : Table) (ys zs : List Step) (s : State) → reached K s (ys ++ zs) ≡ reached K (reached K s ys) zs
unfolding reached
parts_reached K [] zs s = refl
parts_reached K (y ∷ ys) zs s = parts_reached K ys zs (next K s y)

pub parts_accepted : (K : Table) (ys zs : List Step) (s : State) → T (all_accepted K s (ys ++ zs)) → T (all_accepted K s ys) × T (all_accepted K (reached K s ys) zs)
unfolding all_accepted reached
parts_accepted K [] zs s ok = (tt, ok)
parts_accepted K (y ∷ ys) zs s ok =
    let now = and_both (accepted (refusal K s y)) _ ok in
    let rest = parts_accepted K ys zs (next K s y) now.1 in
    (and_i (accepted (refusal K s y)) _ now.0 rest.0, rest.1)
