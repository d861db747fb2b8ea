-- Every accepted step but a wait lowers the weight of a sound state, which is at most 6 for each task and each activity.
use mathlib.Core.Bool.{Bool, true, false, not, cond}
use mathlib.Core.Path.{◌≡◌, refl, ap, subst, subst⁻¹, ◌∙◌}
use mathlib.Core.List.{List}
use Prim.Native.Nat.{ℕ, ◌+◌, ◌*◌, ◌≤◌, ◌<◌}
use native.Mathlib.Omega.{arith}
use native.Mathlib.Nat.{le_refl}
use borrow.Author.Tests.{eq-eqb, ne_eqb}
use lib.Dec.{T, leb, eqb, le→leb, lit≤, T_not}
use lib.ListN.{length, get_or, set}
use lib.Seq.{get_or-set_same}
use Rattle.text.specs.declared.Set.{Set}
use Rattle.model.specs.Tests.{◌and◌, ◌or◌, one, sum}
use Rattle.model.specs.Tables.{Table, is_ether, safe}
use Rattle.model.specs.States.{no_task, no_act, task_at, act_at, by_manager, held_by, holds, stands}
use Rattle.model.specs.Records.{with_acts}
use Rattle.model.specs.Rules.{entered, rested, held, put_task, put_both, anew, st_refusal, signalled, st_next, sm_refusal, managed, listed, sm_next, lm_refusal, again, lm_next, ia_refusal, stop_of, out_of_r, ia_to, ia_next, ea_allowed, ea_refusal, ea_next, cx_refusal, begun, cx_next, fa_refusal, fa_next, fm_refusal, closed, fm_next, refusal, next}
use Rattle.model.specs.Logs.{is_wait}
use Rattle.model.specs.Weight.{rounds, weight_task, left_at, left, weight_act, task_sum, act_sum, weight}
use Rattle.model.specs.declared.Task.{Task}
use Rattle.model.specs.declared.Act.{Act}
use Rattle.model.specs.declared.State.{State}
use Rattle.model.specs.declared.Place.{Place}
use Rattle.model.specs.declared.Place.TheVariants.{Ether, Codel}
use Rattle.model.specs.declared.Holder.TheVariants.{Manager, Activity}
use Rattle.model.specs.declared.TaskStep.TheVariants.{St, Fm}
use Rattle.model.specs.declared.ActStep.TheVariants.{Lm, Ia, Ea, Cx, Fa}
use Rattle.model.specs.declared.Step.{Step}
use Rattle.model.specs.declared.Step.TheVariants.{Wait, Sm, OfTask, OfAct}
use Rattle.model.proofs.Tests.{T_true, T_false, and_i, and_l, and_r, and_both, or_l, or_r}
use Rattle.model.proofs.Rows.{set_cases}
use Rattle.model.proofs.Formed.{Formed}
use Rattle.model.proofs.Soundness.{Sound, held_is, manager_is}
use Rattle.model.proofs.Accepted.{st_goes, sm_goes, lm_goes, ia_goes, ea_goes, cx_goes, fa_goes, fm_goes}
use Rattle.model.proofs.Frames.{Handed, handed_to, given_back, held_on, held_longer, in_tasks, in_acts, anew_acts}
use Rattle.model.proofs.Sums.{sum_le, sum_bound, sum_swap}

-- a test counts for 0 or 1
one_le : (b : Bool) → one b ≤ 1
one_le true = lit≤ tt
one_le false = lit≤ tt

one_T : (b : Bool) → T b → one b ≡ 1
one_T b t = ap one (T_true b t)

-- a managing manager that holds
abbrev manages : Task → ℕ
manages x = one (x.managing and by_manager x.holder)

-- of two numbers, each at most a third
cond_le : (b : Bool) (m n k : ℕ) → m ≤ k → n ≤ k → cond b m n ≤ k
cond_le true m n k h i = h
cond_le false m n k h i = i

-- an activity a, whose record is y and whose task's record is x
module _ (a : ℕ) (x : Task) (y : Act) where
  -- none has more than 2 left
  left_le : left a x y ≤ 2
  left_le = cond_le (held_by x.holder a) (cond y.halt 2 (left_at y y.place)) _ 2 (cond_le y.halt 2 (left_at y y.place) 2 (lit≤ tt) (at y.place)) (omega (arith, one_le (y.run or y.halt)))
    where
      at : (p : Place) → left_at y p ≤ 2
      at Ether = lit≤ tt
      at (Codel c) = cond_le y.executing (2 * one (leb 1 y.clock)) 1 2 (omega (arith, one_le (leb 1 y.clock))) (lit≤ tt)

  -- one that holds
  module _ (h : T (held_by x.holder a)) where
    -- in R, at ether, or executing since a tick it has 2 left
    left_two : T (y.halt or is_ether y.place or (y.executing and leb 1 y.clock)) → left a x y ≡ 2
    left_two w = rw (T_true (held_by x.holder a) h) (at y.halt y.place w)
      where
        at : (l : Bool) (p : Place) → T (l or is_ether p or (y.executing and leb 1 y.clock)) → cond l 2 (left_at y p) ≡ 2
        at true p w = refl
        at false Ether w = refl
        at false (Codel c) w = let e = and_both y.executing _ w in rw (T_true y.executing e.0, T_true (leb 1 y.clock) e.1)

    -- `ea` may move it: it has 2 left
    ea_left : (K : Table) (c : ℕ) → T (ea_allowed K y a c y.place) → T (is_ether y.place or leb 1 y.clock) → left a x y ≡ 2
    ea_left K c v w = left_two (or_r y.halt _ (at y.place v w))
      where
        at : (p : Place) → T (ea_allowed K y a c p) → T (is_ether p or leb 1 y.clock) → T (is_ether p or (y.executing and leb 1 y.clock))
        at Ether v w = tt
        at (Codel d) v w = and_i y.executing _ (and_l y.executing _ v) w

    -- not in R
    module _ (n : T (not y.halt)) where
      -- what it has left is told by its place
      running : (z : Act) → z.halt ≡ y.halt → left a x z ≡ left_at z z.place
      running z e = at (held_by x.holder a) z.halt h (subst⁻¹ (λ l. T (not l)) e n)
        where
          at : (h l : Bool) → T h → T (not l) → cond h (cond l 2 (left_at z z.place)) (2 * one (z.run or z.halt)) ≡ left_at z z.place
          at true false h n = refl
          at true true h n = absurd n
          at false l h n = absurd h

      -- entering a codel it has at most 1 left
      enter_left : (K : Table) (c : ℕ) → left a x (entered K c y) ≤ 1
      enter_left K c = omega (arith, running (entered K c y) refl, cond_le (safe K c) 0 1 1 (lit≤ tt) (lit≤ tt))

      -- where it stood it has less left when it executes
      cx_left : (K : Table) → T (stands K y y.place) → left a x (begun y) + 1 ≤ left a x y
      cx_left K w = omega (arith, running (begun y) refl, running y refl, at y.place w)
        where
          at : (p : Place) → T (stands K y p) → left_at (begun y) p + 1 ≤ left_at y p
          at Ether w = absurd w
          at (Codel c) w = rw (T_false y.executing (T_not y.executing (and_r (not (safe K c)) _ w))) (lit≤ tt)

-- at most 6 for each task and 6 for each activity
pub weight_bound : (K : Table) (s : State) → weight K s ≤ K.ntasks * 6 + K.nacts * 6
unfolding task_sum act_sum
weight_bound K s =
    let u = sum_bound K.ntasks 6 (λ t. weight_task (K.period t) (task_at s t)) (λ t h. let x = task_at s t in omega (arith, one_le x.signal, one_le (eqb x.timer (K.period t)), one_le (x.managing and by_manager x.holder))) in
    let v = sum_bound K.nacts 6 (λ a. weight_act (K.period (K.task a)) a (task_at s (K.task a)) (act_at s a)) (λ a h. let x = task_at s (K.task a) in let y = act_at s a in omega (arith, one_le x.signal, one_le (eqb x.timer (K.period (K.task a))), left_le a x y)) in
    omega arith

module _ (K : Table) (F : Formed K) (s : State) (S : Sound K s) where
  -- one task's record anew
  module _ (t : ℕ) (ht : t < K.ntasks) (x : Task) where
    -- only its own summand changes
    task_swap : (l : List Act) → task_sum K (with_acts l (put_task s t x)) + weight_task (K.period t) (task_at s t) ≤ task_sum K s + weight_task (K.period t) x
    unfolding task_sum
    task_swap l =
        let f : ℕ → ℕ = λ u. weight_task (K.period u) (get_or (set s.tasks t x) u no_task) in
        let g : ℕ → ℕ = λ u. weight_task (K.period u) (task_at s u) in
        let w = sum_swap K.ntasks t f g ht (λ u l n. set_cases (λ w. weight_task (K.period u) w ≤ g u) s.tasks t x no_task u (in_tasks K F s S t ht) (λ e. absurd (n e)) (λ m. le_refl _)) in
        subst (λ w. sum K.ntasks f + g t ≤ sum K.ntasks g + weight_task (K.period t) w) (get_or-set_same s.tasks t x no_task (in_tasks K F s S t ht)) w

    -- the task weighs less, its activities not more, and the others are as they were
    falls_wide : (l : List Act) → weight_task (K.period t) x + 1 ≤ weight_task (K.period t) (task_at s t)
        → ((b : ℕ) → b < K.nacts → K.task b ≡ t → weight_act (K.period t) b x (get_or l b no_act) ≤ weight_act (K.period t) b (task_at s t) (act_at s b))
        → ((b : ℕ) → b < K.nacts → (K.task b ≡ t → ⊥) → get_or l b no_act ≡ act_at s b)
        → weight K (with_acts l (put_task s t x)) + 1 ≤ weight K s
    unfolding act_sum
    falls_wide l d ours theirs =
        let p : ℕ → ℕ = λ b. weight_act (K.period (K.task b)) b (get_or (set s.tasks t x) (K.task b) no_task) (get_or l b no_act) in
        let q : ℕ → ℕ = λ b. weight_act (K.period (K.task b)) b (task_at s (K.task b)) (act_at s b) in
        let w : sum K.nacts p ≤ sum K.nacts q = sum_le K.nacts p q (λ b hb. set_cases (λ z. weight_act (K.period (K.task b)) b z (get_or l b no_act) ≤ q b) s.tasks t x no_task (K.task b) (in_tasks K F s S t ht)
        (λ e. subst⁻¹ (λ u. weight_act (K.period u) b x (get_or l b no_act) ≤ weight_act (K.period u) b (task_at s u) (act_at s b)) e (ours b hb e))
        (λ n. subst⁻¹ (λ y. weight_act (K.period (K.task b)) b (task_at s (K.task b)) y ≤ q b) (theirs b hb n) (le_refl _))) in
        total _ _ (sum K.nacts p) (sum K.nacts q) _ _ (task_swap l) w d
      where
        total : (F G P Q f g : ℕ) → F + g ≤ G + f → P ≤ Q → f + 1 ≤ g → F + P + 1 ≤ G + Q
        total F G P Q f g u v d = omega arith

  -- a task handed over, with one of its activities' records: both together weigh less
  module _ (t a : ℕ) (ht : t < K.ntasks) (ha : a < K.nacts) (ta : K.task a ≡ t) (x : Task) (y : Act) where
    falls_both : Handed a (task_at s t) x → manages x + left a x y + 1 ≤ manages (task_at s t) + left a (task_at s t) (act_at s a) → weight K (put_both s t x a y) + 1 ≤ weight K s
    unfolding act_sum
    falls_both hand d =
        let p : ℕ → ℕ = λ b. weight_act (K.period (K.task b)) b (get_or (set s.tasks t x) (K.task b) no_task) (get_or (set s.acts a y) b no_act) in
        let q : ℕ → ℕ = λ b. weight_act (K.period (K.task b)) b (task_at s (K.task b)) (act_at s b) in
        let v : sum K.nacts p + q a ≤ sum K.nacts q + p a = sum_swap K.nacts a p q ha (λ b l n. set_cases (λ w. weight_act (K.period (K.task b)) b (get_or (set s.tasks t x) (K.task b) no_task) w ≤ q b) s.acts a y no_act b in_a (λ e. absurd (n e))
        (λ m. set_cases (λ z. weight_act (K.period (K.task b)) b z (act_at s b) ≤ q b) s.tasks t x no_task (K.task b) in_t
        (λ e. subst⁻¹ (λ u. weight_act (K.period u) b x (act_at s b) ≤ weight_act (K.period u) b (task_at s u) (act_at s b)) e (rw (← hand.signal, ← hand.timer, ← hand.others b n) (le_refl _))) (λ o. le_refl _))) in
        let pa : p a ≡ weight_act (K.period t) a x y = ap (λ w. weight_act (K.period (K.task a)) a (get_or (set s.tasks t x) (K.task a) no_task) w) (get_or-set_same s.acts a y no_act in_a) ∙ ap (λ u. weight_act (K.period u) a (get_or (set s.tasks t x) u no_task) y) ta ∙ ap (λ w. weight_act (K.period t) a w y) (get_or-set_same s.tasks t x no_task in_t) in
        let qa : q a ≡ weight_act (K.period t) a (task_at s t) (act_at s a) = ap (λ u. weight_act (K.period u) a (task_at s u) (act_at s a)) ta in
        let r : rounds (K.period t) (task_at s t) ≡ rounds (K.period t) x = rw (hand.signal, hand.timer) in
        let due : one (eqb (task_at s t).timer (K.period t)) ≡ one (eqb x.timer (K.period t)) = rw hand.timer in
        total _ _ (sum K.nacts p) (sum K.nacts q) _ _ (p a) (q a) _ _ (task_swap t ht x (set s.acts a y)) v pa qa (omega (arith, r, due))
      where
        in_t : t < length s.tasks
        in_t = in_tasks K F s S t ht

        in_a : a < length s.acts
        in_a = in_acts K F s S a ha

        total : (F G P Q f g p q u v : ℕ) → F + g ≤ G + f → P + q ≤ Q + p → p ≡ u → q ≡ v → f + u + 1 ≤ g + v → F + P + 1 ≤ G + Q
        total F G P Q f g p q u v m n e d w = omega arith

  lm_falls : (t a : ℕ) → lm_refusal K s t a ≡ 0 → weight K (lm_next K s t a) + 1 ≤ weight K s
  lm_falls t a ok =
      let g = lm_goes K s t a ok in
      let x = task_at s t in
      let y = act_at s a in
      let y' = again K y.halt y.place y in
      let free : x.holder ≡ Manager = manager_is x.holder g.holds in
      let m : manages x ≡ 1 = one_T (x.managing and by_manager x.holder) (and_i x.managing _ g.managing g.holds) in
      let m' : manages (held (Activity a) 0 x) ≡ 0 = rw (T_true x.managing g.managing) in
      let l : left a x y ≡ 2 = rw (free, T_true (y.run or y.halt) g.listed) in
      falls_both t a g.in_t g.in_a g.task (held (Activity a) 0 x) y' (handed_to a 0 x free) (omega (arith, m, m', l, left_le a (held (Activity a) 0 x) y'))

  -- an activity that holds, and its task
  module _ (a : ℕ) (ha : a < K.nacts) (hh : T (holds K s a)) where
    abbrev x : Task
    x = task_at s (K.task a)

    abbrev y : Act
    y = act_at s a

    -- it gives the task back with 2 left
    give_falls : (k : ℕ) (p : Place) → left a x y ≡ 2 → weight K (put_both s (K.task a) (held Manager k x) a (rested p)) + 1 ≤ weight K s
    give_falls k p l = falls_both (K.task a) a (F.task a ha) ha refl (held Manager k x) (rested p) (given_back a k x (held_is x.holder a hh)) (omega (arith, one_le (x.managing and true), l))

    -- it goes on holding with less left
    go_falls : (z : Task) (w : Act) → Handed a x z → z.holder ≡ x.holder → left a x w + 1 ≤ left a x y → weight K (put_both s (K.task a) z a w) + 1 ≤ weight K s
    go_falls z w hand e d = falls_both (K.task a) a (F.task a ha) ha refl z w hand (rw (← hand.managing, e) (omega arith))

    ia_falls_to : T y.halt → (q : Place) → weight K (ia_to K s a q) + 1 ≤ weight K s
    ia_falls_to l q = go q (left_two a x y hh (or_l y.halt _ l))
      where
        go : (q : Place) → left a x y ≡ 2 → weight K (ia_to K s a q) + 1 ≤ weight K s
        go Ether e = give_falls 0 Ether e
        go (Codel c) e = go_falls x (entered K c (out_of_r y)) (held_on a x) refl (omega (arith, e, enter_left a x (out_of_r y) hh tt K c))

  ia_falls : (a : ℕ) → ia_refusal K s a ≡ 0 → weight K (ia_next K s a) + 1 ≤ weight K s
  ia_falls a ok = let g = ia_goes K s a ok in ia_falls_to a g.in_a g.holds g.in_r (stop_of K a)

  fa_falls : (a : ℕ) (p : Place) → fa_refusal K s a p ≡ 0 → weight K (fa_next K s a p) + 1 ≤ weight K s
  fa_falls a p ok =
      let g = fa_goes K s a p ok in
      let y = act_at s a in
      give_falls a g.in_a g.holds y.clock p (left_two a (task_at s (K.task a)) y g.holds (or_r y.halt _ (or_r (is_ether y.place) _ (and_i y.executing _ g.executing (le→leb _ _ g.clock)))))

  cx_falls : (a : ℕ) → cx_refusal K s a ≡ 0 → weight K (cx_next K s a) + 1 ≤ weight K s
  cx_falls a ok =
      let g = cx_goes K s a ok in
      let x = task_at s (K.task a) in
      let y = act_at s a in
      go_falls a g.in_a g.holds x (begun y) (held_on a x) refl (cx_left a x y g.holds g.not_r K g.stands)

  ea_falls : (a c : ℕ) → ea_refusal K s a (Codel c) ≡ 0 → weight K (ea_next K s a (Codel c)) + 1 ≤ weight K s
  ea_falls a c ok =
      let g = ea_goes K s a c ok in
      let x = task_at s (K.task a) in
      let y = act_at s a in
      go_falls a g.in_a g.holds (held x.holder y.clock x) (entered K c y) (held_longer a y.clock x) refl
      (omega (arith, ea_left a x y g.holds K c g.allowed g.clock, enter_left a x y g.holds g.not_r K c))

  st_falls : (t : ℕ) → st_refusal K s t ≡ 0 → weight K (st_next s t) + 1 ≤ weight K s
  st_falls t ok =
      let g = st_goes K s t ok in
      let x = task_at s t in
      let due : one (eqb x.timer (K.period t)) ≡ 1 = ap one (eq-eqb _ _ g.due) in
      let not-due : one (eqb 0 (K.period t)) ≡ 0 = ap one (ne_eqb 0 (K.period t) (λ e. omega (arith, F.period t g.in_t))) in
      falls_wide t g.in_t (signalled x) s.acts (omega arith) (λ b hb e. omega arith) (λ b hb n. refl)

  fm_falls : (t : ℕ) → fm_refusal K s t ≡ 0 → weight K (fm_next s t) + 1 ≤ weight K s
  fm_falls t ok =
      let g = fm_goes K s t ok in
      let x = task_at s t in
      let m : manages x ≡ 1 = one_T (x.managing and by_manager x.holder) (and_i x.managing _ g.managing g.holds) in
      falls_wide t g.in_t (closed x) s.acts (omega arith) (λ b hb e. le_refl _) (λ b hb n. refl)

  sm_falls : (t : ℕ) (n r : Set) → sm_refusal K s t n r ≡ 0 → weight K (sm_next K s t n r) + 1 ≤ weight K s
  sm_falls t n r ok =
      let g = sm_goes K s t n r ok in
      let x = task_at s t in
      let sg : one x.signal ≡ 1 = one_T x.signal g.signal in
      let put : ℕ → Act → Act = λ b. listed (eqb (K.task b) t) n r b in
      falls_wide t g.in_t (managed s.date x) (anew K.nacts put no_act s.acts) (omega (arith, one_le (by_manager x.holder)))
      (λ b hb e. let w = get_or (anew K.nacts put no_act s.acts) b no_act in omega (arith, left_le b (managed s.date x) w))
      (λ b hb e. anew_acts K F s S put b hb ∙ ap (λ z. listed z n r b (act_at s b)) (ne_eqb _ _ e))

  -- every accepted step but a wait lowers the weight
  pub step_falls : (x : Step) → T (not (is_wait x)) → refusal K s x ≡ 0 → weight K (next K s x) + 1 ≤ weight K s
  unfolding refusal next
  step_falls (Wait d) w ok = absurd w
  step_falls (Sm t n r) w ok = sm_falls t n r ok
  step_falls (OfTask t St) w ok = st_falls t ok
  step_falls (OfTask t Fm) w ok = fm_falls t ok
  step_falls (OfAct a (Lm t)) w ok = lm_falls t a ok
  step_falls (OfAct a Ia) w ok = ia_falls a ok
  step_falls (OfAct a (Ea Ether)) w ok = absurd (omega arith)
  step_falls (OfAct a (Ea (Codel c))) w ok = ea_falls a c ok
  step_falls (OfAct a Cx) w ok = cx_falls a ok
  step_falls (OfAct a (Fa p)) w ok = fa_falls a p ok
