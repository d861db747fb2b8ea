-- What a sound state keeps where a task's record, or a task's and one of its activities', or every activity's is written anew.
use mathlib.Core.Bool.{not}
use mathlib.Core.Path.{◌≡◌, refl, ap, sym, subst⁻¹, subst₂, ◌∙◌}
use mathlib.Core.Logic.{◌⊎◌, inl, inr, ⊎_elim}
use Prim.Native.Nat.{ℕ, ◌≤◌, ◌<◌}
use native.Mathlib.Omega.{arith}
use borrow.Author.Tests.{ne_eqb}
use lib.Dec.{T, eqb, eqb_refl, T_not, not_T}
use lib.ListN.{length, get_or, set}
use Rattle.model.specs.Tests.{◌and◌, ◌implies◌}
use Rattle.model.specs.Limits.{most_tasks, most_acts}
use Rattle.model.specs.Tables.{Table, row_clear, safe}
use Rattle.model.specs.States.{no_task, no_act, task_at, act_at, held_by, runs, executes, clear}
use Rattle.model.specs.Records.{with_acts}
use Rattle.model.specs.Rules.{held, put_task, put_both, anew}
use Rattle.model.specs.Sound.{fine_act, fine_task, apart, is_fresh_task, is_fresh_act}
use Rattle.model.specs.declared.Task.{Task}
use Rattle.model.specs.declared.Act.{Act}
use Rattle.model.specs.declared.State.{State}
use Rattle.model.specs.declared.Holder.TheVariants.{Manager, Activity}
use Rattle.model.proofs.Tests.{and_i, and_l, and_r, imp_i, imp_e, each_at, each_mk}
use Rattle.model.proofs.Rows.{set_cases, anew_past, anew_at}
use Rattle.model.proofs.Formed.{Formed}
use Rattle.model.proofs.Soundness.{Sound, FineAct, of_act, FineTask, of_task, fine_in}
use Rattle.model.proofs.Sentences.{fine_same}
use Rattle.model.proofs.Shapes.{task_shaped, both_shaped}

-- z is x but for the holder, among the manager and the activity a, and for what counts a cycle
pub record Handed (a : ℕ) (x z : Task) : Type 0 where
  pub managing : x.managing ≡ z.managing
  pub signal : x.signal ≡ z.signal
  pub timer : x.timer ≡ z.timer
  pub others : (b : ℕ) → (b ≡ a → ⊥) → held_by x.holder b ≡ held_by z.holder b

-- the manager hands the task to a, a gives it back, or a goes on holding it
pub handed_to : (a k : ℕ) (x : Task) → x.holder ≡ Manager → Handed a x (held (Activity a) k x)
handed_to a k x e = record { managing = refl; signal = refl; timer = refl; others = λ b n. rw e (sym (ne_eqb a b (λ q. n (sym q)))) }

pub given_back : (a k : ℕ) (x : Task) → x.holder ≡ Activity a → Handed a x (held Manager k x)
given_back a k x e = record { managing = refl; signal = refl; timer = refl; others = λ b n. rw e (ne_eqb a b (λ q. n (sym q))) }

pub held_on : (a : ℕ) (x : Task) → Handed a x x
held_on a x = record { managing = refl; signal = refl; timer = refl; others = λ b n. refl }

-- so too with a longest clock
pub held_longer : (a k : ℕ) (x : Task) → Handed a x (held x.holder k x)
held_longer a k x = record { managing = refl; signal = refl; timer = refl; others = λ b n. refl }

-- a thread-safe codel is clear of conflicts
pub safe_clear : (K : Table) (s : State) (c : ℕ) → T (safe K c) → T (clear K s c)
unfolding safe clear
safe_clear K s c h = each_mk _ K.nmutex (λ m l.
    let r = K.mutex m in
    let u = each_at (row_clear K c) K.nmutex h m l in
    and_i (eqb r.lo c implies not (executes K s r.hi)) _
    (imp_i (eqb r.lo c) _ (λ e. absurd (T_not (eqb r.lo c) (and_l (not (eqb r.lo c)) _ u) e)))
    (imp_i (eqb r.hi c) _ (λ e. absurd (T_not (eqb r.hi c) (and_r (not (eqb r.lo c)) _ u) e))))

-- what clear says at one mutex row
clear_row : (K : Table) (s : State) (c m : ℕ) → m < K.nmutex → T (clear K s c) → T ((eqb (K.mutex m).lo c implies not (executes K s (K.mutex m).hi)) and (eqb (K.mutex m).hi c implies not (executes K s (K.mutex m).lo)))
unfolding clear
clear_row K s c m h t = each_at _ K.nmutex t m h

module _ (K : Table) (F : Formed K) (s : State) (S : Sound K s) where
  -- a row of the table has its row in the state
  pub in_tasks : (t : ℕ) → t < K.ntasks → t < length s.tasks
  in_tasks t h = omega (arith, F.fits.0, S.shape.tasks)

  pub in_acts : (a : ℕ) → a < K.nacts → a < length s.acts
  in_acts a h = omega (arith, F.fits.1, S.shape.acts)

  -- one task's record anew: the tasks' rows, and those past the count
  module _ (t : ℕ) (ht : t < K.ntasks) (x : Task) where
    pub set_tasks : FineTask K s.date t x → (u : ℕ) → u < K.ntasks → T (fine_task K s.date u (get_or (set s.tasks t x) u no_task))
    set_tasks fx u hu = set_cases (λ w. T (fine_task K s.date u w)) s.tasks t x no_task u (in_tasks t ht) (λ e. subst⁻¹ (λ v. T (fine_task K s.date v x)) e (of_task K s.date t x fx)) (λ n. S.tasks u hu)

    pub set_past : (u : ℕ) → K.ntasks ≤ u → u < most_tasks → T (is_fresh_task (get_or (set s.tasks t x) u no_task))
    set_past u l h = set_cases (λ w. T (is_fresh_task w)) s.tasks t x no_task u (in_tasks t ht) (λ e. absurd (omega arith)) (λ n. S.rest_t u l h)

    -- a task's record alone, where its activities' sentences go on holding
    pub keep_task : FineTask K s.date t x → ((b : ℕ) → b < K.nacts → K.task b ≡ t → FineAct K b x (act_at s b)) → Sound K (put_task s t x)
    keep_task fx own = record {
      shape = task_shaped s S.shape t x;
      date = S.date;
      tasks = set_tasks fx;
      acts = λ b hb. set_cases (λ z. T (fine_act K b z (act_at s b))) s.tasks t x no_task (K.task b) (in_tasks t ht) (λ e. of_act K b x (act_at s b) (own b hb e)) (λ n. S.acts b hb);
      pairs = S.pairs;
      rest_t = set_past;
      rest_a = S.rest_a;
    }

  -- a task's and one of its activities' records anew
  module _ (t a : ℕ) (ht : t < K.ntasks) (ha : a < K.nacts) (ta : K.task a ≡ t) (x : Task) (y : Act) where
    abbrev after : State
    after = put_both s t x a y

    -- what executes afterwards executed before, or is the activity's own and clear of conflicts
    was : ((c : ℕ) → T (runs y c) → T (runs (act_at s a) c) ⊎ T (clear K s c)) → (c : ℕ) → T (executes K after c) → T (executes K s c) ⊎ ((K.owner c ≡ a) × T (clear K s c))
    was new c = set_cases (λ w. T (runs w c) → T (executes K s c) ⊎ ((K.owner c ≡ a) × T (clear K s c))) s.acts a y no_act (K.owner c) (in_acts a ha)
        (λ e v. ⊎_elim (λ r. inl (subst⁻¹ (λ b. T (runs (act_at s b) c)) e r)) (λ k. inr (e, k)) (new c v))
        (λ n v. inl v)

    -- the state stays sound where the new records have their sentences and what begins to execute is clear of conflicts
    pub keep_both : Handed a (task_at s t) x → FineTask K s.date t x → FineAct K a x y → ((c : ℕ) → T (runs y c) → T (runs (act_at s a) c) ⊎ T (clear K s c)) → Sound K after
    keep_both hand fx fy new = record {
      shape = both_shaped s S.shape t x a y;
      date = S.date;
      tasks = set_tasks t ht x fx;
      acts = λ b hb. set_cases (λ w. T (fine_act K b (task_at after (K.task b)) w)) s.acts a y no_act b (in_acts a ha)
          (λ e. set_cases (λ z. T (fine_act K b z y)) s.tasks t x no_task (K.task b) (in_tasks t ht) (λ q. subst⁻¹ (λ v. T (fine_act K v x y)) e (of_act K a x y fy)) (λ n. absurd (n (ap K.task e ∙ ta))))
          (λ n. set_cases (λ z. T (fine_act K b z (act_at s b))) s.tasks t x no_task (K.task b) (in_tasks t ht)
          (λ q. of_act K b x (act_at s b) (fine_same K b (task_at s t) x (act_at s b) hand.managing (hand.others b n) (fine_in K s S t b hb q)))
          (λ m. S.acts b hb));
      pairs = λ m hm. not_T (executes K after (lo m) and executes K after (hi m)) (λ both.
          pair m hm (was new (lo m) (and_l (executes K after (lo m)) _ both)) (was new (hi m) (and_r (executes K after (lo m)) _ both)));
      rest_t = set_past t ht x;
      rest_a = λ b l h. set_cases (λ w. T (is_fresh_act w)) s.acts a y no_act b (in_acts a ha) (λ e. absurd (omega arith)) (λ n. S.rest_a b l h);
    }
      where
        lo : ℕ → ℕ
        lo m = (K.mutex m).lo

        hi : ℕ → ℕ
        hi m = (K.mutex m).hi

        pair : (m : ℕ) → m < K.nmutex → T (executes K s (lo m)) ⊎ ((K.owner (lo m) ≡ a) × T (clear K s (lo m))) → T (executes K s (hi m)) ⊎ ((K.owner (hi m) ≡ a) × T (clear K s (hi m))) → ⊥
        pair m hm (inl u) (inl v) = T_not (executes K s (lo m) and executes K s (hi m)) (S.pairs m hm) (and_i (executes K s (lo m)) _ u v)
        pair m hm (inl u) (inr k) = T_not (executes K s (lo m)) (imp_e (eqb (hi m) (hi m)) _ (and_r (eqb (lo m) (hi m) implies not (executes K s (hi m))) _ (clear_row K s (hi m) m hm k.1)) (eqb_refl (hi m))) u
        pair m hm (inr k) (inl v) = T_not (executes K s (hi m)) (imp_e (eqb (lo m) (lo m)) _ (and_l (eqb (lo m) (lo m) implies not (executes K s (hi m))) _ (clear_row K s (lo m) m hm k.1)) (eqb_refl (lo m))) v
        pair m hm (inr k) (inr j) = F.two_tasks m hm (ap K.task (k.0 ∙ sym j.0))

  -- every activity's record anew
  module _ (f : ℕ → Act → Act) where
    -- the new record of an activity
    pub anew_acts : (b : ℕ) → b < K.nacts → get_or (anew K.nacts f no_act s.acts) b no_act ≡ f b (act_at s b)
    anew_acts b hb = anew_at f no_act s.acts K.nacts b hb (in_acts b hb)

    -- where none begins or ends to execute, the pairs stay apart
    pub anew_pairs : ((b c : ℕ) (y : Act) → runs (f b y) c ≡ runs y c) → (z : State) (m : ℕ) → m < K.nmutex → T (apart K (with_acts (anew K.nacts f no_act s.acts) z) m)
    anew_pairs same z m hm = subst₂ (λ u v. T (not (u and v))) (sym (at (K.mutex m).lo (F.mutex m hm).0)) (sym (at (K.mutex m).hi (F.mutex m hm).1)) (S.pairs m hm)
      where
        at : (c : ℕ) → c < K.ncodels → runs (get_or (anew K.nacts f no_act s.acts) (K.owner c) no_act) c ≡ executes K s c
        at c hc = ap (λ w. runs w c) (anew_acts (K.owner c) (F.owner c hc)) ∙ same (K.owner c) c (act_at s (K.owner c))

    -- the rows past the count stay fresh
    pub anew_rest : (b : ℕ) → K.nacts ≤ b → b < most_acts → T (is_fresh_act (get_or (anew K.nacts f no_act s.acts) b no_act))
    anew_rest b l h = subst⁻¹ (λ w. T (is_fresh_act w)) (anew_past f no_act s.acts K.nacts b l) (S.rest_a b l h)
