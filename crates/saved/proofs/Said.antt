-- The state that values say: of a sound state's values it is that state, and zeros behind the values do not change it.
use Prim.Native.Nat.{ℕ, zero, suc, ◌+◌, ◌-◌, ◌≤◌, ◌<◌}
use mathlib.Core.Path.{◌≡◌, refl, sym, ap, ◌∙◌}
use mathlib.Core.Logic.{⊎_elim}
use mathlib.Core.Bool.{Bool, true, false, not}
use mathlib.Core.List.{List, ◌++◌}
use native.Mathlib.Omega.{arith}
use lib.ListN.{length, get_or, set, replicate, drop, length-set, length-replicate, get_or-replicate, get_or-append, get_or-eq_default}
use lib.Seq.{sets, sets-eq, ext_get_or, get_or-append-add, get_or-drop, get_or-set_same, get_or-set_other}
use lib.Dec.{T, eqb, eqb→eq}
use borrow.Author.Tests.{lt-ltb, eq-eqb, ne_eqb, not-true}
use Rattle.text.specs.Set.{member}
use Rattle.text.specs.declared.Set.{Set}
use Rattle.text.proofs.Picks.{order}
use Rattle.model.specs.Tests.{◌and◌, one, sum}
use Rattle.model.specs.Limits.{most_tasks, most_acts}
use Rattle.model.specs.Tables.{Table, is_ether}
use Rattle.model.specs.Rows.{wellformed}
use Rattle.model.specs.States.{no_task, no_act, fresh, task_at, act_at, by_manager}
use Rattle.model.specs.Records.{with_timer, with_signal, with_managing, with_holder, with_place, in_lists}
use Rattle.model.specs.Sound.{is_fresh_task, is_fresh_act, sound}
use Rattle.model.specs.declared.Task.{Task}
use Rattle.model.specs.declared.Act.{Act}
use Rattle.model.specs.declared.State.{State}
use Rattle.model.specs.declared.Place.{Place}
use Rattle.model.specs.declared.Place.TheVariants.{Ether, Codel}
use Rattle.model.specs.declared.Holder.{Holder}
use Rattle.model.specs.declared.Holder.TheVariants.{Manager, Activity}
use Rattle.table.proofs.Tests.{each_same}
use Rattle.model.proofs.Tests.{T_true, true_T, and_both, last_or}
use Rattle.model.proofs.Formed.{Formed, formed}
use Rattle.model.proofs.Soundness.{Sound, sound_of, manager_is}
use Rattle.fields.specs.Forms.{no_number}
use Rattle.saved.specs.Rows.{task_fields, act_fields, task_place, act_place, run_field, halt_field, most_values, holder_value, place_value, bit_of, run_bits, halt_bits, task_values, act_values, row_values, is_yes, holder_of, place_of, set_at, task_from, act_from, tasks_said, acts_said, state_from, sets_within}
use Rattle.saved.proofs.Bits.{bits_member}
use Rattle.saved.proofs.Values.{task_value, act_value}
use Rattle.saved.proofs.Sayable.{holder_low, place_low}

-- the first n elements are set
abbrev said : {A : Type 0} → (ℕ → A) → ℕ → List A → List A
said f zero l = l
said f (suc i) l = set (said f i l) i (f i)

module _ {A : Type 0} (d : A) (f : ℕ → A) (l : List A) where
  -- as many stay
  said_length : (n : ℕ) → length (said f n l) ≡ length l
  said_length zero = refl
  said_length (suc n) = length-set (said f n l) n (f n) ∙ said_length n

  -- these are as they were set, the others as they were
  said_at : (n i : ℕ) → i < n → n ≤ length l → get_or (said f n l) i d ≡ f i
  said_at zero i h b = absurd (omega arith)
  said_at (suc n) i h b =
      ⊎_elim
      (λ e. ap (λ j. get_or (said f (suc n) l) j d) e ∙ get_or-set_same (said f n l) n (f n) d (omega (arith, said_length n)) ∙ ap f (sym e))
      (λ k. get_or-set_other (said f n l) n i (f n) d (λ e. omega arith) ∙ said_at n i k (omega arith))
      (last_or i n h)

  said_past : (n i : ℕ) → n ≤ i → get_or (said f n l) i d ≡ get_or l i d
  said_past zero i h = refl
  said_past (suc n) i h = get_or-set_other (said f n l) n i (f n) d (λ e. omega arith) ∙ said_past n i (omega arith)

  -- so they make a list that has the same elements
  said_is : (n : ℕ) (xs : List A) → length l ≡ length xs → n ≤ length l → ((i : ℕ) → i < n → f i ≡ get_or xs i d) → ((i : ℕ) → n ≤ i → i < length l → get_or l i d ≡ get_or xs i d) → said f n l ≡ xs
  said_is n xs e b h g =
      ext_get_or d (said f n l) xs (said_length n ∙ e)
      (λ i k. order i n (λ u. said_at n i u b ∙ h i u) (λ u. said_past n i u ∙ g i u (omega (arith, said_length n))))

-- so are the tasks and the activities that values say
tasks_said_lem : (vs : List ℕ) (n : ℕ) (l : List Task) → tasks_said vs n l ≡ said (λ t. task_from vs (task_place t)) n l
unfolding tasks_said
tasks_said_lem vs zero l = refl
tasks_said_lem vs (suc n) l = ap (λ r. set r n (task_from vs (task_place n))) (tasks_said_lem vs n l)

-- the activity a of values
abbrev act_of : Table → List ℕ → ℕ → Act
act_of K vs a = act_from vs (act_place K a) a (set_at vs (task_place (K.task a) + run_field)) (set_at vs (task_place (K.task a) + halt_field))

acts_said_lem : (K : Table) (vs : List ℕ) (n : ℕ) (l : List Act) → acts_said K vs n l ≡ said (act_of K vs) n l
unfolding acts_said
acts_said_lem K vs zero l = refl
acts_said_lem K vs (suc n) l = ap (λ r. set r n (act_of K vs n)) (acts_said_lem K vs n l)

-- a value gives back what it is of
yes_back : (b : Bool) → is_yes (one b) ≡ b
yes_back true = refl
yes_back false = refl

holder_back : (h : Holder) → ((a : ℕ) → h ≡ Activity a → a < no_number) → holder_of (holder_value h) ≡ h
holder_back Manager k = refl
holder_back (Activity a) k = rw (ne_eqb a no_number (λ e. omega (arith, k a refl)))

place_back : (p : Place) → ((c : ℕ) → p ≡ Codel c → c < no_number) → place_of (place_value p) ≡ p
place_back Ether k = refl
place_back (Codel c) k = rw (ne_eqb c no_number (λ e. omega (arith, k c refl)))

-- so do a task's values, an activity's
task_back : (vs : List ℕ) (at n r : ℕ) (x : Task) → ((j : ℕ) → j < task_fields → get_or vs (at + j) 0 ≡ get_or (task_values x n r) j 0) → ((a : ℕ) → x.holder ≡ Activity a → a < no_number) → task_from vs at ≡ x
task_back vs at n r x h k =
    let e : at + 0 ≡ at = omega arith in
    let z : get_or vs at 0 ≡ x.timer = rw e at (h 0 (omega arith)) in
    rw (z, h 1 (omega arith), h 2 (omega arith), h 3 (omega arith), h 6 (omega arith), h 7 (omega arith), h 8 (omega arith), h 9 (omega arith), yes_back x.signal, yes_back x.managing, holder_back x.holder k)

act_back : (vs : List ℕ) (at a : ℕ) (n r : Set) (y : Act) → ((j : ℕ) → j < act_fields → get_or vs (at + j) 0 ≡ get_or (act_values y) j 0) → ((c : ℕ) → y.place ≡ Codel c → c < no_number) → member n a ≡ y.run → member r a ≡ y.halt → act_from vs at a n r ≡ y
act_back vs at a n r y h k f g =
    let e : at + 0 ≡ at = omega arith in
    let z : get_or vs at 0 ≡ place_value y.place = rw e at (h 0 (omega arith)) in
    rw (z, h 1 (omega arith), h 2 (omega arith), yes_back y.executing, place_back y.place k, f, g)

-- a place that is ether
ether_is : (p : Place) → T (is_ether p) → p ≡ Ether
ether_is Ether t = refl
ether_is (Codel c) t = absurd t

-- a row that is fresh is the fresh row
fresh_task : (x : Task) → T (is_fresh_task x) → x ≡ no_task
fresh_task x h =
    let timer = and_both (eqb x.timer 0) _ h in
    let signal = and_both (not x.signal) _ timer.1 in
    let managing = and_both (not x.managing) _ signal.1 in
    let holder = and_both (by_manager x.holder) _ managing.1 in
    let cycle = and_both (eqb x.cycle 0) _ holder.1 in
    let opened = and_both (eqb x.opened 0) _ cycle.1 in
    let missed = and_both (eqb x.missed 0) _ opened.1 in
    let numbers : with_timer x.timer x ≡ with_signal x.signal (with_managing x.managing (with_holder x.holder no_task)) = rw (eqb→eq x.timer 0 timer.0, eqb→eq x.cycle 0 cycle.0, eqb→eq x.opened 0 opened.0, eqb→eq x.missed 0 missed.0, eqb→eq x.longest 0 missed.1) in
    numbers ∙ rw (not-true x.signal (T_true _ signal.0), not-true x.managing (T_true _ managing.0), manager_is x.holder holder.0)

fresh_act : (y : Act) → T (is_fresh_act y) → y ≡ no_act
fresh_act y h =
    let place = and_both (is_ether y.place) _ h in
    let executing = and_both (not y.executing) _ place.1 in
    let clock = and_both (eqb y.clock 0) _ executing.1 in
    let run = and_both (not y.run) _ clock.1 in
    let places : with_place y.place y ≡ in_lists y.run y.halt no_act = rw (ether_is y.place place.0, not-true y.executing (T_true _ executing.0), eqb→eq y.clock 0 clock.0) in
    places ∙ rw (not-true y.run (T_true _ run.0), not-true y.halt (T_true _ run.1))

-- a list in which the same values stand at each place says the same state, and the same of its sets
module _ (K : Table) (us vs : List ℕ) (same : (i : ℕ) → get_or us i 0 ≡ get_or vs i 0) where
  tasks_same : (n : ℕ) (l : List Task) → tasks_said us n l ≡ tasks_said vs n l
  unfolding tasks_said
  tasks_same zero l = refl
  tasks_same (suc n) l =
      let e : task_from us (task_place n) ≡ task_from vs (task_place n) = simp same in
      ap (λ r. set r n (task_from us (task_place n))) (tasks_same n l) ∙ ap (set (tasks_said vs n l) n) e

  acts_same : (n : ℕ) (l : List Act) → acts_said K us n l ≡ acts_said K vs n l
  unfolding acts_said
  acts_same zero l = refl
  acts_same (suc n) l =
      let e : act_of K us n ≡ act_of K vs n = simp same in
      ap (λ r. set r n (act_of K us n)) (acts_same n l) ∙ ap (set (acts_said K vs n l) n) e

  state_same : state_from K us ≡ state_from K vs
  unfolding state_from
  state_same = rw (same 0, tasks_same K.ntasks fresh.tasks, acts_same K.nacts fresh.acts)

  within_same : sets_within K us ≡ sets_within K vs
  unfolding sets_within
  within_same = each_same _ _ K.ntasks (λ t h. simp same)

-- values with zeros behind them have the same values at each place
padded_at : (n : ℕ) (vs : List ℕ) → length vs ≤ n → (i : ℕ) → get_or (sets (replicate n 0) 0 vs) i 0 ≡ get_or vs i 0
padded_at n vs h i =
    ap (λ us. get_or us i 0) (sets-eq vs (replicate n 0) 0 (omega (arith, length-replicate {A = ℕ} n 0)))
    ∙ order i (length vs)
    (λ l. get_or-append vs _ 0 i l)
    (λ l. let e : i ≡ length vs + (i - length vs) = omega arith in
    ap (λ j. get_or (vs ++ drop (0 + length vs) (replicate n 0)) j 0) e
    ∙ get_or-append-add vs _ (i - length vs) 0
    ∙ get_or-drop (0 + length vs) (replicate n 0) (i - length vs) 0
    ∙ zeros n (0 + length vs + (i - length vs))
    ∙ sym (get_or-eq_default vs 0 l))
  where
    zeros : (n i : ℕ) → ◌≡◌ {A = ℕ} (get_or (replicate n 0) i 0) 0
    zeros zero i = refl
    zeros (suc n) zero = refl
    zeros (suc n) (suc i) = zeros n i

-- so they say the same
pub padded_state : (K : Table) (vs : List ℕ) → length vs ≤ most_values → state_from K (sets (replicate most_values 0) 0 vs) ≡ state_from K vs
padded_state K vs h = state_same K _ vs (padded_at most_values vs h)

pub padded_within : (K : Table) (vs : List ℕ) → length vs ≤ most_values → sets_within K (sets (replicate most_values 0) 0 vs) ≡ sets_within K vs
padded_within K vs h = within_same K _ vs (padded_at most_values vs h)

-- of a state under a well-formed table that passes the test of a sound one
module _ (K : Table) (s : State) (wf : wellformed K ≡ true) (ok : T (sound K s)) where
  -- what the table says
  table : Formed K
  table = formed K (true_T _ wf)

  -- a mark of an activity is its place among its task's marks as bits
  mark_back : (mark : ℕ → Bool) (a : ℕ) → a < K.nacts → member (record { low = sum K.nacts (λ b. bit_of (eqb (K.task b) (K.task a) and mark b) b); high = 0 }) a ≡ mark a
  mark_back mark a h = bits_member (λ b. eqb (K.task b) (K.task a) and mark b) K.nacts table.fits.1 a ∙ rw (lt-ltb a K.nacts h, eq-eqb (K.task a) (K.task a) refl)

  -- so its places in N and in R are what the values say
  run_back : (a : ℕ) → a < K.nacts → member (set_at (row_values K s) (task_place (K.task a) + run_field)) a ≡ (act_at s a).run
  unfolding run_bits
  run_back a h = ap (λ v. member (record { low = v; high = 0 }) a) (task_value K s (K.task a) run_field (table.task a h) (omega arith)) ∙ mark_back (λ b. (act_at s b).run) a h

  halt_back : (a : ℕ) → a < K.nacts → member (set_at (row_values K s) (task_place (K.task a) + halt_field)) a ≡ (act_at s a).halt
  unfolding halt_bits
  halt_back a h = ap (λ v. member (record { low = v; high = 0 }) a) (task_value K s (K.task a) halt_field (table.task a h) (omega arith)) ∙ mark_back (λ b. (act_at s b).halt) a h

  -- the state that its values say is that state
  pub state_back : length s.tasks ≡ most_tasks → length s.acts ≡ most_acts → state_from K (row_values K s) ≡ s
  unfolding state_from row_values
  state_back lt la = rw (tasks_back, acts_back)
    where
      whole : Sound K s
      whole = sound_of K s (record { tasks = lt; acts = la }) ok

      tasks_back : tasks_said (row_values K s) K.ntasks fresh.tasks ≡ s.tasks
      tasks_back =
          tasks_said_lem (row_values K s) K.ntasks fresh.tasks
          ∙ said_is no_task (λ t. task_from (row_values K s) (task_place t)) fresh.tasks K.ntasks s.tasks (sym lt) table.fits.0
          (λ t h. task_back (row_values K s) (task_place t) _ _ (task_at s t) (λ j m. task_value K s t j h m) (holder_low K s wf ok t h))
          (λ t l h. get_or-replicate most_tasks t no_task no_task h ∙ sym (fresh_task (task_at s t) (whole.rest_t t l h)))

      acts_back : acts_said K (row_values K s) K.nacts fresh.acts ≡ s.acts
      acts_back =
          acts_said_lem K (row_values K s) K.nacts fresh.acts
          ∙ said_is no_act (act_of K (row_values K s)) fresh.acts K.nacts s.acts (sym la) table.fits.1
          (λ a h. act_back (row_values K s) (act_place K a) a _ _ (act_at s a) (λ j m. act_value K s a j h m) (place_low K s wf ok a h) (run_back a h) (halt_back a h))
          (λ a l h. get_or-replicate most_acts a no_act no_act h ∙ sym (fresh_act (act_at s a) (whole.rest_a a l h)))
