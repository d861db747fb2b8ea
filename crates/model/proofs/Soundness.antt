-- The sound state, sentence by sentence: the test and the record agree, the fresh state is sound, and what executes in a sound state.
use mathlib.Core.Bool.{Bool, not}
use mathlib.Core.Path.{◌≡◌, refl, ap, subst, subst⁻¹}
use mathlib.Core.Logic.{⊎_elim}
use Prim.Native.Nat.{ℕ, zero, suc, ◌+◌, ◌≤◌, ◌<◌, zero-le}
use lib.Dec.{T, leb, ltb, leb→le, le→leb, ltb→lt, eqb→eq, lit≤, T_not}
use lib.ListN.{length, get_or, replicate}
use Rattle.model.specs.Tests.{◌and◌, ◌implies◌, each}
use Rattle.model.specs.Limits.{most_tasks, most_acts, most_ticks, ceiling}
use Rattle.model.specs.Tables.{Table, is_ether}
use Rattle.model.specs.States.{no_task, no_act, fresh, task_at, act_at, by_manager, held_by}
use Rattle.model.specs.Sound.{at_own, sets_while_managing, may_rest, rests_unless_running, listed_at_ether, still_at_ether, executes_when_safe, clock_ok, fine_act, timer_ok, holder_ok, waiting_ok, cycles_asked, counts_ok, missed_ok, longest_ok, fine_task, apart, is_fresh_task, is_fresh_act, sound}
use Rattle.model.specs.declared.Task.{Task}
use Rattle.model.specs.declared.Act.{Act}
use Rattle.model.specs.declared.State.{State}
use Rattle.model.specs.declared.Place.{Place}
use Rattle.model.specs.declared.Place.TheVariants.{Ether, Codel}
use Rattle.model.specs.declared.Holder.{Holder}
use Rattle.model.specs.declared.Holder.TheVariants.{Manager, Activity}
use Rattle.model.proofs.Tests.{T_true, yes_or_no, and_i, and_r, and_both, imp_i, imp_e, each_at, each_mk}

-- a state has as many rows as the code's arrays
pub record Shaped (s : State) : Type 0 where
  pub tasks : length s.tasks ≡ most_tasks
  pub acts : length s.acts ≡ most_acts

-- a sound state, sentence by sentence
pub record Sound (K : Table) (s : State) : Type 0 where
  pub shape : Shaped s
  pub date : s.date ≤ ceiling
  pub tasks : (t : ℕ) → t < K.ntasks → T (fine_task K s.date t (task_at s t))
  pub acts : (a : ℕ) → a < K.nacts → T (fine_act K a (task_at s (K.task a)) (act_at s a))
  pub pairs : (m : ℕ) → m < K.nmutex → T (apart K s m)
  pub rest_t : (t : ℕ) → K.ntasks ≤ t → t < most_tasks → T (is_fresh_task (task_at s t))
  pub rest_a : (a : ℕ) → K.nacts ≤ a → a < most_acts → T (is_fresh_act (act_at s a))

-- a state of that shape that passes the test is sound by the record
pub sound_of : (K : Table) (s : State) → Shaped s → T (sound K s) → Sound K s
unfolding sound
sound_of K s h t =
    let date = and_both (leb s.date ceiling) _ t in
    let tasks = and_both (each K.ntasks (λ t. fine_task K s.date t (task_at s t))) _ date.1 in
    let acts = and_both (each K.nacts (λ a. fine_act K a (task_at s (K.task a)) (act_at s a))) _ tasks.1 in
    let pairs = and_both (each K.nmutex (apart K s)) _ acts.1 in
    let rest = and_both (each most_tasks (λ t. leb K.ntasks t implies is_fresh_task (task_at s t))) _ pairs.1 in
    record {
      shape = h;
      date = leb→le _ _ date.0;
      tasks = each_at (λ t. fine_task K s.date t (task_at s t)) K.ntasks tasks.0;
      acts = each_at (λ a. fine_act K a (task_at s (K.task a)) (act_at s a)) K.nacts acts.0;
      pairs = each_at (apart K s) K.nmutex pairs.0;
      rest_t = past K.ntasks most_tasks (λ t. is_fresh_task (task_at s t)) rest.0;
      rest_a = past K.nacts most_acts (λ a. is_fresh_act (act_at s a)) rest.1;
    }
  where
    past : (n m : ℕ) (p : ℕ → Bool) → T (each m (λ i. leb n i implies p i)) → (i : ℕ) → n ≤ i → i < m → T (p i)
    past n m p t i l h = imp_e (leb n i) _ (each_at (λ i. leb n i implies p i) m t i h) (le→leb n i l)

-- and a state that is sound by the record passes the test
pub of_sound : (K : Table) (s : State) → Sound K s → T (sound K s)
unfolding sound
of_sound K s S =
    and_i (leb s.date ceiling) _ (le→leb _ _ S.date)
    (and_i (each K.ntasks (λ t. fine_task K s.date t (task_at s t))) _ (each_mk _ K.ntasks S.tasks)
    (and_i (each K.nacts (λ a. fine_act K a (task_at s (K.task a)) (act_at s a))) _ (each_mk _ K.nacts S.acts)
    (and_i (each K.nmutex (apart K s)) _ (each_mk (apart K s) K.nmutex S.pairs)
    (and_i (each most_tasks (λ t. leb K.ntasks t implies is_fresh_task (task_at s t))) _ (past K.ntasks most_tasks (λ t. is_fresh_task (task_at s t)) S.rest_t) (past K.nacts most_acts (λ a. is_fresh_act (act_at s a)) S.rest_a)))))
  where
    past : (n m : ℕ) (p : ℕ → Bool) → ((i : ℕ) → n ≤ i → i < m → T (p i)) → T (each m (λ i. leb n i implies p i))
    past n m p h = each_mk (λ i. leb n i implies p i) m (λ i l. imp_i (leb n i) (p i) (λ t. h i (leb→le n i t) l))

same_row : {A : Type 0} (n i : ℕ) (d : A) → get_or (replicate n d) i d ≡ d
same_row zero i d = refl
same_row (suc n) zero d = refl
same_row (suc n) (suc i) d = same_row n i d

-- the rows of the fresh state, also past the last
pub fresh_task : (t : ℕ) → task_at fresh t ≡ no_task
fresh_task t = same_row most_tasks t no_task

fresh_act : (a : ℕ) → act_at fresh a ≡ no_act
fresh_act a = same_row most_acts a no_act

-- the fresh state has that shape, and is sound under every table
pub fresh_shaped : Shaped fresh
fresh_shaped = record { tasks = refl; acts = refl }

pub start_sound : (K : Table) → Sound K fresh
start_sound K = record {
  shape = fresh_shaped;
  date = lit≤ tt;
  tasks = λ t h. subst⁻¹ (λ x. T (fine_task K 0 t x)) (fresh_task t) (and_i (leb 0 (K.period t)) _ (le→leb 0 (K.period t) zero-le) tt);
  acts = λ a h. rw (fresh_task (K.task a), fresh_act a) tt;
  pairs = λ m h. rw (fresh_act (K.owner (K.mutex m).lo)) tt;
  rest_t = λ t l h. rw (fresh_task t) tt;
  rest_a = λ a l h. rw (fresh_act a) tt;
}

pub fresh_sound : (K : Table) → T (sound K fresh)
fresh_sound K = of_sound K fresh (start_sound K)

-- the sentences of an activity a, whose record is y and whose task's record is x, by name
pub record FineAct (K : Table) (a : ℕ) (x : Task) (y : Act) : Type 0 where
  pub own : T (at_own K a y.place)
  pub sets : T (sets_while_managing x y)
  pub rests : T (rests_unless_running K a x y)
  pub listed : T (listed_at_ether a x y)
  pub still : T (still_at_ether y)
  pub runs : T (executes_when_safe K a x y)
  pub clock : T (clock_ok K y)

module _ (K : Table) (a : ℕ) (x : Task) (y : Act) where
  pub act_of_lem : T (fine_act K a x y) → FineAct K a x y
  act_of_lem t =
      let own = and_both (at_own K a y.place) _ t in
      let sets = and_both (sets_while_managing x y) _ own.1 in
      let rests = and_both (rests_unless_running K a x y) _ sets.1 in
      let listed = and_both (listed_at_ether a x y) _ rests.1 in
      let still = and_both (still_at_ether y) _ listed.1 in
      let runs = and_both (executes_when_safe K a x y) _ still.1 in
      record { own = own.0; sets = sets.0; rests = rests.0; listed = listed.0; still = still.0; runs = runs.0; clock = runs.1 }

  pub of_act : FineAct K a x y → T (fine_act K a x y)
  of_act f =
      and_i (at_own K a y.place) _ f.own
      (and_i (sets_while_managing x y) _ f.sets
      (and_i (rests_unless_running K a x y) _ f.rests
      (and_i (listed_at_ether a x y) _ f.listed
      (and_i (still_at_ether y) _ f.still
      (and_i (executes_when_safe K a x y) _ f.runs
      f.clock)))))

-- a task's sentences, by name
pub record FineTask (K : Table) (date t : ℕ) (x : Task) : Type 0 where
  pub timer : x.timer ≤ K.period t
  pub holder : T (holder_ok K t x.holder)
  pub waits : T (waiting_ok x)
  pub counts : x.timer + cycles_asked x ≤ date
  pub missed : x.timer + x.missed ≤ date
  pub longest : x.longest ≤ most_ticks
  pub opened : x.opened ≤ date

module _ (K : Table) (date t : ℕ) (x : Task) where
  pub task_of : T (fine_task K date t x) → FineTask K date t x
  task_of w =
      let timer = and_both (timer_ok K t x) _ w in
      let holder = and_both (holder_ok K t x.holder) _ timer.1 in
      let waits = and_both (waiting_ok x) _ holder.1 in
      let counts = and_both (counts_ok date x) _ waits.1 in
      let missed = and_both (missed_ok date x) _ counts.1 in
      let longest = and_both (longest_ok x) _ missed.1 in
      record { timer = leb→le _ _ timer.0; holder = holder.0; waits = waits.0; counts = leb→le _ _ counts.0; missed = leb→le _ _ missed.0; longest = leb→le _ _ longest.0; opened = leb→le _ _ longest.1 }

  pub of_task : FineTask K date t x → T (fine_task K date t x)
  of_task f =
      and_i (timer_ok K t x) _ (le→leb _ _ f.timer)
      (and_i (holder_ok K t x.holder) _ f.holder
      (and_i (waiting_ok x) _ f.waits
      (and_i (counts_ok date x) _ (le→leb _ _ f.counts)
      (and_i (missed_ok date x) _ (le→leb _ _ f.missed)
      (and_i (longest_ok x) _ (le→leb _ _ f.longest)
      (le→leb _ _ f.opened))))))

-- who holds
pub held_is : (h : Holder) (a : ℕ) → T (held_by h a) → h ≡ Activity a
held_is Manager a t = absurd t
held_is (Activity b) a t = ap Activity (eqb→eq b a t)

pub manager_is : (h : Holder) → T (by_manager h) → h ≡ Manager
manager_is Manager t = refl
manager_is (Activity b) t = absurd t

-- where an activity executes: at a codel of its own, within its limit; it holds, and is not in R
pub record Executing (K : Table) (a : ℕ) (x : Task) (y : Act) : Type 0 where
  pub codel : ℕ
  pub place : y.place ≡ Codel codel
  pub in_k : codel < K.ncodels
  pub owner : K.owner codel ≡ a
  pub in_time : y.clock ≤ K.limit codel
  pub holds : T (held_by x.holder a)
  pub not_r : T (not y.halt)

pub executing : (K : Table) (a : ℕ) (x : Task) (y : Act) → FineAct K a x y → T y.executing → Executing K a x y
executing K a x y f e = at y.place refl
  where
    running : T (held_by x.holder a and not y.halt)
    running = ⊎_elim (λ t. t) (λ n. absurd (T_not y.executing (and_r (may_rest K y.place) _ (imp_e (not (held_by x.holder a and not y.halt)) _ f.rests n)) e))
        (yes_or_no (held_by x.holder a and not y.halt))

    at : (p : Place) → y.place ≡ p → Executing K a x y
    at Ether q = absurd (T_not y.executing (imp_e (is_ether y.place) _ f.still (subst⁻¹ (λ p. T (is_ether p)) q tt)) e)
    at (Codel d) q =
        let own = and_both (ltb d K.ncodels) _ (subst (λ p. T (at_own K a p)) q f.own) in
        let hold = and_both (held_by x.holder a) _ running in
        record {
          codel = d;
          place = q;
          in_k = ltb→lt _ _ own.0;
          owner = eqb→eq _ _ own.1;
          in_time = leb→le _ _ (rw (T_true y.executing e, q) at f.clock);
          holds = hold.0;
          not_r = hold.1;
        }

-- the rows of a sound state, and what executes in it
module _ (K : Table) (s : State) (S : Sound K s) where
  pub fine_at : (a : ℕ) → a < K.nacts → FineAct K a (task_at s (K.task a)) (act_at s a)
  fine_at a h = act_of_lem K a _ _ (S.acts a h)

  pub task_at_lem : (t : ℕ) → t < K.ntasks → FineTask K s.date t (task_at s t)
  task_at_lem t h = task_of K s.date t (task_at s t) (S.tasks t h)

  -- an activity of the task t
  pub fine_in : (t a : ℕ) → a < K.nacts → K.task a ≡ t → FineAct K a (task_at s t) (act_at s a)
  fine_in t a h e = subst (λ u. FineAct K a (task_at s u) (act_at s a)) e (fine_at a h)

  -- a holder is one of the task's activities
  pub holder_in : (t a : ℕ) → t < K.ntasks → (task_at s t).holder ≡ Activity a → (a < K.nacts) × (K.task a ≡ t)
  holder_in t a h e =
      let w = and_both (ltb a K.nacts) _ (subst (λ z. T (holder_ok K t z)) e (task_at_lem t h).holder) in
      (ltb→lt _ _ w.0, eqb→eq _ _ w.1)

  -- an activity that executes
  pub executing_at : (a : ℕ) → a < K.nacts → T (act_at s a).executing → Executing K a (task_at s (K.task a)) (act_at s a)
  executing_at a h t = executing K a _ _ (fine_at a h) t
