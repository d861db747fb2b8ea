-- A wait: the timers and the holders' clocks made older task by task, and what is carried behind it.
use Prim.Native.Nat.{ℕ, ◌+◌, ◌≤◌, ◌<◌}
use mathlib.Core.Bool.{Bool, true, false}
use mathlib.Core.List.{List, map}
use borrow.Author.Tests.{le-leb, lt-leb}
use Rattle.text.specs.Fields.{ether_value}
use Rattle.model.specs.Tests.{◌and◌}
use mathlib.Core.Path.{◌≡◌, refl, ap, sym, subst⁻¹, ◌∙◌}
use native.Mathlib.Omega.{arith}
use native.Mathlib.Numerals.{add-one}
use lib.Dec.{leb, leb→le}
use lib.ListN.{get_or, set}
use Rattle.model.specs.Limits.{most_acts, most_ticks, ceiling, in_range}
use Rattle.model.specs.Tables.{Table}
use Rattle.model.specs.States.{no_task, no_act, task_at, act_at}
use Rattle.model.specs.Records.{with_clock, with_date, with_tasks, with_acts}
use Rattle.model.specs.Refusals.{number_of}
use Rattle.model.specs.declared.refusal.Refusal.{Refusal}
use Rattle.model.specs.Rules.{anew, refusal, next, wait_refusal, wait_next, timed, aged, clocked}
use Rattle.model.specs.Cycles.{verdict}
use Rattle.model.specs.declared.Act.{Act}
use Rattle.model.specs.declared.State.{State}
use Rattle.model.specs.declared.Holder.TheVariants.{Manager, Activity}
use Rattle.model.specs.declared.Step.TheVariants.{Wait}
use Rattle.model.proofs.Tests.{and_r, need_of}
use Rattle.model.proofs.Rows.{anew_past}
use Rattle.model.proofs.Soundness.{holder_in}
use Rattle.prepared.specs.Prepared.{table_in}
use Rattle.rules.proofs.Facts.{clock_fits, timer_fits}
use Rattle.conflicts.specs.Busy.{busy_of}
use Rattle.managing.specs.Listed.{listed_of}
use Rattle.waits.specs.Waits.{held_in, hinders_by, room_by, wait_number, older_acts}
use Rattle.waits.proofs.Holders.{Asks, Asked, asked_none, asked_more, asked_stops, asked_all}
use Rattle.waits.proofs.Waits.{hinders_at}
use Rattle.waits.proofs.Older.{older_same, not_older, older_next}
use Rattle.tally.specs.Tallies.{after_wait}
use Rattle.tally.specs.declared.Tally.{Tally}
use Rattle.tally.specs.declared.Ruling.TheVariants.{Open}
use Rattle.tally.proofs.Tallying.{wait_counts}
use Rattle.engine.specs.Steps.{with_state, Takes, Refuses}
use Rattle.engine.specs.declared.Going.{Going}
use Rattle.engine.proofs.Finding.{Found, formed_there}
use Rattle.engine.proofs.Stepping.{going_is}

-- the first k of nt tasks do not hinder a wait of d ticks, and room says whether all of them have room for it
module _ {rows index : List ℕ} {g : Going} (F : Found rows index g) {d : ℕ} where
  pub asks_none : d < ether_value → {nt : ℕ} → nt ≡ (table_in rows index).ntasks → Asked (table_in rows index) g.state g.busy d nt true 0
  asks_none small q = asked_none (record { formed = formed_there F; sound = F.sound; small = small; all = q }) F.busy

module _ {K : Table} {s : State} {busy : List ℕ} {d nt : ℕ} {room : Bool} {k : ℕ} (Q : Asked K s busy d nt room k) where
  -- task k does
  module _ (h : k < nt) {b : Bool} (e : b ≡ hinders_by K busy (task_at s k) (task_at s k).holder (act_at s (held_in (task_at s k).holder))) where
    hinders_lem : b ≡ hinders_at K s k
    hinders_lem = e ∙ rw Q.kept

    pub asks_stop : b ≡ true → {n : ℕ} → n ≡ wait_number false room s.date d → n ≡ wait_refusal K s d
    asks_stop z q = asked_stops Q h (record { hinders = hinders_lem; room = refl }) z room (q ∙ rw (lt-leb nt k h))

    -- it does not
    pub asks_more : b ≡ false → {w : Bool} → w ≡ (room and room_by K d k (task_at s k) (act_at s (held_in (task_at s k).holder))) → Asked K s busy d nt w (k + 1)
    asks_more z i = asked_more Q h (record { hinders = hinders_lem; room = i }) z

  -- none does
  pub asks_all : nt ≤ k → {n : ℕ} → n ≡ wait_number true room s.date d → n ≡ wait_refusal K s d
  asks_all l q = asked_all Q l refl (q ∙ rw (le-leb nt k l))

-- the first m of nt tasks and their holders are older by a wait of d ticks
pub record Ages (K : Table) (g : Going) (d nt : ℕ) (h : Going) (m : ℕ) : Type 0 where
  pub asks : Asks K g.state d nt
  pub ticks : d ≤ most_ticks
  pub date : h.state.date ≡ g.state.date
  pub tasks : h.state.tasks ≡ anew m (λ t. timed d) no_task g.state.tasks
  pub acts : h.state.acts ≡ older_acts g.state d m
  pub rest : h ≡ with_state g h.state

module _ {rows index : List ℕ} {g : Going} (F : Found rows index g) {d : ℕ} where
  -- no task is, and the wait is accepted
  pub ages_none : wait_refusal (table_in rows index) g.state d ≡ 0 → {nt : ℕ} → nt ≡ (table_in rows index).ntasks → Ages (table_in rows index) g d nt g 0
  unfolding anew older_acts
  ages_none z q =
      let ticks : d ≤ most_ticks = leb→le d most_ticks (and_r (leb 1 d) _ (need_of (in_range d) 12 _ tt z).0) in
      record {
        asks = record { formed = formed_there F; sound = F.sound; small = omega arith; all = q };
        ticks = ticks;
        date = refl;
        tasks = refl;
        acts = refl;
        rest = refl;
      }

module _ {K : Table} {g : Going} {d nt : ℕ} {h : Going} {m : ℕ} (A : Ages K g d nt h m) where
  pub date_fits : h.state.date ≤ ceiling
  date_fits = omega (arith, A.date, A.asks.sound.date)

  -- all are
  pub ages_all : m ≤ nt → nt ≤ m → {w : State} → w ≡ with_date (h.state.date + d) h.state → record { state = w; busy = h.busy; listed = h.listed; tally = h.tally } ≡ with_state g (wait_next K g.state d)
  ages_all most l {w} e =
      let whole : m ≡ K.ntasks = omega (arith, A.asks.all) in
      let stored : w ≡ wait_next K g.state d = rw (e, A.date, A.tasks, A.acts, whole, older_next K A.asks.formed g.state A.asks.sound d) in
      λ i. record { state = stored i; busy = (ap (λ (g : Going). g.busy) A.rest) i; listed = (ap (λ (g : Going). g.listed) A.rest) i; tally = (ap (λ (g : Going). g.tally) A.rest) i }

  -- one more task
  module _ (l : m < nt) where
    same_task_lem : task_at h.state m ≡ task_at g.state m
    same_task_lem = ap (λ l. get_or l m no_task) A.tasks ∙ anew_past (λ t. timed d) no_task g.state.tasks m m (omega arith)

    pub timer_small : (task_at h.state m).timer ≤ most_ticks
    timer_small = subst⁻¹ (λ x. x.timer ≤ most_ticks) same_task_lem (timer_fits K A.asks.formed g.state A.asks.sound m)

    more_tasks : set h.state.tasks m (timed d (task_at h.state m)) ≡ anew (m + 1) (λ t. timed d) no_task g.state.tasks
    unfolding anew
    more_tasks = rw (add-one, same_task_lem, A.tasks)

    -- which its manager holds
    pub ages_manager : (task_at h.state m).holder ≡ Manager → Ages K g d nt (with_state h (with_tasks (set h.state.tasks m (timed d (task_at h.state m))) h.state)) (m + 1)
    unfolding older_acts
    ages_manager q =
        let i : (task_at g.state m).holder ≡ Manager = ap (λ x. x.holder) (sym same_task_lem) ∙ q in
        record { asks = A.asks; ticks = A.ticks; date = A.date; tasks = more_tasks; acts = rw (add-one, i) A.acts; rest = ap (λ (g : Going). with_state g (with_tasks (set h.state.tasks m (timed d (task_at h.state m))) h.state)) A.rest }

    -- or an activity
    module _ (a : ℕ) (q : (task_at h.state m).holder ≡ Activity a) where
      held : (task_at g.state m).holder ≡ Activity a
      held = ap (λ x. x.holder) (sym same_task_lem) ∙ q

      held_in_lem : (a < K.nacts) × (K.task a ≡ m)
      held_in_lem = holder_in K g.state A.asks.sound m a (omega (arith, A.asks.all)) held

      pub ager_fits : a < most_acts
      ager_fits = omega (arith, held_in_lem.0, A.asks.formed.fits.1)

      pub clock_small : (act_at h.state a).clock ≤ most_ticks
      clock_small =
          let other : (t : ℕ) → t < m → (task_at g.state t).holder ≡ Activity a → ⊥ = λ t b i. omega (arith, (holder_in K g.state A.asks.sound t a (omega (arith, A.asks.all)) i).1, held_in_lem.1) in
          subst⁻¹ (λ y. y.clock ≤ most_ticks) (ap (λ l. get_or l a no_act) A.acts ∙ not_older g.state d m a other) (clock_fits K A.asks.formed g.state A.asks.sound a)

      pub ages_activity : {k : ℕ} → k ≡ aged (act_at h.state a).executing d (act_at h.state a).clock
          → Ages K g d nt (with_state h (with_acts (set h.state.acts a (with_clock k (act_at h.state a))) (with_tasks (set h.state.tasks m (timed d (task_at h.state m))) h.state))) (m + 1)
      unfolding older_acts
      ages_activity {k} e = record { asks = A.asks; ticks = A.ticks; date = A.date; tasks = more_tasks; acts = rw (add-one, held, e, A.acts); rest = ap (λ (g : Going). with_state g (with_acts (set h.state.acts a (with_clock k (act_at h.state a))) (with_tasks (set h.state.tasks m (timed d (task_at h.state m))) h.state))) A.rest }

module _ {rows index : List ℕ} {g : Going} (F : Found rows index g) (d : ℕ) where
  -- what is kept of the activities stays as it is
  kept_lem : (f : Act → ℕ) → ((y : Act) → f (clocked d y) ≡ f y) → map f g.state.acts ≡ map f (wait_next (table_in rows index) g.state d).acts
  kept_lem f e = sym (older_same g.state d f e (table_in rows index).ntasks) ∙ ap (map f) (older_next (table_in rows index) (formed_there F) g.state F.sound d)

  pub wait_refuses : {w : Refusal} → number_of w ≡ wait_refusal (table_in rows index) g.state d → Refuses (table_in rows index) g (Wait d) w g
  unfolding refusal
  wait_refuses q = record { number = q; going = refl }

  pub wait_takes : 0 ≡ wait_refusal (table_in rows index) g.state d → {h : Going} → h ≡ with_state g (wait_next (table_in rows index) g.state d) → {c : Tally} → c ≡ after_wait h.tally
      → Takes (table_in rows index) g (Wait d) Open (record { state = h.state; busy = h.busy; listed = h.listed; tally = c })
  unfolding refusal next verdict
  wait_takes z {h} eh {c} ec = record {
    accepted = sym z;
    ruling = refl;
    going = going_is (rw eh refl) (rw eh (F.busy ∙ kept_lem busy_of (λ y. refl))) (rw eh (F.listed ∙ kept_lem listed_of (λ y. refl))) (ec ∙ rw eh (wait_counts (table_in rows index) g.state g.tally d));
  }
