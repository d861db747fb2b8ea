-- What a step finds: a sound state with what is kept beside it, and the rows that it names there.
use Prim.Native.Nat.{ℕ, ◌≤◌, ◌<◌}
use mathlib.Core.Path.{◌≡◌, sym, subst⁻¹, ◌∙◌}
use native.Mathlib.Omega.{arith}
use lib.Dec.{T}
use lib.ListN.{length, length-map}
use mathlib.Core.List.{List}
use Rattle.text.proofs.Picks.{order}
use Rattle.model.specs.Limits.{most_tasks, most_acts, most_ticks, ceiling}
use Rattle.model.specs.Tables.{known}
use Rattle.model.specs.States.{task_at, act_at}
use Rattle.model.specs.declared.Holder.TheVariants.{Activity}
use Rattle.model.specs.declared.ActStep.{ActStep}
use Rattle.model.proofs.Formed.{Formed}
use Rattle.model.proofs.Soundness.{Sound, sound_of, FineTask, task_at_lem, holder_in}
use Rattle.prepared.specs.Prepared.{table_in, Prepared}
use Rattle.prepared.proofs.Stored.{shape, most_tasks_lem, most_acts_lem}
use Rattle.conflicts.specs.Busy.{busy_of, busy_in}
use Rattle.managing.specs.Listed.{listed_of, listed_in}
use Rattle.rules.specs.Local.{naming, row_in, task_in}
use Rattle.rules.proofs.Named.{row_own, row_first, act_there}
use Rattle.rules.proofs.Facts.{place_known, timer_fits, clock_fits, missed_fits, tasks_some, task_there}
use Rattle.engine.specs.Steps.{Finds}
use Rattle.engine.specs.declared.Going.{Going}

pub record Found (rows index : List ℕ) (g : Going) : Type 0 where
  pub prepared : Prepared rows index
  pub sound : Sound (table_in rows index) g.state
  pub busy : g.busy ≡ busy_in g.state
  pub listed : g.listed ≡ listed_in g.state

pub found : {rows index : List ℕ} {g : Going} → Prepared rows index → Finds (table_in rows index) g → Found rows index g
found {rows} {index} {g} P F = record { prepared = P; sound = sound_of (table_in rows index) g.state (record { tasks = F.tasks; acts = F.acts }) F.ready.sound; busy = F.ready.busy; listed = F.ready.listed }

-- the row that a number of a task reads
pub row_there : {rows index : List ℕ} → Prepared rows index → (t : ℕ) → {n : ℕ} → n ≡ (table_in rows index).ntasks → {i : ℕ} → i ≡ row_in t n → i < (table_in rows index).ntasks
row_there {rows} {index} P t q e =
    let K = table_in rows index in
    subst⁻¹ (λ i. i < K.ntasks) (e ∙ rw q) (below t K.ntasks (tasks_some K P.formed))
  where
    below : (i n : ℕ) → 0 < n → row_in i n < n
    below i n h = order i n (λ l. rw (← row_own i n l) l) (λ l. rw (← row_first i n l) h)

pub row_cell : {rows index : List ℕ} → Prepared rows index → (t : ℕ) → {n : ℕ} → n ≡ (table_in rows index).ntasks → {i : ℕ} → i ≡ row_in t n → i < most_tasks
row_cell P t q e = omega (arith, row_there P t q e, most_tasks_lem P)

pub task_cell : {rows index : List ℕ} → Prepared rows index → {t : ℕ} → t < (table_in rows index).ntasks → t < most_tasks
task_cell P h = omega (arith, most_tasks_lem P)

module _ {rows index : List ℕ} {g : Going} (F : Found rows index g) where
  pub formed_there : Formed (table_in rows index)
  formed_there = shape F.prepared

  -- what is kept of the codels that execute, and of N and R, has room for every activity
  pub busy_long : (table_in rows index).nacts ≤ length g.busy
  busy_long = rw (F.busy, length-map g.state.acts busy_of) (omega (arith, most_acts_lem F.prepared, F.sound.shape.acts))

  pub listed_long : (table_in rows index).nacts ≤ length g.listed
  listed_long = rw (F.listed, length-map g.state.acts listed_of) (omega (arith, most_acts_lem F.prepared, F.sound.shape.acts))

  -- of a task t that there is
  module _ {t : ℕ} (h : t < (table_in rows index).ntasks) where
    fine_there : FineTask (table_in rows index) g.state.date t (task_at g.state t)
    fine_there = task_at_lem (table_in rows index) g.state F.sound t h

    -- an activity that holds it
    pub holder_cell : {a : ℕ} → (task_at g.state t).holder ≡ Activity a → a < most_acts
    holder_cell {a} e = omega (arith, (holder_in (table_in rows index) g.state F.sound t a h e).0, most_acts_lem F.prepared)

    pub missed_small : (task_at g.state t).missed ≤ ceiling
    missed_small = missed_fits (table_in rows index) g.state F.sound t h

    pub cycle_small : (task_at g.state t).cycle ≤ ceiling
    cycle_small = omega (arith, fine_there.counts, F.sound.date)

    pub opened_before : (task_at g.state t).opened ≤ g.state.date
    opened_before = fine_there.opened

  pub timer_small : (t : ℕ) → (task_at g.state t).timer ≤ most_ticks
  timer_small t = timer_fits (table_in rows index) formed_there g.state F.sound t

  pub clock_small : (a : ℕ) → (act_at g.state a).clock ≤ most_ticks
  clock_small a = clock_fits (table_in rows index) formed_there g.state F.sound a

  pub place_there : (a : ℕ) → T (known (table_in rows index) (act_at g.state a).place)
  place_there a = place_known (table_in rows index) g.state F.sound a

pub act_cell : {rows index : List ℕ} → Prepared rows index → {a : ℕ} → a < (table_in rows index).nacts → a < most_acts
act_cell P h = omega (arith, most_acts_lem P)

-- a step of the activity a that names rows: its own and that of the task it touches
module _ {rows index : List ℕ} (P : Prepared rows index) (a : ℕ) (k : ActStep) (q : 0 ≡ naming (table_in rows index) a k) where
  pub own_cell : a < most_acts
  own_cell = omega (arith, act_there (table_in rows index) a k (sym q), most_acts_lem P)

  pub touch_cell : {t : ℕ} → t ≡ task_in (table_in rows index) a k → t < most_tasks
  touch_cell e = omega (arith, task_there (table_in rows index) P.formed a k (sym q), most_tasks_lem P)
