-- The records that the values of a row say, set one after another.
use Prim.Native.Nat.{ℕ, ◌+◌, ◌*◌, ◌≤◌, ◌<◌}
use mathlib.Core.List.{List}
use mathlib.Core.Path.{◌≡◌, refl}
use native.Mathlib.Numerals.{add-one}
use native.Mathlib.Omega.{arith}
use lib.ListN.{set}
use Rattle.text.specs.declared.Set.{Set}
use Rattle.model.specs.Limits.{most_tasks}
use Rattle.model.specs.Tables.{Table}
use Rattle.model.specs.declared.Task.{Task}
use Rattle.model.specs.declared.Act.{Act}
use Rattle.prepared.specs.Prepared.{table_in, Prepared}
use Rattle.prepared.proofs.Stored.{shape, most_tasks_lem}
use Rattle.saved.specs.Rows.{set_at, task_from, act_from, task_place, act_fields, run_field, halt_field, tasks_said, acts_said}

module _ {rows index : List ℕ} (P : Prepared rows index) where
  -- a table has at most sixteen tasks
  pub few_tasks : (n : ℕ) → n ≡ (table_in rows index).ntasks → n ≤ most_tasks
  few_tasks n e = omega (arith, most_tasks_lem P)

  -- an activity's task is one of them
  pub own_task : (a n t : ℕ) → t ≡ (table_in rows index).task a → a < n → n ≡ (table_in rows index).nacts → t < most_tasks
  own_task a n t q h e = omega (arith, (shape P).task a (omega arith), most_tasks_lem P)

module _ (vs : List ℕ) where
  -- no task is set at first
  pub tasks_none : (l : List Task) → l ≡ tasks_said vs 0 l
  unfolding tasks_said
  tasks_none l = refl

  -- one task more is set
  pub tasks_more : (l z : List Task) (t : ℕ) (x : Task) → z ≡ tasks_said vs t l → x ≡ task_from vs (task_place t) → set z t x ≡ tasks_said vs (t + 1) l
  unfolding tasks_said
  tasks_more l z t x now e = rw (add-one t, now, e)

  module _ (K : Table) (l : List Act) where
    -- no activity is set at first
    pub acts_none : l ≡ acts_said K vs 0 l
    unfolding acts_said
    acts_none = refl

    -- one activity more is set, with the sets of its task
    pub acts_more : (z : List Act) (a m t : ℕ) (n r : Set) (y : Act) → z ≡ acts_said K vs a l → m ≡ K.ntasks → t ≡ K.task a → n ≡ set_at vs (task_place t + run_field) → r ≡ set_at vs (task_place t + halt_field) → y ≡ act_from vs (task_place m + a * act_fields) a n r
        → set z a y ≡ acts_said K vs (a + 1) l
    unfolding acts_said
    acts_more z a m t n r y now i j k h e = rw (add-one a, now, e, k, h, i, j)
