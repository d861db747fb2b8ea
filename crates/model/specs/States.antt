-- The state's rows, and what they say of holding, standing and executing.
use Rattle.std.specs.Prelude.{Bool, true, false, not, ℕ, get_or, replicate, eqb}
use Rattle.model.specs.Tests.{◌and◌, ◌or◌, ◌implies◌, each}
use Rattle.model.specs.Limits.{most_tasks, most_acts}
use Rattle.model.specs.Tables.{Table, is_codel, safe}
use Rattle.model.specs.declared.Task.{Task}
use Rattle.model.specs.declared.Act.{Act}
use Rattle.model.specs.declared.State.{State}
use Rattle.model.specs.declared.Place.{Place}
use Rattle.model.specs.declared.Place.TheVariants.{Ether, Codel}
use Rattle.model.specs.declared.Holder.{Holder}
use Rattle.model.specs.declared.Holder.TheVariants.{Manager, Activity}

-- "Fresh: everything 0 or empty, managers waiting and holding, activities at ether."
abbrev pub no_task : Task
no_task = record { timer = 0; signal = false; managing = false; holder = Manager; cycle = 0; opened = 0; missed = 0; longest = 0 }

abbrev pub no_act : Act
no_act = record { place = Ether; executing = false; clock = 0; run = false; halt = false }

abbrev pub fresh : State
fresh = record { date = 0; tasks = replicate most_tasks no_task; acts = replicate most_acts no_act }

-- the rows of a state
abbrev pub task_at : State → ℕ → Task
task_at s t = get_or s.tasks t no_task

abbrev pub act_at : State → ℕ → Act
act_at s a = get_or s.acts a no_act

-- "holder (manager or one activity)"
abbrev pub by_manager : Holder → Bool
by_manager Manager = true
by_manager (Activity a) = false

abbrev pub held_by : Holder → ℕ → Bool
held_by Manager a = false
held_by (Activity b) a = eqb b a

abbrev pub holds : Table → State → ℕ → Bool
holds K s a = held_by (task_at s (K.task a)).holder a

-- a is an activity of task t in its sets N or R
abbrev pub in_sets : Table → State → ℕ → ℕ → Bool
in_sets K s t a = eqb (K.task a) t and ((act_at s a).run or (act_at s a).halt)

-- "A holder not in R, at any other codel and not executing, stands before it; nothing else stands." Here: at a codel that is not thread
-- safe and not executing; who asks tests the holder and R.
abbrev pub stands : Table → Act → Place → Bool
stands K x Ether = false
stands K x (Codel c) = not (safe K c) and not x.executing

-- the activity executes the codel c
abbrev pub runs : Act → ℕ → Bool
runs x c = x.executing and is_codel x.place c

abbrev pub executes : Table → State → ℕ → Bool
executes K s c = runs (act_at s (K.owner c)) c

-- no codel that conflicts with c executes
unfoldable pub clear : Table → State → ℕ → Bool
clear K s c =
    each K.nmutex (λ m.
    (eqb (K.mutex m).lo c implies not (executes K s (K.mutex m).hi))
    and (eqb (K.mutex m).hi c implies not (executes K s (K.mutex m).lo)))

abbrev pub clear_at : Table → State → Place → Bool
clear_at K s Ether = true
clear_at K s (Codel c) = clear K s c
