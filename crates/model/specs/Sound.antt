-- The sound state: one test for each sentence of document 01, in the page's words.
use Rattle.std.specs.Prelude.{Bool, true, false, not, cond, ℕ, ◌+◌, leb, ltb, eqb}
use Rattle.model.specs.Tests.{◌and◌, ◌or◌, ◌implies◌, one, each}
use Rattle.model.specs.Limits.{most_tasks, most_acts, most_ticks, ceiling}
use Rattle.model.specs.Tables.{Table, is_ether, pausable, safe}
use Rattle.model.specs.States.{task_at, act_at, by_manager, held_by, executes}
use Rattle.model.specs.declared.Task.{Task}
use Rattle.model.specs.declared.Act.{Act}
use Rattle.model.specs.declared.State.{State}
use Rattle.model.specs.declared.Place.{Place}
use Rattle.model.specs.declared.Place.TheVariants.{Ether, Codel}
use Rattle.model.specs.declared.Holder.{Holder}
use Rattle.model.specs.declared.Holder.TheVariants.{Manager, Activity}

-- Of an activity a, whose record is y and whose task's record is x.
-- "N and R within the task" holds of itself: each activity keeps its own place in the sets of its own task.

-- "each activity at ether or a codel of its own"
abbrev pub at_own : Table → ℕ → Place → Bool
at_own K a Ether = true
at_own K a (Codel c) = ltb c K.ncodels and eqb (K.owner c) a

-- "a waiting manager .. has N and R empty"
abbrev pub sets_while_managing : Task → Act → Bool
sets_while_managing x y = (y.run or y.halt) implies x.managing

-- "an activity that is not the holder is at ether or at the target of a pause, not executing; so is a holder in R"
abbrev pub may_rest : Table → Place → Bool
may_rest K Ether = true
may_rest K (Codel c) = pausable K c

abbrev pub rests_unless_running : Table → ℕ → Task → Act → Bool
rests_unless_running K a x y = not (held_by x.holder a and not y.halt) implies (may_rest K y.place and not y.executing)

-- "a holder at ether is in N or R"
abbrev pub listed_at_ether : ℕ → Task → Act → Bool
listed_at_ether a x y = (held_by x.holder a and is_ether y.place) implies (y.run or y.halt)

-- "nothing executes at ether"
abbrev pub still_at_ether : Act → Bool
still_at_ether y = is_ether y.place implies not y.executing

-- "a holder not in R at a thread-safe codel executes"
abbrev pub at_safe : Table → Place → Bool
at_safe K Ether = false
at_safe K (Codel c) = safe K c

abbrev pub executes_when_safe : Table → ℕ → Task → Act → Bool
executes_when_safe K a x y = (held_by x.holder a and not y.halt and at_safe K y.place) implies y.executing

-- "an executing clock is at most the limit, every other clock is 0"
abbrev pub in_limit : Table → ℕ → Place → Bool
in_limit K k Ether = false
in_limit K k (Codel c) = leb k (K.limit c)

abbrev pub clock_ok : Table → Act → Bool
clock_ok K y = cond y.executing (in_limit K y.clock y.place) (eqb y.clock 0)

-- those that ask who holds, or what the rows say of a place
abbrev pub fine_place : Table → ℕ → Task → Act → Bool
fine_place K a x y =
    rests_unless_running K a x y
    and listed_at_ether a x y
    and still_at_ether y
    and executes_when_safe K a x y
    and clock_ok K y

abbrev pub fine_act : Table → ℕ → Task → Act → Bool
fine_act K a x y =
    at_own K a y.place
    and sets_while_managing x y
    and fine_place K a x y

-- Of a task t.

-- "timer at most the period"
abbrev pub timer_ok : Table → ℕ → Task → Bool
timer_ok K t x = leb x.timer (K.period t)

-- "the holder is the manager or one of the task's activities"
abbrev pub holder_ok : Table → ℕ → Holder → Bool
holder_ok K t Manager = true
holder_ok K t (Activity a) = ltb a K.nacts and eqb (K.task a) t

-- "a waiting manager holds", and "open date, missed and longest are 0 while waiting"
abbrev pub waiting_ok : Task → Bool
waiting_ok x = not x.managing implies (by_manager x.holder and eqb x.opened 0 and eqb x.missed 0 and eqb x.longest 0)

-- "cycle number plus signal is at most date minus timer, and so is missed" (document 02); date minus timer "is not below 0"
abbrev pub cycles_asked : Task → ℕ
cycles_asked x = x.cycle + one x.signal

abbrev pub counts_ok : ℕ → Task → Bool
counts_ok date x = leb (x.timer + cycles_asked x) date

abbrev pub missed_ok : ℕ → Task → Bool
missed_ok date x = leb (x.timer + x.missed) date

-- "longest is at most 1,000,000,000"
abbrev pub longest_ok : Task → Bool
longest_ok x = leb x.longest most_ticks

-- "open date is at most the date"
abbrev pub opened_ok : ℕ → Task → Bool
opened_ok date x = leb x.opened date

-- those that ask the task's numbers and the date alone
abbrev pub fine_numbers : ℕ → Task → Bool
fine_numbers date x =
    counts_ok date x
    and missed_ok date x
    and longest_ok x
    and opened_ok date x

abbrev pub fine_task : Table → ℕ → ℕ → Task → Bool
fine_task K date t x =
    timer_ok K t x
    and holder_ok K t x.holder
    and waiting_ok x
    and fine_numbers date x

-- "no executing conflict pair"
abbrev pub apart : Table → State → ℕ → Bool
apart K s m = not (executes K s (K.mutex m).lo and executes K s (K.mutex m).hi)

-- rows past the table's counts are fresh, so that equal rows are equal states
abbrev pub is_fresh_task : Task → Bool
is_fresh_task x =
    eqb x.timer 0
    and not x.signal
    and not x.managing
    and by_manager x.holder
    and eqb x.cycle 0
    and eqb x.opened 0
    and eqb x.missed 0
    and eqb x.longest 0

abbrev pub is_fresh_act : Act → Bool
is_fresh_act y =
    is_ether y.place
    and not y.executing
    and eqb y.clock 0
    and not y.run
    and not y.halt

abbrev pub fresh_past : Table → State → Bool
fresh_past K s =
    each most_tasks (λ t. leb K.ntasks t implies is_fresh_task (task_at s t))
    and each most_acts (λ a. leb K.nacts a implies is_fresh_act (act_at s a))

-- "date at most 1,000,000,000,000", and all of the above
unfoldable pub sound : Table → State → Bool
sound K s =
    leb s.date ceiling
    and each K.ntasks (λ t. fine_task K s.date t (task_at s t))
    and each K.nacts (λ a. fine_act K a (task_at s (K.task a)) (act_at s a))
    and each K.nmutex (apart K s)
    and fresh_past K s
