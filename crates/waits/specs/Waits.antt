-- The tests of a wait told by a task's record x and its holder's y, and what a wait does to the holders' clocks.
use Rattle.std.specs.Prelude.{ℕ, zero, suc, ◌+◌, Bool, true, List, get_or, set, leb}
use Rattle.model.specs.Tests.{◌and◌, ◌or◌, ◌implies◌, need}
use Rattle.model.specs.Limits.{in_range, ceiling}
use Rattle.model.specs.Tables.{Table, is_ether}
use Rattle.model.specs.States.{no_act, task_at, stands}
use Rattle.model.specs.Rules.{clocked}
use Rattle.model.specs.declared.Task.{Task}
use Rattle.model.specs.declared.Act.{Act}
use Rattle.model.specs.declared.State.{State}
use Rattle.model.specs.declared.Place.{Place}
use Rattle.model.specs.declared.Place.TheVariants.{Ether, Codel}
use Rattle.model.specs.declared.Holder.{Holder}
use Rattle.model.specs.declared.Holder.TheVariants.{Manager, Activity}
use Rattle.conflicts.specs.Busy.{clear_by_at}

-- the activity that holds, 0 where the manager does
abbrev pub held_in : Holder → ℕ
held_in Manager = 0
held_in (Activity a) = a

-- 16: the holder is in R, at ether, or stands with no conflicting codel executing
abbrev pub act_hinders : Table → List ℕ → Act → Bool
act_hinders K busy y =
    y.halt
    or is_ether y.place
    or (stands K y y.place and clear_by_at K busy y.place)

-- 16 of a task by its holder: the manager hinders while it manages or its signal is set
abbrev pub hinders_by : Table → List ℕ → Task → Holder → Act → Bool
hinders_by K busy x Manager y = x.managing or x.signal
hinders_by K busy x (Activity a) y = act_hinders K busy y

-- 17: the timer stays within the period, and the holder's clock, where it executes, within its codel's limit
abbrev pub limit_at : Table → Place → ℕ → Bool
limit_at K Ether n = true
limit_at K (Codel c) n = leb n (K.limit c)

abbrev pub act_room : Table → ℕ → Act → Bool
act_room K d y = y.executing implies limit_at K y.place (y.clock + d)

abbrev pub held_room : Table → ℕ → Holder → Act → Bool
held_room K d Manager y = true
held_room K d (Activity a) y = act_room K d y

abbrev pub timer_room : Table → ℕ → ℕ → ℕ → Bool
timer_room K d t timer = leb (timer + d) (K.period t)

abbrev pub room_by : Table → ℕ → ℕ → Task → Act → Bool
room_by K d t x y = timer_room K d t x.timer and held_room K d x.holder y

-- the number of a wait, by what its tasks say: free, no task hinders it; room, all have room
abbrev pub wait_number : Bool → Bool → ℕ → ℕ → ℕ
wait_number free room date d =
    need (in_range d) 12
    (need free 16
    (need room 17
    (need (leb (date + d) ceiling) 18
    0)))

-- the activities once the holders of the first n tasks are older by d
abbrev pub older : Holder → ℕ → List Act → List Act
older Manager d l = l
older (Activity a) d l = set l a (clocked d (get_or l a no_act))

unfoldable pub older_acts : State → ℕ → ℕ → List Act
older_acts s d zero = s.acts
older_acts s d (suc n) = older (task_at s n).holder d (older_acts s d n)
