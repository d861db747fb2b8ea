-- What a step asks and does, told by the records of the one task and the one activity that it names; first whether it names rows that
-- exist.
use Rattle.std.specs.Prelude.{Bool, true, false, not, ℕ, Result, Ok, Err, eqb, leb, ltb}
use Rattle.text.specs.Parts.{pick}
use Rattle.model.specs.Tests.{◌and◌, ◌or◌, need}
use Rattle.model.specs.Refusals.{number_of}
use Rattle.model.specs.declared.refusal.Refusal.{Refusal}
use Rattle.model.specs.Tables.{Table, is_ether, known}
use Rattle.model.specs.States.{act_at, by_manager, held_by, stands, clear_at}
use Rattle.model.specs.Rules.{entered, rested, held, signalled, again, stop_of, out_of_r, ea_allowed, begun, fa_allowed, none_in, closed}
use Rattle.model.specs.declared.Task.{Task}
use Rattle.model.specs.declared.Act.{Act}
use Rattle.model.specs.declared.State.{State}
use Rattle.model.specs.declared.Place.{Place}
use Rattle.model.specs.declared.Place.TheVariants.{Ether, Codel}
use Rattle.model.specs.declared.Holder.TheVariants.{Manager, Activity}
use Rattle.model.specs.declared.TaskStep.{TaskStep}
use Rattle.model.specs.declared.TaskStep.TheVariants.{St, Fm}
use Rattle.model.specs.declared.ActStep.{ActStep}
use Rattle.model.specs.declared.ActStep.TheVariants.{Lm, Ia, Ea, Cx, Fa}

-- an answer to a step of a task: the refusal, 0 for none, with the task's record as it then is
pub record TaskTold : Type 0 where
  pub number : ℕ
  pub task : Task

-- an answer to a step of an activity, with its task's record and its own
pub record Told : Type 0 where
  pub number : ℕ
  pub task : Task
  pub act : Act

abbrev pub told_task : ℕ → Task → TaskTold
told_task n x = record { number = n; task = x }

abbrev pub told : ℕ → Task → Act → Told
told n x y = record { number = n; task = x; act = y }

-- an answer as the code gives it: a refusal leaves the records as they came
abbrev pub told_task_by : Result Task Refusal → Task → TaskTold
told_task_by (Ok u) x = told_task 0 u
told_task_by (Err r) x = told_task (number_of r) x

abbrev pub told_by : Result (Task × Act) Refusal → Task → Act → Told
told_by (Ok p) x y = told 0 p.0 p.1
told_by (Err r) x y = told (number_of r) x y

-- a refusal, unless the test holds
abbrev pub unless : {A : Type 0} → Bool → A → A → A
unless true refused go = go
unless false refused go = refused

abbrev pub st_local : Table → ℕ → Task → TaskTold
st_local K t x = unless (eqb x.timer (K.period t)) (told_task 14 x) (told_task 0 (signalled x))

-- empty: no activity of the task is in N or R
abbrev pub fm_local : Bool → Task → TaskTold
fm_local empty x = unless (x.managing and by_manager x.holder and empty) (told_task 13 x) (told_task 0 (closed x))

-- `st` and `fm`, told by the task's record
unfoldable pub task_local : Table → ℕ → TaskStep → Bool → Task → TaskTold
task_local K t St empty x = st_local K t x
task_local K t Fm empty x = fm_local empty x

abbrev pub lm_local : Table → ℕ → ℕ → Task → Act → Told
lm_local K t a x y =
    unless (x.managing and by_manager x.holder and (eqb (K.task a) t and (y.run or y.halt))) (told 13 x y)
    (told 0 (held (Activity a) 0 x) (again K y.halt y.place y))

abbrev pub interrupted : Table → Place → Task → Act → Told
interrupted K Ether x y = told 0 (held Manager 0 x) (rested Ether)
interrupted K (Codel c) x y = told 0 x (entered K c (out_of_r y))

abbrev pub ia_local : Table → ℕ → Task → Act → Told
ia_local K a x y = unless (held_by x.holder a and y.halt) (told 13 x y) (interrupted K (stop_of K a) x y)

abbrev pub ea_local : Table → ℕ → Place → Task → Act → Told
ea_local K a Ether x y = told 11 x y
ea_local K a (Codel c) x y =
    unless (held_by x.holder a and not y.halt and ea_allowed K y a c y.place) (told 13 x y)
    (unless (is_ether y.place or leb 1 y.clock) (told 14 x y)
    (told 0 (held x.holder y.clock x) (entered K c y)))

-- clear: no codel that conflicts with its own executes
abbrev pub cx_local : Table → ℕ → Bool → Task → Act → Told
cx_local K a clear x y =
    unless (held_by x.holder a and not y.halt and stands K y y.place) (told 13 x y)
    (unless clear (told 15 x y)
    (told 0 x (begun y)))

abbrev pub fa_local : Table → ℕ → Place → Task → Act → Told
fa_local K a p x y =
    unless (held_by x.holder a and y.executing and fa_allowed K y.place p) (told 13 x y)
    (unless (leb 1 y.clock) (told 14 x y)
    (told 0 (held Manager y.clock x) (rested p)))

-- `lm`, `ia`, `ea`, `cx` and `fa`, told by the activity's record and its task's; clear is what `cx` asks beside them
unfoldable pub local : Table → ℕ → ActStep → Bool → Task → Act → Told
local K a (Lm t) clear x y = lm_local K t a x y
local K a Ia clear x y = ia_local K a x y
local K a (Ea p) clear x y = ea_local K a p x y
local K a Cx clear x y = cx_local K a clear x y
local K a (Fa p) clear x y = fa_local K a p x y

-- 11 and 12 of an activity's step: `ea` to ether is none, and the rows that a step names exist
unfoldable pub naming : Table → ℕ → ActStep → ℕ
naming K a (Lm t) = need (ltb t K.ntasks and ltb a K.nacts) 12 0
naming K a Ia = need (ltb a K.nacts) 12 0
naming K a (Ea Ether) = 11
naming K a (Ea (Codel c)) = need (ltb a K.nacts and ltb c K.ncodels) 12 0
naming K a Cx = need (ltb a K.nacts) 12 0
naming K a (Fa p) = need (ltb a K.nacts and known K p) 12 0

-- a task's step: 12 where there is no such task
abbrev pub task_told : Table → ℕ → TaskStep → Bool → Task → TaskTold
task_told K t k empty x = unless (ltb t K.ntasks) (told_task 12 x) (task_local K t k empty x)

-- the row of a state that the number i reads, of n: its own, or the first where there is none
abbrev pub row_in : ℕ → ℕ → ℕ
row_in i n = pick (ltb i n) i 0

-- the task whose record a step of the activity a touches
abbrev pub task_in : Table → ℕ → ActStep → ℕ
task_in K a (Lm t) = t
task_in K a Ia = K.task a
task_in K a (Ea p) = K.task a
task_in K a Cx = K.task a
task_in K a (Fa p) = K.task a

-- what `cx` asks beside the records: that no conflicting codel executes
abbrev pub clear_for : Table → State → ℕ → ActStep → Bool
clear_for K s a (Lm t) = true
clear_for K s a Ia = true
clear_for K s a (Ea p) = true
clear_for K s a Cx = clear_at K s (act_at s a).place
clear_for K s a (Fa p) = true

-- what `fm` asks beside the record: that N and R are empty
abbrev pub empty_for : Table → State → ℕ → TaskStep → Bool
empty_for K s t St = true
empty_for K s t Fm = none_in K s t
