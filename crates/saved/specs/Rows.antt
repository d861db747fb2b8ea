-- "A file may now start with a `state` row, one line of at most 4,095 bytes with every field of the state, tasks then activities, in document
-- 01's order: sets as in `sm`, yes as 1, managing as 1, `manager` or `ether` where no number stands, numbers to 13 digits."
use Rattle.std.specs.Prelude.{ℕ, zero, suc, ◌+◌, ◌*◌, ◌^◌, Bool, List, [], ◌∷◌, ◌++◌, length, get_or, set, take, leb, eqb, Result, Ok, Err}
use Rattle.text.specs.Parts.{pick, split_on}
use Rattle.text.specs.Set.{member}
use Rattle.text.specs.Words.{same_list}
use Rattle.text.specs.declared.Set.{Set}
use Rattle.model.specs.Tests.{◌and◌, one, each, sum}
use Rattle.model.specs.Limits.{most_tasks, most_acts}
use Rattle.model.specs.Tables.{Table}
use Rattle.model.specs.States.{fresh, task_at, act_at}
use Rattle.model.specs.Rules.{within}
use Rattle.model.specs.declared.Task.{Task}
use Rattle.model.specs.declared.Act.{Act}
use Rattle.model.specs.declared.State.{State}
use Rattle.model.specs.declared.Place.{Place}
use Rattle.model.specs.declared.Place.TheVariants.{Ether, Codel}
use Rattle.model.specs.declared.Holder.{Holder}
use Rattle.model.specs.declared.Holder.TheVariants.{Manager, Activity}
use Rattle.model.specs.Refusals.{number_of}
use Rattle.model.specs.declared.refusal.Refusal.{Refusal}
use Rattle.logs.specs.Lines.{longest_row}
use Rattle.fields.specs.Forms.{a_number, a_yes, a_holder, a_set, a_place, no_number}
use Rattle.fields.specs.Fields.{repeated, Part, part, none, read_fields, fields_text}

-- `state`
unfoldable pub state_word : List ℕ
state_word = 115 ∷ 116 ∷ 97 ∷ 116 ∷ 101 ∷ []

-- a line that begins `state` and a tab is never a step
unfoldable pub begins_row : List ℕ → Bool
begins_row p = same_list (take 6 p) (state_word ++ 9 ∷ [])

-- The description. Of a task: timer, signal, manager, holder, N, R, cycle, open date, missed, longest.
abbrev pub task_forms : List ℕ
task_forms = a_number ∷ a_yes ∷ a_yes ∷ a_holder ∷ a_set ∷ a_set ∷ a_number ∷ a_number ∷ a_number ∷ a_number ∷ []

abbrev pub task_fields : ℕ
task_fields = 10

-- Of an activity: place, executing, clock.
abbrev pub act_forms : List ℕ
act_forms = a_place ∷ a_yes ∷ a_number ∷ []

abbrev pub act_fields : ℕ
act_fields = 3

-- The row: the date, tasks, then activities.
unfoldable pub row_forms : Table → List ℕ
row_forms K = a_number ∷ (repeated K.ntasks task_forms ++ repeated K.nacts act_forms)

-- where the parts of a task and of an activity begin among the values, and where N and R stand in a task's part
abbrev pub task_place : ℕ → ℕ
task_place t = 1 + t * task_fields

abbrev pub act_place : Table → ℕ → ℕ
act_place K a = 1 + K.ntasks * task_fields + a * act_fields

abbrev pub run_field : ℕ
run_field = 4

abbrev pub halt_field : ℕ
halt_field = 5

-- the most values
abbrev pub most_values : ℕ
most_values = 1 + most_tasks * task_fields + most_acts * act_fields

-- The values of a state. Yes is 1; who holds and where an activity is, `manager` and `ether` above every number.
abbrev pub holder_value : Holder → ℕ
holder_value Manager = no_number
holder_value (Activity a) = a

abbrev pub place_value : Place → ℕ
place_value Ether = no_number
place_value (Codel c) = c

-- N and R of a task: bit a for its activity a
abbrev pub bit_of : Bool → ℕ → ℕ
bit_of b a = one b * 2 ^ a

unfoldable pub run_bits : Table → State → ℕ → ℕ → ℕ
run_bits K s t n = sum n (λ a. bit_of (eqb (K.task a) t and (act_at s a).run) a)

unfoldable pub halt_bits : Table → State → ℕ → ℕ → ℕ
halt_bits K s t n = sum n (λ a. bit_of (eqb (K.task a) t and (act_at s a).halt) a)

-- a task's part, by its record and its sets
abbrev pub task_values : Task → ℕ → ℕ → List ℕ
task_values x n r =
    x.timer
    ∷ one x.signal
    ∷ one x.managing
    ∷ holder_value x.holder
    ∷ n
    ∷ r
    ∷ x.cycle
    ∷ x.opened
    ∷ x.missed
    ∷ x.longest
    ∷ []

-- an activity's part
abbrev pub act_values : Act → List ℕ
act_values y = place_value y.place ∷ one y.executing ∷ y.clock ∷ []

-- the parts of the first n tasks, of the first n activities
unfoldable pub tasks_values : Table → State → ℕ → List ℕ
tasks_values K s zero = []
tasks_values K s (suc t) = tasks_values K s t ++ task_values (task_at s t) (run_bits K s t K.nacts) (halt_bits K s t K.nacts)

unfoldable pub acts_values : State → ℕ → List ℕ
acts_values s zero = []
acts_values s (suc a) = acts_values s a ++ act_values (act_at s a)

unfoldable pub row_values : Table → State → List ℕ
row_values K s = s.date ∷ (tasks_values K s K.ntasks ++ acts_values s K.nacts)

-- the line of a state, without its newline; with it
unfoldable pub row_line : Table → State → List ℕ
row_line K s = state_word ++ fields_text (row_forms K) (row_values K s)

abbrev pub row_text : Table → State → List ℕ
row_text K s = row_line K s ++ 10 ∷ []

-- The state of values.
abbrev pub is_yes : ℕ → Bool
is_yes v = eqb v 1

abbrev pub holder_of : ℕ → Holder
holder_of v = pick (eqb v no_number) Manager (Activity v)

abbrev pub place_of : ℕ → Place
place_of v = pick (eqb v no_number) Ether (Codel v)

abbrev pub set_at : List ℕ → ℕ → Set
set_at vs i = record { low = get_or vs i 0; high = 0 }

abbrev pub task_from : List ℕ → ℕ → Task
task_from vs at = record {
  timer = get_or vs at 0;
  signal = is_yes (get_or vs (at + 1) 0);
  managing = is_yes (get_or vs (at + 2) 0);
  holder = holder_of (get_or vs (at + 3) 0);
  cycle = get_or vs (at + 6) 0;
  opened = get_or vs (at + 7) 0;
  missed = get_or vs (at + 8) 0;
  longest = get_or vs (at + 9) 0;
}

abbrev pub act_from : List ℕ → ℕ → ℕ → Set → Set → Act
act_from vs at a n r = record {
  place = place_of (get_or vs at 0);
  executing = is_yes (get_or vs (at + 1) 0);
  clock = get_or vs (at + 2) 0;
  run = member n a;
  halt = member r a;
}

-- the first n tasks and the first n activities are those that the values say; the others stay as they are
unfoldable pub tasks_said : List ℕ → ℕ → List Task → List Task
tasks_said vs zero l = l
tasks_said vs (suc t) l = set (tasks_said vs t l) t (task_from vs (task_place t))

unfoldable pub acts_said : Table → List ℕ → ℕ → List Act → List Act
acts_said K vs zero l = l
acts_said K vs (suc a) l =
    set (acts_said K vs a l) a
    (act_from vs (act_place K a) a (set_at vs (task_place (K.task a) + run_field)) (set_at vs (task_place (K.task a) + halt_field)))

unfoldable pub state_from : Table → List ℕ → State
state_from K vs = record {
  date = get_or vs 0 0;
  tasks = tasks_said vs K.ntasks fresh.tasks;
  acts = acts_said K vs K.nacts fresh.acts;
}

-- each member of N and R is an activity of its task: no state has another
abbrev pub own_lists : Table → List ℕ → ℕ → Bool
own_lists K vs t = within K t (set_at vs (task_place t + run_field)) and within K t (set_at vs (task_place t + halt_field))

unfoldable pub sets_within : Table → List ℕ → Bool
sets_within K vs = each K.ntasks (own_lists K vs)

-- What a line says as a row, without its newline: "11 for one that does not read"; 20 where a set is not within its task, since no state
-- is that.
pub record Read : Type 0 where
  pub number : ℕ
  pub state : State

abbrev pub refused : ℕ → Read
refused n = record { number = n; state = fresh }

abbrev pub on_part : Table → Part → Read
on_part K none = refused 11
on_part K (part vs []) = pick (sets_within K vs) (record { number = 0; state = state_from K vs }) (refused 20)
on_part K (part vs (p ∷ ps)) = refused 11

abbrev pub part_in : Table → List (List ℕ) → Part
part_in K [] = none
part_in K (w ∷ ps) = pick (same_list w state_word) (read_fields (row_forms K) ps) none

unfoldable pub read_state : Table → List ℕ → Read
read_state K p = on_part K (pick (leb longest_row (length p)) none (part_in K (split_on 9 p)))

-- what the code answers: the state, or why there is none
abbrev pub read_by : Result State Refusal → Read
read_by (Ok s) = record { number = 0; state = s }
read_by (Err r) = refused (number_of r)
