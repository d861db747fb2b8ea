-- A row read in place, part after part, into a state.
use Rattle.std.specs.Prelude.{ℕ, zero, suc, ◌^◌, ◌<◌, true, ◌≡◌, List, [], ◌∷◌, ◌++◌, eqb, length, get_or}
use Rattle.text.specs.Parts.{pick}
use Rattle.text.specs.Fields.{ether_word}
use Rattle.text.specs.Standing.{past}
use Rattle.text.specs.Set.{member}
use Rattle.text.specs.declared.Set.{Set}
use Rattle.model.specs.Tables.{Table}
use Rattle.model.specs.States.{no_task}
use Rattle.model.specs.Rules.{within}
use Rattle.model.specs.declared.Task.{Task}
use Rattle.model.specs.declared.Act.{Act}
use Rattle.fields.specs.Forms.{manager_word}
use Rattle.fields.specs.Fields.{fields_text}
use Rattle.fields.specs.Reading.{nothing, number_at, yes_at, word_at, set_at, Reads}
use Rattle.fields.specs.declared.Stood.{Stood}
use Rattle.saved.specs.Rows.{state_word, task_forms, act_forms, task_values, act_values, holder_of, place_of}
use Rattle.saved.specs.declared.TaskRead.{TaskRead}
use Rattle.saved.specs.declared.ActRead.{ActRead}

-- a set of which a value says the bits
abbrev pub as_set : ℕ → Set
as_set v = record { low = v; high = 0 }

-- the row's word and its date
unfoldable pub read_date : List ℕ → ℕ → Stood
read_date log at = number_at log (past log at state_word)

-- N or R of a task: of its activities alone
unfoldable pub read_list : Table → List ℕ → ℕ → ℕ → Stood
read_list K log t at = pick (within K t (as_set (set_at log at).value)) (set_at log at) (nothing log)

-- one field, and what is read behind it
abbrev pub then_task : Stood → (Stood → TaskRead) → TaskRead
then_task x read = read x

abbrev pub then_act : Stood → (Stood → ActRead) → ActRead
then_act x read = read x

-- a task's part, field after field
unfoldable pub read_task : Table → List ℕ → ℕ → ℕ → TaskRead
read_task K log t at =
    then_task (number_at log at) (λ timer.
    then_task (yes_at log timer.end) (λ signal.
    then_task (yes_at log signal.end) (λ managing.
    then_task (word_at (9 ∷ manager_word) log managing.end) (λ holder.
    then_task (read_list K log t holder.end) (λ run.
    then_task (read_list K log t run.end) (λ halt.
    then_task (number_at log halt.end) (λ cycle.
    then_task (number_at log cycle.end) (λ opened.
    then_task (number_at log opened.end) (λ missed.
    then_task (number_at log missed.end) (λ longest.
    record {
      task = record {
        timer = timer.value;
        signal = eqb signal.value 1;
        managing = eqb managing.value 1;
        holder = holder_of holder.value;
        cycle = cycle.value;
        opened = opened.value;
        missed = missed.value;
        longest = longest.value;
      };
      run = run.value;
      halt = halt.value;
      end = longest.end;
    }))))))))))

-- the part of the activity a, its task's N and R given
unfoldable pub read_act : List ℕ → ℕ → ℕ → ℕ → ℕ → ActRead
read_act log at a n r =
    then_act (word_at (9 ∷ ether_word) log at) (λ place.
    then_act (yes_at log place.end) (λ executing.
    then_act (number_at log executing.end) (λ clock.
    record {
      act = record {
        place = place_of place.value;
        executing = eqb executing.value 1;
        clock = clock.value;
        run = member (as_set n) a;
        halt = member (as_set r) a;
      };
      end = clock.end;
    })))

-- What they say of the text:
-- N and R of a task are of its activities alone
pub record OwnLists (K : Table) (t n r : ℕ) : Type 0 where
  pub run : within K t (as_set n) ≡ true
  pub halt : within K t (as_set r) ≡ true
  pub run_fits : n < 2 ^ 64
  pub halt_fits : r < 2 ^ 64

-- a task's part: its record, N and R
pub record ReadsTask (K : Table) (log : List ℕ) (at t : ℕ) (x : Task) (n r end : ℕ) : Type 0 where
  pub text : Reads log at (fields_text task_forms (task_values x n r)) end
  pub lists : end < length log → OwnLists K t n r

-- an activity's part, with its task's N and R
pub record ReadsAct (log : List ℕ) (at a n r : ℕ) (y : Act) (end : ℕ) : Type 0 where
  pub text : Reads log at (fields_text act_forms (act_values y)) end
  pub run : y.run ≡ member (as_set n) a
  pub halt : y.halt ≡ member (as_set r) a

-- the parts of the first n tasks, by N and R of each
unfoldable pub parts_by : List Task → List ℕ → List ℕ → ℕ → List ℕ
parts_by xs ns rs zero = []
parts_by xs ns rs (suc t) = parts_by xs ns rs t ++ fields_text task_forms (task_values (get_or xs t no_task) (get_or ns t 0) (get_or rs t 0))
