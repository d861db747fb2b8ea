-- Rows as the code reads and writes them: over buffers that are lent, and the records one after another.
use Rattle.std.specs.Prelude.{ℕ, ◌*◌, List, replicate, length, leb, eqb, Option, Some, None}
use Rattle.text.specs.Parts.{pick}
use Rattle.model.specs.Limits.{most_tasks, most_acts}
use Rattle.model.specs.Tables.{Table}
use Rattle.model.specs.declared.State.{State}
use Rattle.fields.specs.Fields.{repeated, Taken, took, fields_text}
use Rattle.logs.specs.Lines.{longest_row}
use Rattle.saved.specs.Rows.{begins_row, most_values, task_forms, act_forms, row_forms, tasks_values, acts_values}

-- the fields of a line behind its word, read into a buffer
abbrev pub whole_of : Table → List ℕ → List ℕ → Taken
whole_of K line b =
    pick (leb longest_row (length line)) (record { end = None; values = b })
    (pick (begins_row line) (took (row_forms K) line 5 0 b) (record { end = None; values = b }))

-- their values, where they end where the line ends; zeros behind them
abbrev pub ends_at : ℕ → List ℕ → Option ℕ → Option (List ℕ)
ends_at n vs (Some e) = pick (eqb e n) (Some vs) None
ends_at n vs None = None

abbrev pub no_values : List ℕ
no_values = replicate most_values 0

unfoldable pub whole_values : Table → List ℕ → Option (List ℕ)
whole_values K line = ends_at (length line) (whole_of K line no_values).values (whole_of K line no_values).end

-- the parts of the first n tasks, of the first n activities, as they are written, and how long they are at most
abbrev pub tasks_text : Table → State → ℕ → List ℕ
tasks_text K s n = fields_text (repeated n task_forms) (tasks_values K s n)

abbrev pub acts_text : State → ℕ → List ℕ
acts_text s n = fields_text (repeated n act_forms) (acts_values s n)

abbrev pub longest_tasks : ℕ
longest_tasks = most_tasks * 122

abbrev pub longest_acts : ℕ
longest_acts = most_acts * 30
