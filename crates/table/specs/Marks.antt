-- What the reader notes beside the rows, so that no check walks them again: which tasks have an activity, which activities a start and a
-- stop, which codels an edge.
use Rattle.std.specs.Prelude.{ℕ, ◌+◌, ◌*◌, ◌<◌, List, Bool, ◌≡◌, length, get_or, ltb, eqb}
use Rattle.text.specs.Parts.{pick}
use Rattle.row.specs.declared.Row.{Row}
use Rattle.model.specs.Tests.{some}
use Rattle.model.specs.Limits.{most_tasks, most_acts, most_codels}
use Rattle.model.specs.Rows.{has_act, leaves}
use Rattle.model.specs.Tables as model
use Rattle.table.specs.Tables.{slots, Counted, table_of}
use Rattle.table.specs.declared.Table.{Table}

-- the marks of a task, of an activity's codel kind (start or stop), of a codel; the mark that is never asked for; how many there are
abbrev pub task_mark : ℕ → ℕ
task_mark t = t

abbrev pub kind_mark : ℕ → ℕ → ℕ
kind_mark z a = most_tasks + most_acts * z + a

abbrev pub codel_mark : ℕ → ℕ
codel_mark c = most_tasks + 2 * most_acts + c

abbrev pub no_mark : ℕ
no_mark = codel_mark most_codels

abbrev pub marks_length : ℕ
marks_length = no_mark + 1

-- the mark that a row makes
unfoldable pub mark_of : Row → ℕ
mark_of r =
    pick (eqb r.kind 1) (task_mark r.a)
    (pick (eqb r.kind 2) (pick (ltb r.b 2) (kind_mark r.b r.a) no_mark)
    (pick (eqb r.kind 3) (codel_mark r.a) no_mark))

abbrev pub marked : List ℕ → ℕ → Bool
marked marks i = eqb (get_or marks i 0) 1

-- the marks agree with the rows
pub record Marked (K : model.Table) (marks : List ℕ) : Type 0 where
  pub size : length marks ≡ marks_length
  pub tasks : (t : ℕ) → t < most_tasks → marked marks (task_mark t) ≡ has_act K t
  pub kinds : (z a : ℕ) → z < 2 → a < most_acts → marked marks (kind_mark z a) ≡ some K.ncodels (model.is_kind K a z)
  pub codels : (c : ℕ) → c < most_codels → marked marks (codel_mark c) ≡ leaves K c

-- a table that is being built, row by accepted row, with its marks
pub record Building (t : Table) (marks : List ℕ) : Type 0 where
  pub size : length t.rows ≡ slots
  pub counted : Counted t.counts
  pub noted : Marked (table_of t) marks
