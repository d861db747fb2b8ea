-- What is counted beside a run: the numbers that the `sum` row needs.
use Rattle.std.specs.Prelude.{ℕ, ◌+◌, ◌≤◌, max}
use Rattle.text.specs.Parts.{pick}
use Rattle.model.specs.Tables.{Table}
use Rattle.model.specs.Logs.{is_wait}
use Rattle.model.specs.Cycles.{SumRow, row_at, managing, line_of, Verdict, none, kept, dropped, verdict, verdict_on, opens, drops}
use Rattle.model.specs.declared.State.{State}
use Rattle.model.specs.declared.Task.{Task}
use Rattle.model.specs.declared.TaskStep.{TaskStep}
use Rattle.model.specs.declared.TaskStep.TheVariants.{St, Fm}
use Rattle.model.specs.declared.Step.{Step}
use Rattle.report.specs.Rows.{cycle_of}
use Rattle.tally.specs.declared.Tally.{Tally}
use Rattle.tally.specs.declared.Ruling.{Ruling}
use Rattle.tally.specs.declared.Ruling.TheVariants.{Open, Kept, Dropped}

-- nothing counted yet
abbrev pub no_tally : Tally
no_tally = record { steps = 0; rows = 0; opened = 0; kept = 0; dropped = 0; since = 0; most = 0 }

-- a verdict as the code has it
abbrev pub ruling_of : Verdict → Ruling
ruling_of none = Open
ruling_of (kept r) = Kept (cycle_of r)
ruling_of dropped = Dropped

-- how many cycles a verdict keeps
abbrev pub keeps_one : Verdict → ℕ
keeps_one none = 0
keeps_one (kept r) = 1
keeps_one dropped = 0

-- the tally after an accepted step with its verdict; `since` counts the steps since the last wait, `most` is the most of the stretches
-- that a wait has ended
abbrev pub counted : Step → Verdict → Tally → Tally
counted x v c = record {
  steps = c.steps + 1;
  rows = c.rows;
  opened = c.opened + opens x;
  kept = c.kept + keeps_one v;
  dropped = c.dropped + drops v;
  since = pick (is_wait x) 0 (c.since + 1);
  most = pick (is_wait x) (max c.most c.since) c.most;
}

abbrev pub tallied : Table → State → Step → Tally → Tally
tallied K s x c = counted x (verdict K s x) c

-- the same by kind of step, as the code has it
abbrev pub after_wait : Tally → Tally
after_wait c = record { steps = c.steps + 1; rows = c.rows; opened = c.opened; kept = c.kept; dropped = c.dropped; since = 0; most = max c.most c.since }

abbrev pub after_sm : Tally → Tally
after_sm c = record { steps = c.steps + 1; rows = c.rows; opened = c.opened + 1; kept = c.kept; dropped = c.dropped; since = c.since + 1; most = c.most }

abbrev pub after_step : Tally → Ruling → Tally
after_step c Open = record { steps = c.steps + 1; rows = c.rows; opened = c.opened; kept = c.kept; dropped = c.dropped; since = c.since + 1; most = c.most }
after_step c (Kept r) = record { steps = c.steps + 1; rows = c.rows; opened = c.opened; kept = c.kept + 1; dropped = c.dropped; since = c.since + 1; most = c.most }
after_step c Dropped = record { steps = c.steps + 1; rows = c.rows; opened = c.opened; kept = c.kept; dropped = c.dropped + 1; since = c.since + 1; most = c.most }

-- how many lines were accepted: steps and `state` rows
abbrev pub lines_of : Tally → ℕ
lines_of c = c.steps + c.rows

-- the tally after a `state` row that equals the state reached: a line, no step
abbrev pub after_row : Tally → Tally
after_row c = record { steps = c.steps; rows = c.rows + 1; opened = c.opened; kept = c.kept; dropped = c.dropped; since = c.since; most = c.most }

-- the tally of a log whose first line, a `state` row, sets the state: "managing tasks at the start count as opened"
unfoldable pub began : Table → State → Tally
began K s = record { steps = 0; rows = 1; opened = managing K s; kept = 0; dropped = 0; since = 0; most = 0 }

-- the same by how many tasks manage there
abbrev pub begun_with : ℕ → Tally
begun_with opened = record { steps = 0; rows = 1; opened = opened; kept = 0; dropped = 0; since = 0; most = 0 }

-- the verdict on a task whose record is x, at a date
abbrev pub ruled_by : Table → ℕ → ℕ → Task → Ruling
ruled_by K t date x = ruling_of (verdict_on K (row_at t date x))

abbrev pub ruling_by : Table → ℕ → TaskStep → ℕ → Task → Ruling
ruling_by K t St date x = Open
ruling_by K t Fm date x = ruled_by K t date x

-- the most a count may come to
abbrev pub most_count : ℕ
most_count = 9223372036854775808

-- each count can still grow by n
pub record Roomy (c : Tally) (n : ℕ) : Type 0 where
  pub lines : c.steps + c.rows + n ≤ most_count
  pub opened : c.opened + n ≤ most_count
  pub kept : c.kept + n ≤ most_count
  pub dropped : c.dropped + n ≤ most_count
  pub since : c.since + n ≤ most_count

-- the `sum` row where judging ends with a refusal, or 0 for none
abbrev pub sum_of : Table → State → Tally → ℕ → SumRow
sum_of K s c n = record {
  steps = c.steps;
  date = s.date;
  opened = c.opened;
  kept = c.kept;
  dropped = c.dropped;
  managing = managing K s;
  most = max c.most c.since;
  refusal = n;
  line = line_of n (lines_of c);
}
