-- What one turn of a run reads, and why a run stops.
use Rattle.std.specs.Prelude.{ℕ, ◌-◌, Bool, false, List, length, take, drop, eqb, Option, None}
use Rattle.model.specs.declared.Step.{Step}
use Rattle.text.specs.Parts.{pick}
use Rattle.model.specs.Tables.{Table}
use Rattle.model.specs.declared.State.{State}
use Rattle.logs.specs.Lines.{set_digits, read_step}
use Rattle.saved.specs.Rows.{begins_row}
use Rattle.tally.specs.declared.Tally.{Tally}
use Rattle.engine.specs.Play.{goes_by}
use Rattle.engine.specs.declared.Stop.{Stop}
use Rattle.engine.specs.declared.Stop.TheVariants.{Refused, Row}

-- the line from a place up to the newline at e; none where the log ends first
abbrev pub line_at : List ℕ → ℕ → ℕ → Option Step
line_at log at e = pick (eqb e (length log)) None (read_step set_digits (take (e - at) (drop at log)))

-- whether a `state` row that goes by stands at a place, its line up to the newline at e
abbrev pub passes_at : Table → State → Tally → List ℕ → ℕ → ℕ → Bool
passes_at K s c log at e = pick (eqb e (length log)) false (goes_by K s c (take (e - at) (drop at log)))

-- why a run stops at a refused line: at a `state` row with its newline, which is no step, or refused
abbrev pub row_or : List ℕ → ℕ → ℕ → ℕ → Stop
row_or log at e n = pick (eqb e (length log)) (Refused n) (pick (begins_row (take (e - at) (drop at log))) Row (Refused n))
