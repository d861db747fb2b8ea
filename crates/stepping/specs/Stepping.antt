-- One step on a log line, with everything given by value: 19, then 11, then 12 to 18. "A refusal returns the number and the state as it
-- came."
use Rattle.std.specs.Prelude.{ℕ, List, Option, Some, None}
use Rattle.text.specs.Parts.{pick}
use Rattle.model.specs.Tests.{accepted}
use Rattle.model.specs.Tables.{Table}
use Rattle.model.specs.Sound.{sound}
use Rattle.model.specs.Rules.{refusal, next, line_refusal}
use Rattle.model.specs.declared.State.{State}
use Rattle.model.specs.declared.Step.{Step}
use Rattle.logs.specs.Lines.{set_digits, read_line}
use Rattle.table.specs.Checks.{check_table}
use Rattle.table.specs.Tables.{table_of}
use Rattle.table.specs.Texts.{is_empty}
use Rattle.table.specs.declared.Table as rows
use Rattle.stepping.specs.declared.Stepped.{Stepped}

abbrev pub on_step : Table → State → Option Step → State
on_step K s None = s
on_step K s (Some x) = pick (accepted (refusal K s x)) (next K s x) s

abbrev pub line_stepped : Table → State → Option Step → Stepped
line_stepped K s l = record { number = line_refusal K s l; state = on_step K s l }

-- 19: "table that the reader would refuse, or state not sound"
unfoldable pub stepped : rows.Table → State → List ℕ → Stepped
stepped t s l =
    pick (is_empty (check_table t).numbers)
    (pick (sound (table_of t) s)
    (line_stepped (table_of t) s (read_line set_digits l))
    (record { number = 19; state = s }))
    (record { number = 19; state = s })
