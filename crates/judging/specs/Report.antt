-- The report on a table's text and a log, as bytes.
use Rattle.std.specs.Prelude.{ℕ, ◌-◌, ◌/◌, Bool, List, [], ◌∷◌, ◌++◌, get_or, take, drop, leb}
use Rattle.text.specs.Parts.{split_on}
use Rattle.model.specs.Tests.{◌and◌}
use Rattle.model.specs.Cycles.{Report, report, refused_report}
use Rattle.model.specs.Tables.{Table}
use Rattle.entries.specs.Entries.{entries_in, start_of}
use Rattle.table.specs.Checks.{Said}
use Rattle.table.specs.Tables.{table_of}
use Rattle.table.specs.Texts.{read_table}
use Rattle.table.specs.declared.Table as rows
use Rattle.stream.specs.Cut.{cut_of}
use Rattle.report.specs.Rows.{head_text, rows_text, sum_text}
use Rattle.engine.specs.declared.Stop.{Stop}
use Rattle.engine.specs.declared.Stop.TheVariants as stop

abbrev pub report_text : Report → List ℕ
report_text r = head_text ++ (rows_text r.kept ++ sum_text r.sum)

-- the report on a log, from the state that it begins with
unfoldable pub log_text : Table → List ℕ → List ℕ
log_text K log = report_text (report K (start_of K (split_on 10 log)) (entries_in K (split_on 10 log)))

-- "A refused table gives `cycles 1` and a `sum` row of zeros but for the last two numbers."
abbrev pub answer_text : rows.Table → List ℕ → List ℕ → List ℕ
answer_text t log [] = log_text (table_of t) log
answer_text t log (n ∷ ls) = report_text (refused_report n (get_or ls 0 0))

abbrev pub read_text : Said → List ℕ → List ℕ
read_text r log = answer_text r.table log r.numbers

-- the report on a table's text and a log
unfoldable pub report_on : List ℕ → List ℕ → List ℕ
report_on table log = read_text (read_table table) log

-- the report on the program's input: "the table up to and with the first line that begins `end` and a tab .., then the log"
abbrev pub input_report : List ℕ → List ℕ
input_report s = report_on (take (cut_of s) s) (drop (cut_of s) s)

-- the refusal that a run stopped at, 0 for none
abbrev pub refusal_of : Stop → ℕ
refusal_of stop.End = 0
refusal_of (stop.Refused n) = n
refusal_of (stop.Closed k) = 0
refusal_of stop.Row = 0

-- a buffer surely holds the report on a log of so many bytes: a closed cycle has an `sm` and an `fm` line of its own, 44 bytes at least, and
-- at most one row, of 75 bytes at most; the header and the `sum` row take 202 bytes at most
abbrev pub surely : ℕ → ℕ → Bool
surely room bytes = leb 202 room and leb (bytes / 44) ((room - 202) / 75)
