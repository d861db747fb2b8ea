-- The report told block after block, as the program reads standard input: what is told of each block, and what is carried to the next.
use Rattle.std.specs.Prelude.{ℕ, ◌+◌, ◌*◌, ◌/◌, ◌≤◌, Bool, true, false, List, [], ◌∷◌, ◌++◌, length, get_or, take, drop}
use Rattle.text.specs.Parts.{pick, split_on}
use Rattle.model.specs.Cycles.{refused_report}
use Rattle.model.specs.States.{fresh}
use Rattle.model.specs.Tables.{Table}
use Rattle.model.specs.declared.State.{State}
use Rattle.table.specs.Tables.{table_of}
use Rattle.table.specs.Texts.{read_table}
use Rattle.table.specs.declared.Table as rows
use Rattle.report.specs.Rows.{head_text, sum_text}
use Rattle.tally.specs.Tallies.{no_tally, sum_of}
use Rattle.tally.specs.declared.Tally.{Tally}
use Rattle.engine.specs.Play.{Played, played}
use Rattle.engine.specs.declared.Stop.{Stop}
use Rattle.engine.specs.declared.Stop.TheVariants.{End, Refused, Closed, Row}
use Rattle.stream.specs.Cut.{cut_of, cut_known}
use Rattle.stream.specs.Chunk.{chunk_end}
use Rattle.judging.specs.Report.{report_text, refusal_of}

-- what is carried from block to block: the bytes that came, while they do not say where the table ends; then the table, the state and the
-- tally that the log has reached, and the bytes that are no whole line yet; nothing once the report is told
pub data Carried : Type 0 where
  at_table : List ℕ → Carried
  at_log : Table → State → Tally → List ℕ → Carried
  over : Carried

-- the bytes told now, and what is carried on
pub record Telling : Type 0 where
  pub bytes : List ℕ
  pub next : Carried

-- of a log's bytes at hand: those that are judged now, and those left for later
abbrev pub taken : Bool → List ℕ → List ℕ
taken ended hand = take (chunk_end ended hand) hand

abbrev pub left : Bool → List ℕ → List ℕ
left ended hand = drop (chunk_end ended hand) hand

-- what is judged now comes to this, with so much room for rows
abbrev pub played_now : ℕ → Table → State → Tally → Bool → List ℕ → Played
played_now room K s c ended hand = played K s c room (split_on 10 (taken ended hand))

-- the judging ends with the input, and at the first refusal
abbrev pub is_over : Bool → Stop → Bool
is_over ended End = ended
is_over ended (Refused n) = true
is_over ended (Closed k) = ended
is_over ended Row = ended

-- where it ends the `sum` row is told
abbrev pub end_text : Table → State → Tally → Stop → Bool → List ℕ
end_text K s c w done = pick done (sum_text (sum_of K s c (refusal_of w))) []

-- the rows of the cycles kept, then the `sum` row where it ends
abbrev pub told_of : Table → Bool → Played → List ℕ
told_of K ended p = p.text ++ end_text K p.state p.tally p.stop (is_over ended p.stop)

abbrev pub after_lines : Table → Bool → List ℕ → Played → Telling
after_lines K ended rest p = record { bytes = told_of K ended p; next = pick (is_over ended p.stop) over (at_log K p.state p.tally rest) }

-- the bytes of a log at hand
unfoldable pub on_log : ℕ → Table → State → Tally → Bool → List ℕ → Telling
on_log room K s c ended hand = after_lines K ended (left ended hand) (played_now room K s c ended hand)

-- a table that was read, by the numbers of its answer, with the log's bytes behind it: the header and the log, or the report on a refused table
abbrev pub opening : List ℕ → List ℕ
opening [] = head_text
opening (n ∷ ls) = report_text (refused_report n (get_or ls 0 0))

abbrev pub behind_table : ℕ → rows.Table → Bool → List ℕ → List ℕ → Telling
behind_table room t ended log [] = on_log room (table_of t) fresh no_tally ended log
behind_table room t ended log (n ∷ ls) = record { bytes = []; next = over }

abbrev pub on_table : ℕ → Bool → rows.Table → List ℕ → List ℕ → Telling
on_table room ended t ns log = record { bytes = opening ns ++ (behind_table room t ended log ns).bytes; next = (behind_table room t ended log ns).next }

-- the input's bytes at hand, from its start: the table, once they say where it ends
unfoldable pub on_input : ℕ → Bool → List ℕ → Telling
on_input room ended hand =
    pick (cut_known ended hand)
    (on_table room ended (read_table (take (cut_of hand) hand)).table (read_table (take (cut_of hand) hand)).numbers (drop (cut_of hand) hand))
    (record { bytes = []; next = at_table hand })

-- a block that came, or none where the input has ended
abbrev pub turn : ℕ → Bool → Carried → List ℕ → Telling
turn room ended (at_table held) block = on_input room ended (held ++ block)
turn room ended (at_log K s c held) block = on_log room K s c ended (held ++ block)
turn room ended over block = record { bytes = []; next = over }

-- what is told block after block, and at the end of the input
abbrev pub told_by : ℕ → Carried → List (List ℕ) → List ℕ
told_by room c [] = (turn room true c []).bytes
told_by room c (b ∷ bs) = (turn room false c b).bytes ++ told_by room (turn room false c b).next bs

-- the input that these blocks are
abbrev pub joined : List (List ℕ) → List ℕ
joined [] = []
joined (b ∷ bs) = b ++ joined bs

-- the longest block, and blocks no longer than that
abbrev pub most_block : ℕ
most_block = 65536

abbrev pub Short : List (List ℕ) → Type 0
Short [] = Unit {0}
Short (b ∷ bs) = (length b ≤ most_block) × Short bs

-- the most that is told of so many bytes of a log: a `kept` row of 75 bytes at most for each 44 bytes, an `sm` and an `fm` line; the `sm`
-- lines of sixteen tasks, 39 bytes each, may stand before them; and a `sum` row of 193 bytes at most
abbrev pub most_told : ℕ → ℕ
most_told n = 193 + 75 * ((n + 624) / 44)
