-- The state that a log reaches, as its row: "gives the row of the state after a log's last line", which a recorder puts first into the next
-- file of a drive.
use Rattle.std.specs.Prelude.{ℕ, zero, suc, ◌+◌, List, [], ◌∷◌, ◌++◌, ◌≡◌, length, get_or, ltb, leb}
use Rattle.std.proofs.lemmas.List.Edits.{sets}
use Rattle.text.specs.Parts.{pick, split_on}
use Rattle.text.specs.Number.{digits}
use Rattle.model.specs.Tables.{Table}
use Rattle.model.specs.Logs.{reached}
use Rattle.model.specs.Cycles.{Entry, steps_of, stop_on, lines_done}
use Rattle.model.specs.declared.State.{State}
use Rattle.table.specs.Tables.{table_of}
use Rattle.table.specs.Texts.{read_table}
use Rattle.table.specs.declared.Table as rows
use Rattle.saved.specs.Rows.{row_text}
use Rattle.entries.specs.Entries.{entries_in, start_of}

-- the row of the state behind the last line; or the first refusal with its line
pub data Reach : Type 0 where
  row : List ℕ → Reach
  refused : ℕ → ℕ → Reach

-- where a log ends at a state with a refusal, 0 for none, behind so many lines
abbrev pub reach_at : Table → State → ℕ → ℕ → Reach
reach_at K z zero n = row (row_text K z)
reach_at K z (suc r) n = refused (suc r) (n + 1)

-- the lines of a log from a state on
abbrev pub reach_from : Table → State → List Entry → Reach
reach_from K s es = reach_at K (reached K s (steps_of K s es)) (stop_on K s es) (lines_done K s es)

unfoldable pub log_reach : Table → List ℕ → Reach
log_reach K log = reach_from K (start_of K (split_on 10 log)) (entries_in K (split_on 10 log))

-- a table's text and a log: a refused table has its own number and line
abbrev pub answer_reach : rows.Table → List ℕ → List ℕ → Reach
answer_reach t log [] = log_reach (table_of t) log
answer_reach t log (n ∷ ls) = refused n (get_or ls 0 0)

unfoldable pub reach_on : List ℕ → List ℕ → Reach
reach_on table log = answer_reach (read_table table).table log (read_table table).numbers

-- "the answer is the length written, or 0 with the buffer unchanged"
abbrev pub length_of : Reach → ℕ → ℕ
length_of (row p) room = pick (leb (length p) room) (length p) 0
length_of (refused n l) room = 0

abbrev pub written_of : Reach → List ℕ → List ℕ
written_of (row p) buf = pick (leb (length p) (length buf)) (sets buf 0 p) buf
written_of (refused n l) buf = buf

-- "the pair is number and line of the refusal, 31 and 0 where the answer does not fit, 0 and 0 where there is none"
abbrev pub pair_of : Reach → ℕ → List ℕ
pair_of (row p) room = pick (leb (length p) room) (0 ∷ 0 ∷ []) (31 ∷ 0 ∷ [])
pair_of (refused n l) room = n ∷ l ∷ []

-- "A pair lent too short is left alone."
abbrev pub pair_over : List ℕ → List ℕ → List ℕ
pair_over ns pair = pick (ltb (length pair) 2) pair (sets pair 0 ns)

pub record Reaches (x : Reach) (buf pair : List ℕ) (r : ℕ) (buf' pair' : List ℕ) : Type 0 where
  pub size : r ≡ length_of x (length buf)
  pub bytes : buf' ≡ written_of x buf
  pub numbers : pair' ≡ pair_over (pair_of x (length buf)) pair

-- what the program writes: the row to standard output, or to standard error "one line, the number, a tab and the line"
abbrev pub reach_text : Reach → List ℕ
reach_text (row p) = p
reach_text (refused n l) = digits n ++ 9 ∷ digits l ++ 10 ∷ []
