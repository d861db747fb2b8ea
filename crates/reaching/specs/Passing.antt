-- A log gone through line after line, with nothing told of it, as the code does it; and block after block, as the program reads standard input.
use Rattle.std.specs.Prelude.{ℕ, Bool, true, false, not, List, [], ◌∷◌, ◌++◌, ◌≡◌, get_or, take, drop, Option, Some, None}
use Rattle.text.specs.Parts.{pick, split_on}
use Rattle.text.specs.Put.{Put}
use Rattle.model.specs.Tests.{◌or◌, accepted}
use Rattle.model.specs.Tables.{Table}
use Rattle.model.specs.Rules.{refusal, next}
use Rattle.model.specs.States.{fresh}
use Rattle.model.specs.declared.State.{State}
use Rattle.model.specs.declared.Step.{Step}
use Rattle.logs.specs.Lines.{set_digits, read_step}
use Rattle.table.specs.Tables.{table_of}
use Rattle.table.specs.Texts.{read_table}
use Rattle.saved.specs.Rows.{begins_row}
use Rattle.tally.specs.Tallies.{no_tally, tallied, lines_of}
use Rattle.tally.specs.declared.Tally.{Tally}
use Rattle.entries.specs.Entries.{Resumed, resumed}
use Rattle.engine.specs.Starts.{going_at}
use Rattle.engine.specs.declared.Going.{Going}
use Rattle.engine.specs.declared.Ran.{Ran}
use Rattle.stream.specs.Cut.{cut_of, cut_known}
use Rattle.stream.specs.Chunk.{chunk_end}
use Rattle.judging.specs.Report.{refusal_of}
use Rattle.reaching.specs.Reaching.{Reach, refused, reach_at}
use Rattle.reaching.specs.declared.Turn.{Turn}

-- what a log comes to: the state and the tally reached, and the refusal, 0 for none
pub record Passed : Type 0 where
  pub state : State
  pub tally : Tally
  pub number : ℕ

abbrev pub stays : State → Tally → ℕ → Passed
stays s c n = record { state = s; tally = c; number = n }

abbrev pub past_step : Table → State → Tally → Step → (State → Tally → Passed) → Passed
past_step K s c x go = pick (accepted (refusal K s x)) (go (next K s x) (tallied K s x c)) (stays s c (refusal K s x))

abbrev pub past_row : State → Tally → Resumed → (State → Tally → Passed) → Passed
past_row s c r go = pick (accepted r.number) (go r.state r.tally) (stays s c r.number)

abbrev pub past_line : Table → State → Tally → List ℕ → Option Step → (State → Tally → Passed) → Passed
past_line K s c p (Some x) go = past_step K s c x go
past_line K s c p None go = pick (begins_row p) (past_row s c (resumed K s c p) go) (stays s c 11)

abbrev pub past_last : State → Tally → List ℕ → Passed
past_last s c [] = stays s c 0
past_last s c (b ∷ p) = stays s c 11

-- the lines of a log, parted at its newlines
unfoldable pub passed : Table → State → Tally → List (List ℕ) → Passed
passed K s c [] = stays s c 0
passed K s c (p ∷ []) = past_last s c p
passed K s c (p ∷ q ∷ ps) = past_line K s c p (read_step set_digits p) (λ w d. passed K w d (q ∷ ps))

-- what the code hands back of it
pub record Passes (x : Passed) (r : Ran) : Type 0 where
  pub going : r.going ≡ going_at x.state x.tally
  pub refusal : refusal_of r.stop ≡ x.number

-- where it ends
abbrev pub end_of : Table → Passed → Reach
end_of K x = reach_at K x.state x.number (lines_of x.tally)

-- Block after block. What is carried: the bytes that came, while they do not say where the table ends; then the table, the state, the tally
-- and the bytes that are no whole line yet; then the answer.
pub data Carried : Type 0 where
  at_table : List ℕ → Carried
  at_log : Table → State → Tally → List ℕ → Carried
  over : Reach → Carried

-- the log's bytes at hand: it is over at a refusal and at the input's end
abbrev pub is_over : Bool → ℕ → Bool
is_over ended n = ended or not (accepted n)

abbrev pub after_lines : Table → Bool → List ℕ → Passed → Carried
after_lines K ended rest x = pick (is_over ended x.number) (over (end_of K x)) (at_log K x.state x.tally rest)

abbrev pub on_log : Table → State → Tally → Bool → List ℕ → Carried
on_log K s c ended hand = after_lines K ended (drop (chunk_end ended hand) hand) (passed K s c (split_on 10 (take (chunk_end ended hand) hand)))

-- the table at hand with the log's bytes behind it
abbrev pub behind_table : Bool → Table → List ℕ → List ℕ → Carried
behind_table ended K log [] = on_log K fresh no_tally ended log
behind_table ended K log (n ∷ ls) = over (refused n (get_or ls 0 0))

abbrev pub on_input : Bool → List ℕ → Carried
on_input ended hand =
    pick (cut_known ended hand)
    (behind_table ended (table_of (read_table (take (cut_of hand) hand)).table) (drop (cut_of hand) hand) (read_table (take (cut_of hand) hand)).numbers)
    (at_table hand)

-- a block that came, or none where the input has ended
abbrev pub turn : Bool → Carried → List ℕ → Carried
turn ended (at_table held) block = on_input ended (held ++ block)
turn ended (at_log K s c held) block = on_log K s c ended (held ++ block)
turn ended (over x) block = over x

-- what is carried behind all blocks and the input's end
abbrev pub carried_by : Carried → List (List ℕ) → Carried
carried_by c [] = turn true c []
carried_by c (b ∷ bs) = carried_by (turn false c b) bs

-- a turn as the code does it, over a block that holds the bytes at hand at its front
pub record Turned (K : Table) (g : Going) (ended : Bool) (block : List ℕ) (have : ℕ) (r : Turn) (block' : List ℕ) : Type 0 where
  pub going : r.going ≡ going_at (passed K g.state g.tally (split_on 10 (take (chunk_end ended (take have block)) (take have block)))).state (passed K g.state g.tally (split_on 10 (take (chunk_end ended (take have block)) (take have block)))).tally
  pub refusal : r.refusal ≡ (passed K g.state g.tally (split_on 10 (take (chunk_end ended (take have block)) (take have block)))).number
  pub over : r.over ≡ is_over ended r.refusal
  pub held : Put block 0 (drop (chunk_end ended (take have block)) (take have block)) r.held block'
