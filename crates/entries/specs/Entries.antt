-- What the lines of a log say, its `state` rows with them, and what such a row does: "A `state` row later in a log must equal the state
-- reached. .. Refusals: 11 for one that does not read, 20 for a `state` row that is not sound, 21 for one that differs, both after 11."
use Rattle.std.specs.Prelude.{ℕ, Bool, List, [], ◌∷◌, eqb, Option, Some, None}
use Rattle.text.specs.Parts.{pick}
use Rattle.text.specs.Words.{same_list}
use Rattle.model.specs.Tests.{◌and◌, need, accepted}
use Rattle.model.specs.Tables.{Table}
use Rattle.model.specs.States.{fresh}
use Rattle.model.specs.Sound.{sound}
use Rattle.model.specs.Cycles.{Entry, step, row, neither}
use Rattle.model.specs.declared.State.{State}
use Rattle.model.specs.declared.Step.{Step}
use Rattle.logs.specs.Lines.{set_digits, read_step}
use Rattle.saved.specs.Rows.{Read, begins_row, row_line, refused, read_state}
use Rattle.tally.specs.Tallies.{lines_of, after_row, began}
use Rattle.tally.specs.declared.Tally.{Tally}

-- the state that a row says
abbrev pub row_state : Table → List ℕ → State
row_state K p = (read_state K p).state

-- 11 and 20, whatever the state reached
unfoldable pub row_number : Table → List ℕ → ℕ
row_number K p = pick (accepted (read_state K p).number) (need (sound K (row_state K p)) 20 0) (read_state K p).number

-- 21 behind them: a row that is sound is the row of one state only, so it equals the state reached where it is that state's row
unfoldable pub row_refusal : Table → State → List ℕ → ℕ
row_refusal K s p = pick (accepted (row_number K p)) (need (same_list p (row_line K s)) 21 0) (row_number K p)

-- what a line with its newline says; one that begins `state` and a tab is never a step
unfoldable pub entry_by : Table → List ℕ → Option Step → Entry
entry_by K p (Some x) = step x
entry_by K p None = pick (begins_row p) (row (λ s. row_refusal K s p)) neither

-- what stands behind the last newline: nothing is no line, anything else is a line without newline
abbrev pub end_entry : List ℕ → List Entry
end_entry [] = []
end_entry (b ∷ p) = neither ∷ []

-- what the lines of a log say, parted at its newlines
unfoldable pub entries_in : Table → List (List ℕ) → List Entry
entries_in K [] = []
entries_in K (p ∷ []) = end_entry p
entries_in K (p ∷ q ∷ ps) = entry_by K p (read_step set_digits p) ∷ entries_in K (q ∷ ps)

-- "A file may now start with a `state` row": the state that a log begins with. "On line 1 it sets the state"; one that is refused does not.
abbrev pub sets : Table → List ℕ → Bool
sets K p = begins_row p and accepted (row_number K p)

unfoldable pub start_of : Table → List (List ℕ) → State
start_of K [] = fresh
start_of K (p ∷ []) = fresh
start_of K (p ∷ q ∷ ps) = pick (sets K p) (row_state K p) fresh

-- a row that is taken at a state and a tally: on line 1 it sets both, on any later line it only counts as a line; where it is refused both
-- stay
pub record Resumed : Type 0 where
  pub number : ℕ
  pub state : State
  pub tally : Tally

abbrev pub stays : ℕ → State → Tally → Resumed
stays n s c = record { number = n; state = s; tally = c }

abbrev pub on_first : Table → State → Tally → List ℕ → Resumed
on_first K s c p = pick (accepted (row_number K p)) (stays 0 (row_state K p) (began K (row_state K p))) (stays (row_number K p) s c)

abbrev pub on_later : Table → State → Tally → List ℕ → Resumed
on_later K s c p = pick (accepted (row_refusal K s p)) (stays 0 s (after_row c)) (stays (row_refusal K s p) s c)

unfoldable pub resumed : Table → State → Tally → List ℕ → Resumed
resumed K s c p = pick (eqb (lines_of c) 0) (on_first K s c p) (on_later K s c p)

-- a row with its number, and its state where that is 0
abbrev pub sound_row : Table → List ℕ → Read
sound_row K p = pick (accepted (row_number K p)) (record { number = 0; state = row_state K p }) (refused (row_number K p))
