-- A log played by the rules, line after line, up to its end, the first refusal, or a kept cycle whose row has no room; the rows of the
-- cycles kept before are told on the way, and each `state` row is taken where it stands.
use Rattle.std.specs.Prelude.{ℕ, ◌+◌, ◌-◌, ◌≤◌, ◌<◌, Bool, true, false, List, [], ◌∷◌, ◌++◌, ◌≡◌, length, take, drop, T, leb, eqb, Option, Some, None}
use Rattle.std.proofs.lemmas.List.Edits.{sets}
use Rattle.text.specs.Parts.{pick, split_on, first_at}
use Rattle.model.specs.Tests.{accepted}
use Rattle.model.specs.Tables.{Table}
use Rattle.model.specs.Sound.{sound}
use Rattle.model.specs.Rules.{refusal, next}
use Rattle.model.specs.Cycles.{Verdict, none, kept, dropped, verdict}
use Rattle.model.specs.declared.State.{State}
use Rattle.model.specs.declared.Step.{Step}
use Rattle.report.specs.Rows.{cycle_of, cycle_text}
use Rattle.report.specs.declared.Cycle.{Cycle}
use Rattle.logs.specs.Lines.{set_digits, read_step}
use Rattle.saved.specs.Rows.{begins_row}
use Rattle.entries.specs.Entries.{row_refusal, Resumed, resumed}
use Rattle.conflicts.specs.Busy.{busy_in}
use Rattle.managing.specs.Listed.{listed_in}
use Rattle.tally.specs.Tallies.{lines_of, after_row, tallied, Roomy}
use Rattle.tally.specs.declared.Tally.{Tally}
use Rattle.engine.specs.declared.Stop.{Stop}
use Rattle.engine.specs.declared.Stop.TheVariants.{End, Refused, Closed, Row}
use Rattle.engine.specs.declared.Going.{Going}
use Rattle.engine.specs.declared.Ran.{Ran}

-- the lines of a log: what stands between its newlines; behind the last newline stands no line, or one without newline
abbrev pub pieces : List ℕ → ℕ → List (List ℕ)
pieces log at = split_on 10 (drop at log)

-- what a log comes to: the rows told, the state and the tally reached, why it stopped, and the lines left
pub record Played : Type 0 where
  pub text : List ℕ
  pub state : State
  pub tally : Tally
  pub stop : Stop
  pub rest : List (List ℕ)

-- these rows are told, and it stopped
abbrev pub played_to : List ℕ → State → Tally → Stop → List (List ℕ) → Played
played_to text s c w rest = record { text = text; state = s; tally = c; stop = w; rest = rest }

abbrev pub stopped : State → Tally → Stop → List (List ℕ) → Played
stopped s c w rest = played_to [] s c w rest

-- these rows are told, and then the rest
abbrev pub telling : List ℕ → Played → Played
telling text p = played_to (text ++ p.text) p.state p.tally p.stop p.rest

-- behind the last newline: "line without newline" is 11, nothing is the end
abbrev pub last_line : State → Tally → List ℕ → Played
last_line s c [] = stopped s c End ([] ∷ [])
last_line s c (b ∷ p) = stopped s c (Refused 11) ((b ∷ p) ∷ [])

-- a kept cycle: where its row has room it is told, and the log goes on with the room left; else it stops there
abbrev pub on_kept : Cycle → State → Tally → ℕ → List (List ℕ) → (ℕ → Played) → Played
on_kept k s c room rest go =
    pick (leb (length (cycle_text k)) room)
    (telling (cycle_text k) (go (room - length (cycle_text k))))
    (stopped s c (Closed k) rest)

-- an accepted step: only a kept cycle is told
abbrev pub on_verdict : Verdict → State → Tally → ℕ → List (List ℕ) → (ℕ → Played) → Played
on_verdict none s c room rest go = go room
on_verdict (kept r) s c room rest go = on_kept (cycle_of r) s c room rest go
on_verdict dropped s c room rest go = go room

-- a step, accepted or refused
abbrev pub on_step : Table → State → Tally → ℕ → Step → List (List ℕ) → List (List ℕ) → (State → Tally → ℕ → Played) → Played
on_step K s c room x here rest go =
    pick (accepted (refusal K s x))
    (on_verdict (verdict K s x) (next K s x) (tallied K s x c) room rest (go (next K s x) (tallied K s x c)))
    (stopped s c (Refused (refusal K s x)) here)

-- a `state` row, taken or refused: a line, no step
abbrev pub on_row : State → Tally → ℕ → Resumed → List (List ℕ) → (State → Tally → ℕ → Played) → Played
on_row s c room r here go = pick (accepted r.number) (go r.state r.tally room) (stopped s c (Refused r.number) here)

-- a line with its newline
abbrev pub on_line : Table → State → Tally → ℕ → List ℕ → Option Step → List (List ℕ) → List (List ℕ) → (State → Tally → ℕ → Played) → Played
on_line K s c room p None here rest go = pick (begins_row p) (on_row s c room (resumed K s c p) here go) (stopped s c (Refused 11) here)
on_line K s c room p (Some x) here rest go = on_step K s c room x here rest go

-- the lines of a log, with so much room for rows
unfoldable pub played : Table → State → Tally → ℕ → List (List ℕ) → Played
played K s c room [] = stopped s c End []
played K s c room (p ∷ []) = last_line s c p
played K s c room (p ∷ q ∷ ps) = on_line K s c room p (read_step set_digits p) (p ∷ q ∷ ps) (q ∷ ps) (λ w d n. played K w d n (q ∷ ps))

-- a `state` row that goes by: it stands behind line 1 and equals the state reached
unfoldable pub goes_by : Table → State → Tally → List ℕ → Bool
goes_by K s c p = pick (begins_row p) (pick (eqb (lines_of c) 0) false (accepted (row_refusal K s p))) false

-- a line with its newline where every other `state` row is left to the caller
abbrev pub up_to_row : Table → State → Tally → ℕ → List ℕ → Option Step → List (List ℕ) → List (List ℕ) → (State → Tally → ℕ → Played) → Played
up_to_row K s c room p None here rest go = pick (goes_by K s c p) (go s (after_row c) room) (stopped s c (pick (begins_row p) Row (Refused 11)) here)
up_to_row K s c room p (Some x) here rest go = on_step K s c room x here rest go

-- the lines of a log up to the first row that does not go by, with so much room for rows
unfoldable pub paused : Table → State → Tally → ℕ → List (List ℕ) → Played
paused K s c room [] = stopped s c End []
paused K s c room (p ∷ []) = last_line s c p
paused K s c room (p ∷ q ∷ ps) = up_to_row K s c room p (read_step set_digits p) (p ∷ q ∷ ps) (q ∷ ps) (λ w d n. paused K w d n (q ∷ ps))

-- what is carried from run to run: a sound state, and beside it what follows from it
pub record Ready (K : Table) (g : Going) : Type 0 where
  pub sound : T (sound K g.state)
  pub busy : g.busy ≡ busy_in g.state
  pub listed : g.listed ≡ listed_in g.state

abbrev pub is_closed : Stop → Bool
is_closed End = false
is_closed (Refused n) = false
is_closed (Closed c) = true
is_closed Row = false

abbrev pub is_row : Stop → Bool
is_row End = false
is_row (Refused n) = false
is_row (Closed c) = false
is_row Row = true

-- where a run left off: it is over; or a `state` row stands there, and the log comes to what it comes to from there on
abbrev pub left_with : Table → List ℕ → State → Tally → ℕ → Stop → List (List ℕ) → Played
left_with K text s c room End rest = played_to text s c End rest
left_with K text s c room (Refused n) rest = played_to text s c (Refused n) rest
left_with K text s c room (Closed k) rest = played_to text s c (Closed k) rest
left_with K text s c room Row rest = telling text (played K s c room rest)

-- the line at a place is a `state` row with its newline
pub record AtRow (log : List ℕ) (at : ℕ) : Type 0 where
  pub ends : first_at log at 10 < length log
  pub begins : begins_row (take (first_at log at 10 - at) (drop at log)) ≡ true

-- a run over a log from a place, its rows written into a buffer from a place on: the rows, the state and the tally reached, the reason and
-- the lines left are those that the log comes to with the room that the buffer has
pub record Runs (K : Table) (log : List ℕ) (from : ℕ) (g : Going) (buf : List ℕ) (place : ℕ) (r : Ran) (after : List ℕ) : Type 0 where
  pub text : List ℕ
  pub played : left_with K text r.going.state r.going.tally (length buf - (place + length text)) r.stop (pieces log r.at) ≡ played K g.state g.tally (length buf - place) (pieces log from)
  pub fits : place + length text ≤ length buf
  pub filled : r.filled ≡ place + length text
  pub bytes : after ≡ sets buf place text
  pub within : from ≤ r.at
  pub inside : r.at ≤ length log
  pub at_row : T (is_row r.stop) → AtRow log r.at
  pub onward : T (is_closed r.stop) → from < r.at
  pub ready : Ready K r.going
  pub roomy : Roomy r.going.tally (length log - r.at)

-- the same of a run that takes no `state` row but those that go by: it leaves at the first other
pub record Pauses (K : Table) (log : List ℕ) (from : ℕ) (g : Going) (buf : List ℕ) (place : ℕ) (r : Ran) (after : List ℕ) : Type 0 where
  pub runs : Runs K log from g buf place r after
  pub paused : played_to runs.text r.going.state r.going.tally r.stop (pieces log r.at) ≡ paused K g.state g.tally (length buf - place) (pieces log from)
