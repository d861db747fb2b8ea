-- A log played with its `state` rows: how one is taken, and a run that leaves at none.
use Rattle.std.specs.Prelude.{ℕ, ◌-◌, ◌≤◌, false, List, ◌≡◌, length, Result, Ok, Err}
use Rattle.model.specs.Tables.{Table}
use Rattle.model.specs.Refusals.{number_of}
use Rattle.model.specs.declared.refusal.Refusal.{Refusal}
use Rattle.entries.specs.Entries.{resumed}
use Rattle.tally.specs.Tallies.{Roomy}
use Rattle.engine.specs.Play.{pieces, played, Ready, Runs, is_row}
use Rattle.engine.specs.Starts.{going_at}
use Rattle.engine.specs.declared.Going.{Going}
use Rattle.engine.specs.declared.Ran.{Ran}

-- a row's refusal, 0 where it is taken, and what is carried behind it
pub record Resumed : Type 0 where
  pub number : ℕ
  pub going : Going

abbrev pub resumed_to : ℕ → Going → Resumed
resumed_to n g = record { number = n; going = g }

-- by the answer, with what is carried behind it
abbrev pub resumed_by : Going → Result (Unit {0}) Refusal → Resumed
resumed_by h (Ok u) = resumed_to 0 h
resumed_by h (Err r) = resumed_to (number_of r) h

-- the line of a row taken where a run left
pub record Resumes (K : Table) (g : Going) (line : List ℕ) (r : Resumed) : Type 0 where
  pub number : r.number ≡ (resumed K g.state g.tally line).number
  pub going : r.going ≡ going_at (resumed K g.state g.tally line).state (resumed K g.state g.tally line).tally

-- a log that goes on from another place, with what is carried there: it comes to what it comes to from the first
pub record Begins (K : Table) (log : List ℕ) (from : ℕ) (g : Going) (h : Going) (at : ℕ) : Type 0 where
  pub played : (room : ℕ) → played K h.state h.tally room (pieces log at) ≡ played K g.state g.tally room (pieces log from)
  pub within : from ≤ at
  pub inside : at ≤ length log
  pub ready : Ready K h
  pub roomy : Roomy h.tally (length log - at)

pub record Plays (K : Table) (log : List ℕ) (from : ℕ) (g : Going) (buf : List ℕ) (place : ℕ) (r : Ran) (after : List ℕ) : Type 0 where
  pub runs : Runs K log from g buf place r after
  pub whole : is_row r.stop ≡ false
