-- The turns as the code does them: over a block that holds the bytes at hand at its front, and a buffer that is filled with the bytes told.
use Rattle.std.specs.Prelude.{ℕ, Bool, List, ◌≡◌, length, take, drop, Option, Some, None}
use Rattle.text.specs.Parts.{pick}
use Rattle.text.specs.Put.{Put}
use Rattle.model.specs.Limits.{most_tasks, most_acts}
use Rattle.model.specs.Tables.{Table}
use Rattle.table.specs.Checks.{Said}
use Rattle.table.specs.Texts.{is_empty, read_table}
use Rattle.table.specs.declared.Table as rows
use Rattle.engine.specs.Play.{Played, Ready}
use Rattle.engine.specs.Starts.{going_at}
use Rattle.engine.specs.declared.Going.{Going}
use Rattle.stream.specs.Cut.{cut_of}
use Rattle.streaming.specs.Turns.{left, played_now, is_over, told_of, opening}
use Rattle.streaming.specs.declared.Turn.{Turn}
use Rattle.streaming.specs.declared.Opened.{Opened}

-- a log goes on from here: a sound state that has all its records, and beside it what follows from it
pub record Resumes (K : Table) (g : Going) : Type 0 where
  pub tasks : length g.state.tasks ≡ most_tasks
  pub acts : length g.state.acts ≡ most_acts
  pub ready : Ready K g

-- the bytes at hand came to p: its rows and the `sum` row where it ends are written, the bytes left are at the front of the block
pub record Turned (K : Table) (ended : Bool) (hand : List ℕ) (p : Played) (block out : List ℕ) (r : Turn) (block' out' : List ℕ) : Type 0 where
  pub going : r.going ≡ going_at p.state p.tally
  pub over : r.over ≡ is_over ended p.stop
  pub told : Put out 0 (told_of K ended p) r.told out'
  pub held : Put block 0 (left ended hand) r.held block'

-- the first `have` bytes of a block judged
abbrev pub Judged : Table → Going → Bool → List ℕ → ℕ → List ℕ → Turn → List ℕ → List ℕ → Type 0
Judged K g ended block have out r block' out' =
    Turned K ended (take have block) (played_now (length out) K g.state g.tally ended (take have block)) block out r block' out'

-- the table of a text that is accepted
abbrev pub accepted : Said → Option rows.Table
accepted w = pick (is_empty w.numbers) (Some w.table) None

-- the table at the front of the bytes at hand is read: the header or its refusal is written, the bytes behind it are at the front of the block
pub record Opens (hand block out : List ℕ) (r : Opened) (block' out' : List ℕ) : Type 0 where
  pub table : r.table ≡ accepted (read_table (take (cut_of hand) hand))
  pub told : Put out 0 (opening (read_table (take (cut_of hand) hand)).numbers) r.told out'
  pub held : Put block 0 (drop (cut_of hand) hand) r.held block'
