-- `play` meets its contract: before each run of the engine the lines left come, behind the rows told, to what all come to from the start.
use Prim.Native.Nat.{◌-◌}
use lib.ListN.{length}
use Rattle.prepared.specs.Prepared.{table_in}
use Rattle.playing.specs.Plays.{Begins}
use Rattle.playing.proofs.Playing.{Reached}
use Rattle.playing.proofs.play.Given as goal

abbrev pub invariant-loop-ran : goal.invariant-loop-ran
invariant-loop-ran l = Begins (table_in l.component.rows l.component.index) l.log l.from l.fn.g l.initial.going l.initial.at
    × Reached (table_in l.component.rows l.component.index) l.log l.initial.at l.initial.going l.initial.buf l.place l.going l.at l.buf l.filled

abbrev pub decreases-loop-ran : goal.decreases-loop-ran
decreases-loop-ran l = length l.log - l.at
