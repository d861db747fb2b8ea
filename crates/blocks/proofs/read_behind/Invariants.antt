-- Each read that brings something leaves less room.
use Rattle.std.proofs.Common.{◌≡◌, ◌≤◌, ◌-◌, length, take, drop}
use Rattle.std.specs.Io.KnownBytes.{Consumes}
use Rattle.blocks.proofs.read_behind.Given as goal

abbrev pub invariant-loop-at : goal.invariant-loop-at
invariant-loop-at g l = record {
  long : length l.block ≡ length l.initial.block;
  least : l.have ≤ l.at;
  most : l.at ≤ length l.block;
  stay : take l.have l.block ≡ take l.have l.initial.block;
  come : Consumes (g.R.Read.remaining l.initial.input) (g.R.Read.remaining l.input) (take (l.at - l.have) (drop l.have l.block));
}

abbrev pub decreases-loop-at : goal.decreases-loop-at
decreases-loop-at g l = length l.initial.block - l.at
