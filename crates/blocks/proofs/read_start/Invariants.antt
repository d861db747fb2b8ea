-- `read_start` ends: each block brings some bytes, or is the last.
use Rattle.std.proofs.Common.{◌≡◌, ◌+◌, ◌-◌, ◌<◌, ◌≤◌, true, not, length, take}
use Rattle.std.specs.Io.KnownBytes.{Consumes, IsAtEnd}
use Rattle.model.specs.Tests.{one}
use Rattle.table.specs.Texts.{longest}
use Rattle.blocks.proofs.read_start.Given as goal

abbrev pub invariant-loop-input : goal.invariant-loop-input
invariant-loop-input g l = record {
  long : length l.block ≡ length l.initial.block;
  within : l.have ≤ length l.block;
  come : Consumes (g.R.Read.remaining l.initial.input) (g.R.Read.remaining l.input) (take l.have l.block);
  end : l.ended ≡ true → l.have < length l.block → IsAtEnd (g.R.Read.remaining l.input);
  few : l.ended ≡ true → l.have ≤ longest;
}

abbrev pub decreases-loop-input : goal.decreases-loop-input
decreases-loop-input g l = one (not l.ended) + (length l.initial.block - l.have)
