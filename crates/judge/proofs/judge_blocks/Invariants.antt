-- `judge_blocks` ends: so many blocks are read at most.
use Rattle.judge.proofs.Blocks.{Reading}
use Rattle.judge.proofs.judge_blocks.Given as goal

abbrev pub invariant-loop-turns : goal.invariant-loop-turns
invariant-loop-turns g l = Reading l.component.rows l.component.index l.initial.block l.block l.out l.g l.have l.turns
