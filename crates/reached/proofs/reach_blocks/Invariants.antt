-- `reach_blocks` ends: so many blocks are read at most.
use Rattle.reached.proofs.Blocks.{Reading}
use Rattle.reached.proofs.reach_blocks.Given as goal

abbrev pub invariant-loop-turns : goal.invariant-loop-turns
invariant-loop-turns g l = Reading l.component.rows l.component.index l.initial.block l.block l.g l.have l.turns
