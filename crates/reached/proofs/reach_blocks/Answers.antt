-- `reach_blocks` is safe: each block is read behind what is left of the one before.
use Rattle.std.proofs.Common.{rules}
use Rattle.reached.proofs.Blocks.{reading_start, reading_ends, reading_more}
use Rattle.reached.proofs.reach_blocks.Goals as goal

pub loop-turns-init : goal.loop-turns-init
loop-turns-init g c = reading_start _ _ _ _ c.requires.0 _ c.fresh_going-g.ensures

pub tell-requires : goal.tell-requires
tell-requires g c =
    let ends = reading_ends c.loop-turns.invariant c.requires.1 c.loop-turns-test.true c.args.component.now.prepared c.loop-turns.ended c.reach_block-turn.ensures in
    (ends.0, ends.1)

pub loop-turns-preserved : goal.loop-turns-preserved
loop-turns-preserved g c =
    reading_more c.loop-turns.invariant c.requires.1 c.loop-turns-test.true c.args.component.now.prepared c.loop-turns.ended c.reach_block-turn.ensures _ (search rules) _ c.in_ok-got.ensures.fit
