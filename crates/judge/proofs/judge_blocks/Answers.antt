-- `judge_blocks` is safe: each block is read behind what is left of the one before.
use Rattle.std.proofs.Common.{ℕ, rules}
use lib.ListN.{length-replicate}
use Rattle.judge.proofs.Blocks.{reading_start, reading_more}
use Rattle.judge.proofs.judge_blocks.Goals as goal

pub loop-turns-init : goal.loop-turns-init
loop-turns-init g c = reading_start _ _ _ _ _ c.requires.0 (length-replicate {A = ℕ} 172032 0) _ c.fresh_going-g.ensures

pub loop-turns-preserved : goal.loop-turns-preserved
loop-turns-preserved g c =
    reading_more c.loop-turns.invariant c.requires.1 c.loop-turns-test.true c.args.component.now.prepared c.loop-turns.ended c.judge_block-turn.ensures _ (search rules) _ c.in_ok-got.ensures.fit
