-- `reach_block` meets its contract.
use native.Mathlib.Omega.{arith}
use borrow.Author.Rules.{rules}
use Rattle.text.proofs.Seeking.{part_long}
use Rattle.judging.proofs.Hands.{chunk_inside, chunk_roomy}
use Rattle.reaching.proofs.Turning.{turned}
use Rattle.reaching.proofs.reach_block.Goals as goal

pub slice_bounds-chunk_end-end-2 : goal.slice_bounds-chunk_end-end-2
slice_bounds-chunk_end-end-2 c = part_long _ _ (search rules)

pub slice_bounds-pass-end : goal.slice_bounds-pass-end
slice_bounds-pass-end c = search (chunk_inside)

pub slice_bounds-pass-end-2 : goal.slice_bounds-pass-end-2
slice_bounds-pass-end-2 c = part_long _ _ (search (chunk_inside))

pub pass-ran-requires : goal.pass-ran-requires
pass-ran-requires c =
    let pre = c.requires in
    (pre.0, chunk_roomy _ _ pre.2 c.args.ended _ c.chunk_end-end.ensures pre.1 (omega arith))

pub returns-else-ended : goal.returns-else-ended
returns-else-ended c = turned _ _ c.requires.2 c.args.ended _ c.chunk_end-end.ensures c.pass-ran.ensures c.refusal_of-refusal.ensures (rw c.if-ended.false) c.to_front-held.ensures
