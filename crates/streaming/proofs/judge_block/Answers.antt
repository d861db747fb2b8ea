-- `judge_block` meets its contract.
use native.Mathlib.Omega.{arith}
use borrow.Author.Rules.{rules}
use Rattle.text.proofs.Seeking.{part_long}
use Rattle.judging.proofs.Hands.{chunk_inside, chunk_roomy}
use Rattle.streaming.proofs.Turning.{turned}
use Rattle.streaming.proofs.judge_block.Goals as goal

pub slice_bounds-chunk_end-end-2 : goal.slice_bounds-chunk_end-end-2
slice_bounds-chunk_end-end-2 c = part_long _ _ (search rules)

pub slice_bounds-play-end : goal.slice_bounds-play-end
slice_bounds-play-end c = search (chunk_inside)

pub slice_bounds-play-end-2 : goal.slice_bounds-play-end-2
slice_bounds-play-end-2 c = part_long _ _ (search (chunk_inside))

pub play-ran-requires : goal.play-ran-requires
play-ran-requires c =
    let pre = c.requires in
    (pre.0.ready, search rules, chunk_roomy _ _ pre.2 c.args.ended _ c.chunk_end-end.ensures pre.1 (omega arith), search rules)

pub returns : goal.returns
returns c =
    let pre = c.requires in
    turned c.args.component.now.prepared _ pre.0 _ _ pre.2 _ _ pre.3 _ c.chunk_end-end.ensures c.play-ran.ensures _ c.is_over-over.ensures
    _ _ c.put_end-told.ensures _ _ c.to_front-held.ensures
