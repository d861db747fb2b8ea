use borrow.Author.Rules.{rules}
use Rattle.text.proofs.Seeking.{part_starts}
use Rattle.stream.proofs.Cuts.{end_start, end_none, end_last, end_here, end_more, end_less}
use Rattle.stream.proofs.table_end.Goals as goal

pub loop-at-init : goal.loop-at-init
loop-at-init c = (search rules, search (end_start))

pub returns-then-s-end : goal.returns-then-s-end
returns-then-s-end c = search (end_last)

pub slice_bounds-is_end-count : goal.slice_bounds-is_end-count
slice_bounds-is_end-count c = search (part_starts)

pub slice_bounds-is_end-start : goal.slice_bounds-is_end-start
slice_bounds-is_end-start c = search (part_starts)

pub returns-then-is_end : goal.returns-then-is_end
returns-then-is_end c = search (end_here)

pub loop-at-smaller : goal.loop-at-smaller
loop-at-smaller c = search (end_less)

pub loop-at-preserved : goal.loop-at-preserved
loop-at-preserved c = (search rules, search (end_more))

pub returns : goal.returns
returns c = search (end_none)
