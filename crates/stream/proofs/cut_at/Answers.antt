-- `cut_at` meets its contract.
use borrow.Author.Rules.{rules}
use Rattle.text.proofs.Seeking.{part_long}
use Rattle.stream.proofs.Cuts.{cut_short, cut_long}
use Rattle.stream.proofs.cut_at.Goals as goal

pub returns-then-s-le-LONGEST : goal.returns-then-s-le-LONGEST
returns-then-s-le-LONGEST c = search (cut_short)

pub slice_bounds-table_end-end : goal.slice_bounds-table_end-end
slice_bounds-table_end-end c = part_long c.args.s.now _ (search rules)

pub returns-else-s-le-LONGEST : goal.returns-else-s-le-LONGEST
returns-else-s-le-LONGEST c = search (cut_long)
