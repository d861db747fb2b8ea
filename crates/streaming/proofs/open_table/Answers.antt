-- `open_table` meets its contract.
use borrow.Author.Rules.{rules}
use Rattle.text.proofs.Seeking.{part_long}
use Rattle.streaming.proofs.Opening.{table_within, opened}
use Rattle.streaming.proofs.open_table.Goals as goal

pub slice_bounds-cut_at-end-2 : goal.slice_bounds-cut_at-end-2
slice_bounds-cut_at-end-2 c = part_long _ _ (search rules)

pub slice_bounds-read_table-end : goal.slice_bounds-read_table-end
slice_bounds-read_table-end c = search (table_within)

pub slice_bounds-read_table-end-2 : goal.slice_bounds-read_table-end-2
slice_bounds-read_table-end-2 c = part_long _ _ (search (table_within))

pub returns : goal.returns
returns c =
    opened _ _ c.requires _ c.cut_at-cut.ensures c.read_table-read.result c.read_table-read.ensures _ _ _ c.put_opening-told.ensures _ c.ok.ensures.value
    _ _ c.to_front-held.ensures
