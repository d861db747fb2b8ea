-- `put_row` meets its contract.
use borrow.Author.Rules.{rules}
use Rattle.text.proofs.Seeking.{part_long}
use Rattle.reaching.proofs.Writing.{row_room, row_bytes}
use Rattle.reaching.proofs.put_row.Goals as goal

pub slice_bounds-text-end : goal.slice_bounds-text-end
slice_bounds-text-end c = row_room c.args.component.now _ c.requires _ (search rules) c.put_state-length.ensures

pub slice_bounds-put_bytes-end : goal.slice_bounds-put_bytes-end
slice_bounds-put_bytes-end c = part_long _ _ (row_room c.args.component.now _ c.requires _ (search rules) c.put_state-length.ensures)

pub returns : goal.returns
returns c = row_bytes c.args.component.now _ c.requires _ (search rules) c.put_state-length.ensures c.put_bytes.ensures
