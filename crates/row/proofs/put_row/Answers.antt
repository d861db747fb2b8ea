-- `put_row` meets its contract.
use Rattle.row.proofs.Writing.{row_put}
use Rattle.row.proofs.put_row.Goals as goal

pub returns : goal.returns
returns c = search (row_put)
