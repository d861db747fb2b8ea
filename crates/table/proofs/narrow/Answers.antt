-- `narrow` meets its contract.
use Rattle.std.proofs.Common.{rules}
use Rattle.table.specs.Tables.{narrowed}
use Rattle.table.proofs.narrow.Goals as goal

pub returns : goal.returns
unfolding narrowed
returns c = search rules
