-- `most` meets its contract.
use Rattle.std.proofs.Common.{rules}
use Rattle.row.specs.Kinds.{most_of}
use Rattle.row.proofs.most.Goals as goal

pub returns : goal.returns
unfolding most_of
returns c = search rules
