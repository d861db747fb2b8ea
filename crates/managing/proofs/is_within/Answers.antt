-- `is_within` meets its contract.
use Rattle.managing.proofs.Within.{set_within}
use Rattle.managing.proofs.is_within.Goals as goal

pub returns : goal.returns
returns c = search set_within
