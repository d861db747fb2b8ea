-- `to_front` meets its contract.
use Rattle.stream.proofs.Fronts.{moved}
use Rattle.stream.proofs.to_front.Goals as goal

pub returns : goal.returns
returns c = search (moved)
