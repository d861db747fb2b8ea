-- `fresh_going` meets its contract.
use Rattle.engine.proofs.Starting.{going_fresh}
use Rattle.engine.proofs.fresh_going.Goals as goal

pub returns : goal.returns
returns c = search going_fresh
