-- `pause_of` meets its contract.
use Rattle.prepared.proofs.Stored.{pause_none, pause_ether, pause_codel}
use Rattle.prepared.proofs.component.Component.pause_of.Goals as goal
use Rattle.prepared.proofs.component.Component.pause_of.Goals.{then-number-eq0-via-then-number-eq0, then-number-eq0-via-else-number-eq0+then-target}

pub returns-then-number-eq0 : goal.returns-then-number-eq0
returns-then-number-eq0 c = elim c.then-number-eq0.branch [
  | then-number-eq0-via-then-number-eq0 w ↦ search (pause_none)
  | then-number-eq0-via-else-number-eq0+then-target w ↦ search (pause_ether)
]

pub returns : goal.returns
returns c = search (pause_codel)
