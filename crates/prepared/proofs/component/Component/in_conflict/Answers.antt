-- `in_conflict` meets its contract.
use Rattle.prepared.proofs.Pairs.{conflict_rising}
use Rattle.prepared.proofs.component.Component.in_conflict.Goals as goal

pub returns : goal.returns
returns c = rw (c.has_pair.ensures, c.min.ensures, c.max.ensures) (conflict_rising _ _ _)
