use Rattle.prepared.proofs.Walks.{passed_none, passed_more}
use Rattle.prepared.proofs.Pairs.{pair_same, pair_other, pair_found, pair_absent}
use Rattle.prepared.proofs.component.Component.has_pair.Goals as goal

pub loop-m-init : goal.loop-m-init
loop-m-init c = search (passed_none)

pub returns-then-number-hi : goal.returns-then-number-hi
returns-then-number-hi c = search (pair_found, pair_same)

pub loop-m-preserved : goal.loop-m-preserved
loop-m-preserved c = search (passed_more, pair_other)

pub returns : goal.returns
returns c = search (pair_absent)
