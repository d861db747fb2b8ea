use Rattle.prepared.proofs.Walks.{passed_none, passed_more}
use Rattle.prepared.proofs.Edges.{small_known, edge_other, edge_same, edge_found, edge_absent}
use Rattle.prepared.proofs.leads.Goals as goal
use Rattle.prepared.proofs.leads.Goals.{else-number-target-via-then-number-target+else-number-pause, else-number-target-via-else-number-target}

pub target_slot-target-requires : goal.target_slot-target-requires
target_slot-target-requires c = search (small_known)

pub loop-e-init : goal.loop-e-init
loop-e-init c = search (passed_none)

pub returns-then-number-pause : goal.returns-then-number-pause
returns-then-number-pause c = search (edge_found, edge_same)

pub loop-e-preserved : goal.loop-e-preserved
loop-e-preserved c = passed_more _ _ _ c.loop-e.invariant
    (elim c.else-number-target.branch [
      | else-number-target-via-then-number-target+else-number-pause w ↦ edge_same _ _ _ c.loop-e.e _ c.number.ensures w.if-number-target.true _ w.number-then-number-target.ensures _ w.if-number-pause.false
      | else-number-target-via-else-number-target w ↦ edge_other _ _ _ c.loop-e.e _ c.number.ensures w.if-number-target.false
    ])

pub returns : goal.returns
returns c = search (edge_absent)
