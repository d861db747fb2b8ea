-- `check_edge` meets its contract.
use Rattle.table.proofs.Refusals.{edge_falls, edge_full, edge_stray, edge_lost, edge_bad, edge_fine_lem}
use Rattle.table.proofs.draft.Draft.check_edge.Goals as goal
use Rattle.table.proofs.draft.Draft.check_edge.Goals.{then-not-has_codel-via-then-not-has_codel, then-not-has_codel-via-else-not-has_codel+then-not-has_place}

pub returns-then-not-rises : goal.returns-then-not-rises
returns-then-not-rises c = search (edge_falls)

pub returns-then-is_full : goal.returns-then-is_full
returns-then-is_full c = search (edge_full)

pub returns-then-not-has_codel : goal.returns-then-not-has_codel
returns-then-not-has_codel c =
    elim c.then-not-has_codel.branch [
      | then-not-has_codel-via-then-not-has_codel w ↦ search (edge_stray)
      | then-not-has_codel-via-else-not-has_codel+then-not-has_place w ↦ search (edge_lost)
    ]

pub returns-then-not-may_lead : goal.returns-then-not-may_lead
returns-then-not-may_lead c = search (edge_bad)

pub returns : goal.returns
returns c = search (edge_fine_lem)
