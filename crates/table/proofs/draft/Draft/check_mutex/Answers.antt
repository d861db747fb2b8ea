-- `check_mutex` meets its contract.
use Rattle.table.proofs.Refusals.{mutex_turned, mutex_falls, mutex_full, mutex_stray, mutex_lost, mutex_inside, mutex_fine_lem}
use Rattle.table.proofs.draft.Draft.check_mutex.Goals as goal
use Rattle.table.proofs.draft.Draft.check_mutex.Goals.{then-r-via-then-r, then-r-via-else-r+then-not-rises, then-not-has_codel-via-then-not-has_codel, then-not-has_codel-via-else-not-has_codel+then-not-has_codel-2}

pub returns-then-r : goal.returns-then-r
returns-then-r c =
    elim c.then-r.branch [ then-r-via-then-r w ↦ search (mutex_turned) | then-r-via-else-r+then-not-rises w ↦ search (mutex_falls) ]

pub returns-then-is_full : goal.returns-then-is_full
returns-then-is_full c = search (mutex_full)

pub returns-then-not-has_codel : goal.returns-then-not-has_codel
returns-then-not-has_codel c =
    elim c.then-not-has_codel.branch [
      | then-not-has_codel-via-then-not-has_codel w ↦ search (mutex_stray)
      | then-not-has_codel-via-else-not-has_codel+then-not-has_codel-2 w ↦ search (mutex_lost)
    ]

pub returns-then-task_behind : goal.returns-then-task_behind
returns-then-task_behind c = search (mutex_inside)

pub returns : goal.returns
returns c = search (mutex_fine_lem)
