-- `check_task` meets its contract.
use Rattle.table.proofs.Refusals.{task_full, task_period, task_keep, task_fine_lem}
use Rattle.table.proofs.draft.Draft.check_task.Goals as goal
use Rattle.table.proofs.draft.Draft.check_task.Goals.{then-is_full-via-then-is_full, then-is_full-via-else-is_full+then-not-in_range, then-is_full-via-else-is_full+else-not-in_range+then-not-in_range-2}

pub returns-then-is_full : goal.returns-then-is_full
returns-then-is_full c =
    elim c.then-is_full.branch [
      | then-is_full-via-then-is_full w ↦ search (task_full)
      | then-is_full-via-else-is_full+then-not-in_range w ↦ search (task_period)
      | then-is_full-via-else-is_full+else-not-in_range+then-not-in_range-2 w ↦ search (task_keep)
    ]

pub returns : goal.returns
returns c = search (task_fine_lem)
