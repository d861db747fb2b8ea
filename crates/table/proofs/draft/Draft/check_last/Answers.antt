-- `check_last` meets its contract.
use native.Mathlib.Omega.{arith}
use Rattle.row.specs.Kinds.{most_of}
use Rattle.table.proofs.Marking.{last_none, last_task, last_act, last_codel, last_fine}
use Rattle.table.proofs.draft.Draft.check_last.Goals as goal
use Rattle.table.proofs.draft.Draft.check_last.Goals.{then-tasks-eq0-via-then-tasks-eq0, then-tasks-eq0-via-else-tasks-eq0+then-not-all_made, then-tasks-eq0-via-else-tasks-eq0+else-not-all_made+then-not-all_made-2, then-tasks-eq0-via-else-tasks-eq0+else-not-all_made+else-not-all_made-2+then-not-all_made-3}

pub all_made-requires : goal.all_made-requires
unfolding most_of
all_made-requires c = let b = c.args.self.now.building in omega (arith, b.noted.size, b.counted.most 0 (omega arith))

pub all_made-requires-else-not-all_made : goal.all_made-requires-else-not-all_made
unfolding most_of
all_made-requires-else-not-all_made c = let b = c.args.self.now.building in omega (arith, b.noted.size, b.counted.most 1 (omega arith))

pub all_made-requires-else-not-all_made-2 : goal.all_made-requires-else-not-all_made-2
unfolding most_of
all_made-requires-else-not-all_made-2 c = let b = c.args.self.now.building in omega (arith, b.noted.size, b.counted.most 2 (omega arith))

pub returns-then-tasks-eq0 : goal.returns-then-tasks-eq0
returns-then-tasks-eq0 c =
    elim c.then-tasks-eq0.branch [
      | then-tasks-eq0-via-then-tasks-eq0 w ↦ search (last_none)
      | then-tasks-eq0-via-else-tasks-eq0+then-not-all_made w ↦ search (last_task)
      | then-tasks-eq0-via-else-tasks-eq0+else-not-all_made+then-not-all_made-2 w ↦ search (last_act)
      | then-tasks-eq0-via-else-tasks-eq0+else-not-all_made+else-not-all_made-2+then-not-all_made-3 w ↦ search (last_codel)
    ]

pub returns : goal.returns
returns c = search (last_fine)
