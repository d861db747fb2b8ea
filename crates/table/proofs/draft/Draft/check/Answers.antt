-- `check` meets its contract.
use Rattle.table.proofs.Refusals.{check_place, check_own}
use Rattle.table.proofs.draft.Draft.check.Goals as goal

pub returns-then-not-is_in_place : goal.returns-then-not-is_in_place
returns-then-not-is_in_place c = search (check_place)

pub returns : goal.returns
returns c = search (check_own)
