-- `new` meets its contract.
use Rattle.table.proofs.Marks.{building_empty}
use Rattle.table.proofs.draft.Draft.new.Goals as goal

pub invariant_of-result : goal.invariant_of-result
invariant_of-result c = record { building = building_empty }
