-- `is_between` meets its contract.
use Rattle.text.proofs.Members.{between_not, between_rest}
use Rattle.text.proofs.Set.is_between.Goals as goal

pub returns-then-bits_between : goal.returns-then-bits_between
returns-then-bits_between c = search between_rest

pub returns-else-bits_between : goal.returns-else-bits_between
returns-else-bits_between c = search between_not
