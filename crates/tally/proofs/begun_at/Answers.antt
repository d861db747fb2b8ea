-- `begun_at` meets its contract.
use Rattle.tally.proofs.Counting.{began_known}
use Rattle.tally.proofs.begun_at.Goals as goal

pub returns : goal.returns
returns c = search began_known
