-- `cut_known` meets its contract.
use Rattle.stream.proofs.Cuts.{known_soon, known_found}
use Rattle.stream.proofs.cut_known.Goals as goal

pub returns-then-s-gt-LONGEST : goal.returns-then-s-gt-LONGEST
returns-then-s-gt-LONGEST c = search (known_soon)

pub returns-else-s-gt-LONGEST : goal.returns-else-s-gt-LONGEST
returns-else-s-gt-LONGEST c = search (known_found)
