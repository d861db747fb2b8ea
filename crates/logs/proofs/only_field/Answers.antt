-- `only_field` meets its contract.
use Rattle.logs.proofs.Forms.{number_tabless}
use Rattle.logs.proofs.Fielding.{only_gone, only_rest}
use Rattle.logs.proofs.only_field.Goals as goal

pub returns-then-line-at : goal.returns-then-line-at
returns-then-line-at c = search (only_gone)

pub returns : goal.returns
returns c = search (only_rest, number_tabless)
