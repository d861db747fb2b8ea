-- `widen` meets its contract.
use mathlib.Core.Path.{◌∙◌}
use Rattle.table.proofs.Shown.{wide_ether, wide_value}
use Rattle.table.proofs.widen.Goals as goal

pub returns-then-x-eq-ETHER_SLOT : goal.returns-then-x-eq-ETHER_SLOT
returns-then-x-eq-ETHER_SLOT c = search (wide_ether)

pub returns : goal.returns
returns c = c.from.ensures ∙ wide_value _ c.if-x-eq-ETHER_SLOT.false
