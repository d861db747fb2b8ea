-- `past_act` meets its contract.
use Rattle.fields.proofs.Standing.{past_inside}
use Rattle.saved.proofs.Standing.{idle_past, act_past}
use Rattle.saved.proofs.past_act.Goals as goal

pub returns-then-is_idle : goal.returns-then-is_idle
returns-then-is_idle c = search (idle_past)

pub past_number-b-requires : goal.past_number-b-requires
past_number-b-requires c = search (past_inside)

pub past_number-requires : goal.past_number-requires
past_number-requires c = search (past_inside)

pub returns : goal.returns
returns c = search (act_past)
