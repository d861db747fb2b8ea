-- `past_date` meets its contract.
use Rattle.fields.proofs.Standing.{past_inside}
use Rattle.saved.specs.Rows.{state_word}
use Rattle.saved.proofs.Standing.{date_past}
use Rattle.saved.proofs.past_date.Goals as goal

pub past_number-requires : goal.past_number-requires
past_number-requires c = search (past_inside)

pub returns : goal.returns
unfolding state_word
returns c = search (date_past)
