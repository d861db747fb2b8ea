-- `begins_row` meets its contract.
use Rattle.std.proofs.Common.{◌∙◌, take}
use Rattle.saved.specs.Rows.{state_word, begins_row}
use Rattle.saved.proofs.Beginning.{same_turned}
use Rattle.saved.proofs.begins_row.Goals as goal

pub returns : goal.returns
unfolding begins_row state_word
returns c = c.starts_with.ensures.value ∙ same_turned (take 6 c.args.line.now) _
