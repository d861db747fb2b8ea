use Rattle.fields.proofs.Reading.{reading_start, reading_bad, reading_more, reading_end}
use Rattle.fields.proofs.read_fields.Goals as goal

pub loop-i-init : goal.loop-i-init
loop-i-init c = search (reading_start)

pub returns-in_err-value : goal.returns-in_err-value
returns-in_err-value c = rw c.from_residual.ensures (search (reading_bad, c.in_err-value.was))

pub loop-i-preserved : goal.loop-i-preserved
loop-i-preserved c = search (reading_more, c.in_ok-value.was)

pub returns : goal.returns
returns c = search (reading_end)
