use Rattle.report.proofs.Lines.{line_none, line_start, line_room, line_more, line_end}
use Rattle.report.proofs.put_line.Goals as goal

pub returns-then-not-fits : goal.returns-then-not-fits
returns-then-not-fits c = search (line_none)

pub loop-n-init : goal.loop-n-init
loop-n-init c = search (line_start)

pub bounds-buf-place : goal.bounds-buf-place
bounds-buf-place c = search (line_room)

pub loop-n-preserved : goal.loop-n-preserved
loop-n-preserved c = search (line_more)

pub bounds-buf-place-2 : goal.bounds-buf-place-2
bounds-buf-place-2 c = search (line_room)

pub returns : goal.returns
returns c = search (line_end)
