-- `whole_lines` meets its contract.
use Rattle.stream.proofs.Lines.{lines_within, whole_short, whole_long}
use Rattle.stream.proofs.whole_lines.Goals as goal

pub overflow_sub-s : goal.overflow_sub-s
overflow_sub-s c = search (lines_within)

pub returns-then-s-end-lt-LONGEST_ROW : goal.returns-then-s-end-lt-LONGEST_ROW
returns-then-s-end-lt-LONGEST_ROW c = search (whole_short)

pub returns-else-s-end-lt-LONGEST_ROW : goal.returns-else-s-end-lt-LONGEST_ROW
returns-else-s-end-lt-LONGEST_ROW c = search (whole_long)
