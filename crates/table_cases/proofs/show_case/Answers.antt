-- `show_case` is safe: the note stands within the first line.
use Rattle.std.proofs.Common.{rules}
use Rattle.text.proofs.Fields.{word_starts, word_ends}
use Rattle.table_cases.proofs.show_case.Goals as goal

pub slice_bounds-say-count : goal.slice_bounds-say-count
slice_bounds-say-count g c = search (word_starts)

pub slice_bounds-say-start : goal.slice_bounds-say-start
slice_bounds-say-start g c = search (rules, word_starts)

pub slice_bounds-say-end : goal.slice_bounds-say-end
slice_bounds-say-end g c = search (rules, word_ends)
