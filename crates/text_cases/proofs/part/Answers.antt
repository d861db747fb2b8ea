-- `part` is safe: a field that a line has stands within it.
use Rattle.std.proofs.Common.{rules}
use Rattle.text.proofs.Fields.{word_starts, word_ends}
use Rattle.text_cases.proofs.part.Goals as goal

pub slice_bounds-result-count : goal.slice_bounds-result-count
slice_bounds-result-count c = search (word_starts)

pub slice_bounds-result-start : goal.slice_bounds-result-start
slice_bounds-result-start c = search (rules, word_starts)

pub slice_bounds-result-end : goal.slice_bounds-result-end
slice_bounds-result-end c = search (rules, word_ends)
