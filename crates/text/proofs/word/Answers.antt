-- `word` meets its contract.
use borrow.Author.Rules.{rules}
use Rattle.text.proofs.Fields.{word_none, word_starts, word_ends, word_bytes}
use Rattle.text.proofs.word.Goals as goal

pub returns-in_default : goal.returns-in_default
returns-in_default c = search word_none

pub slice_bounds-result-count : goal.slice_bounds-result-count
slice_bounds-result-count c = search word_starts

pub slice_bounds-result-start : goal.slice_bounds-result-start
slice_bounds-result-start c = search (rules, word_starts)

pub slice_bounds-result-end-2 : goal.slice_bounds-result-end-2
slice_bounds-result-end-2 c = search (rules, word_ends)

pub returns : goal.returns
returns c = search word_bytes
