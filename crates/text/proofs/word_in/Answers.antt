-- `word_in` meets its contract.
use borrow.Author.Rules.{rules}
use borrow.Author.Tests.{tests}
use Rattle.text.proofs.Seeking.{part_starts, part_ends}
use Rattle.text.proofs.Fields.{word_start, word_here, word_more, word_gone}
use Rattle.text.proofs.word_in.Goals as goal

pub loop-k-init : goal.loop-k-init
loop-k-init c = search (rules, word_start)

pub slice_bounds-eq-end : goal.slice_bounds-eq-end
slice_bounds-eq-end c = search (rules, part_ends)

pub returns-then-eq : goal.returns-then-eq
returns-then-eq c = search (rules, word_here)

pub returns-then-words-e : goal.returns-then-words-e
returns-then-words-e c = search (rules, word_gone)

pub loop-k-preserved : goal.loop-k-preserved
loop-k-preserved c = (search (rules, part_starts), search rules, word_more _ _ _ c.loop-k.invariant.1 c.next_byte-e.ensures _ _ _ c.loop-k.invariant.2 (search (rules, tests)))

pub returns : goal.returns
returns c = absurd (search rules)
