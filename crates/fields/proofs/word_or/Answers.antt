-- `word_or` meets its contract.
use Rattle.fields.proofs.Values.{word_same, word_other}
use Rattle.fields.proofs.word_or.Goals as goal

pub returns-then-eq : goal.returns-then-eq
returns-then-eq c = search (word_same)

pub returns : goal.returns
returns c = search (word_other)
