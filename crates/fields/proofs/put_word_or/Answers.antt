-- `put_word_or` meets its contract.
use Rattle.fields.proofs.Values.{word_put, number_put}
use Rattle.fields.proofs.put_word_or.Goals as goal

pub returns-then-v-eq-NO_NUMBER : goal.returns-then-v-eq-NO_NUMBER
returns-then-v-eq-NO_NUMBER c = search (word_put)

pub returns : goal.returns
returns c = search (number_put)
