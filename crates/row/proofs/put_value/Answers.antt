-- `put_value` meets its contract.
use Rattle.std.proofs.Common.{rules}
use Rattle.text.specs.Fields.{ether_word}
use Rattle.row.specs.Kinds.{kind_words, mode_words}
use Rattle.row.proofs.put_value.Goals as goal

pub returns-in-Kind : goal.returns-in-Kind
unfolding kind_words
returns-in-Kind c = search rules

pub returns-in-Mode : goal.returns-in-Mode
unfolding mode_words
returns-in-Mode c = search rules

pub returns-in-Target : goal.returns-in-Target
unfolding ether_word
returns-in-Target c = search rules
