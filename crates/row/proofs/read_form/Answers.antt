-- `read_form` meets its contract.
use Rattle.std.proofs.Common.{rules}
use Rattle.row.specs.Kinds.{kind_words, mode_words}
use Rattle.row.specs.Row.{read_form}
use Rattle.row.proofs.read_form.Goals as goal

pub returns-in-Number : goal.returns-in-Number
unfolding read_form
returns-in-Number c = search rules

pub returns-in-Kind : goal.returns-in-Kind
unfolding read_form kind_words
returns-in-Kind c = rw (c.in-Kind.is, ← c.word_in.ensures) (search rules)

pub returns-in-Mode : goal.returns-in-Mode
unfolding read_form mode_words
returns-in-Mode c = rw (c.in-Mode.is, ← c.word_in-in-Mode.ensures) (search rules)

pub returns-in-Target : goal.returns-in-Target
unfolding read_form
returns-in-Target c = search rules
