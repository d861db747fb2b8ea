-- `value_width` meets its contract.
use Rattle.std.proofs.Common.{rules}
use borrow.Author.Tests.{ne_eqb}
use Rattle.text.proofs.Numbers.{length_digits}
use Rattle.text.specs.Fields.{ether_word}
use Rattle.row.specs.Kinds.{kind_words, mode_words}
use Rattle.row.proofs.value_width.Goals as goal

pub returns-in-Number : goal.returns-in-Number
returns-in-Number c = rw (c.in-Number.is, length_digits) c.width.ensures

pub returns-in-Kind : goal.returns-in-Kind
unfolding kind_words
returns-in-Kind c = search rules

pub returns-in-Mode : goal.returns-in-Mode
unfolding mode_words
returns-in-Mode c = search rules

pub returns-in-Target : goal.returns-in-Target
unfolding ether_word
returns-in-Target c = rw (c.in-Target.is, c.if-v-eq-ETHER.true)

pub returns-in-Target-2 : goal.returns-in-Target-2
returns-in-Target-2 c = rw (c.in-Target.is, ne_eqb _ _ c.if-v-eq-ETHER.false, length_digits) c.width-in-Target-2.ensures
