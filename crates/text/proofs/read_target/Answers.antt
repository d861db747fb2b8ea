-- `read_target` meets its contract.
use Rattle.text.specs.Fields.{ether_word}
use Rattle.text.proofs.read_target.Goals as goal

pub returns-then-eq : goal.returns-then-eq
unfolding ether_word
returns-then-eq c = rw (← c.as_slice.ensures, ← c.eq.ensures, c.if-eq.true)

pub returns : goal.returns
unfolding ether_word
returns c = rw (← c.as_slice.ensures, ← c.eq.ensures, c.if-eq.false) c.read_number.ensures
