-- `past_place` meets its contract.
use Rattle.text.specs.Fields.{ether_word}
use Rattle.saved.proofs.Standing.{ether_past, codel_past}
use Rattle.saved.proofs.past_place.Goals as goal

pub returns-in-Ether : goal.returns-in-Ether
unfolding ether_word
returns-in-Ether c = search (ether_past)

pub returns-in-Codel : goal.returns-in-Codel
returns-in-Codel c = search (codel_past)
