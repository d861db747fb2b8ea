-- `act_at` meets its contract.
use borrow.Author.Rules.{rules}
use Rattle.saved.proofs.InPlace.{number_inside, yes_inside, word_inside, list_inside, act_found}
use Rattle.saved.proofs.act_at.Goals as goal

pub yes_at-executing-requires : goal.yes_at-executing-requires
yes_at-executing-requires c = search (number_inside, yes_inside, word_inside, list_inside, rules)

pub number_at-clock-requires : goal.number_at-clock-requires
number_at-clock-requires c = search (number_inside, yes_inside, word_inside, list_inside, rules)

pub returns : goal.returns
returns c = act_found _ _ _ _ _ c.word_at-place.result c.yes_at-executing.result c.number_at-clock.result c.word_at-place.ensures c.yes_at-executing.ensures c.number_at-clock.ensures c.place_of.ensures (rw c.as_set.ensures at c.has_member.ensures) (rw c.as_set-2.ensures at c.has_member-2.ensures)
