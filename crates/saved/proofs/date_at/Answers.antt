-- `date_at` meets its contract.
use borrow.Author.Rules.{rules}
use Rattle.fields.proofs.Standing.{past_inside}
use Rattle.saved.proofs.InPlace.{date_found}
use Rattle.saved.proofs.date_at.Goals as goal

pub number_at-requires : goal.number_at-requires
number_at-requires c = search (past_inside, rules)

pub returns : goal.returns
returns c = date_found _ _ c.past_bytes-p.ensures c.number_at.ensures
