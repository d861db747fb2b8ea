-- `listed_in` meets its contract: each number is what one call gave.
use Rattle.std.proofs.Common.{rules}
use Rattle.model.specs.States.{no_act}
use Rattle.saved.proofs.listed_in.Goals as goal

pub returns : goal.returns
returns c = λ i h. let q = c.map.ensures.items.at i no_act 0 h in search (rules, q)
