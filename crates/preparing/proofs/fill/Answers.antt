-- `preparing::fill` meets its contract.
use Rattle.preparing.proofs.Filling.{part_filled}
use Rattle.preparing.proofs.fill.Goals as goal

pub returns : goal.returns
returns c = part_filled c.args.index.now _ c.args.at c.args.v c.args.n c.requires (c.fill.ensures.after (λ y e. e))
