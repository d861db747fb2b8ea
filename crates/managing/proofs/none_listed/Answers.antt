use Rattle.managing.proofs.Listed.{listed_yes, none_found, none_absent}
use Rattle.managing.proofs.none_listed.Goals as goal

pub returns-then-listed-a-ne0 : goal.returns-then-listed-a-ne0
returns-then-listed-a-ne0 c = search (none_found c.args.component.now.prepared, listed_yes)

pub returns : goal.returns
returns c = search (none_absent c.args.component.now.prepared)
