use mathlib.Core.Path.{◌≡◌, refl}
use lib.ListN.{length}
use Rattle.model.specs.Limits.{most_acts}
use Rattle.waits.proofs.Holders.{rows_long}
use Rattle.engine.proofs.Starting.{noted_none, noted_more, going_made}
use Rattle.engine.proofs.going_at.Goals as goal

pub loop-a-init : goal.loop-a-init
loop-a-init c = let h : length c.args.s.acts ≡ most_acts = search rows_long in (noted_none h refl, noted_none h refl)

pub loop-a-preserved : goal.loop-a-preserved
loop-a-preserved c = (search noted_more, search noted_more)

pub returns : goal.returns
returns c = search going_made
