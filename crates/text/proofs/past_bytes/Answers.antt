use mathlib.Core.Path.{refl}
use borrow.Author.Rules.{rules}
use Rattle.text.proofs.Standing.{past_none, compare_more, compare_alike}
use Rattle.text.proofs.past_bytes.Goals as goal

pub returns-then-not-fits : goal.returns-then-not-fits
returns-then-not-fits c = past_none _ _ _ _ _ c.fits.ensures refl c.requires c.if-not-fits.true

pub loop-i-preserved : goal.loop-i-preserved
loop-i-preserved c = (search rules, search compare_more)

pub returns-then-alike : goal.returns-then-alike
returns-then-alike c = search (rules, compare_alike)
