use Rattle.text.proofs.Digits.{length_pad}
use Rattle.text.proofs.Laying.{put_room}
use Rattle.text.proofs.Standing.{past_none, behind_all, behind_more, behind_other}
use Rattle.text.proofs.past_digits.Goals as goal

pub returns-then-not-fits : goal.returns-then-not-fits
returns-then-not-fits c = past_none _ _ _ _ _ c.fits.ensures (length_pad _ _ _) c.requires.2 c.if-not-fits.true

pub loop-j-init : goal.loop-j-init
loop-j-init c = (search (behind_all), search (put_room))

pub returns-then-s-at : goal.returns-then-s-at
returns-then-s-at c = search (behind_other)

pub loop-j-preserved : goal.loop-j-preserved
loop-j-preserved c =
    let B = c.loop-j.invariant in
    (behind_more B.0 c.loop-j-test.true B.1 c.glyph.ensures c.if-s-at.false, B.1)
