use Rattle.std.proofs.Common.{below_more}
use Rattle.conflicts.proofs.Walking.{far_none, far_apart, clear_fails, clear_holds}
use Rattle.conflicts.proofs.is_clear.Goals as goal
use Rattle.conflicts.proofs.is_clear.Goals.{else-other-codels-via-then-other-codels+else-in_conflict, else-other-codels-via-else-other-codels}

pub returns-then-in_conflict : goal.returns-then-in_conflict
returns-then-in_conflict c = search clear_fails

pub loop-other-preserved : goal.loop-other-preserved
loop-other-preserved c =
    below_more _ _ c.loop-other.invariant
    (elim c.else-other-codels.branch [ else-other-codels-via-then-other-codels+else-in_conflict w ↦ search far_apart | else-other-codels-via-else-other-codels w ↦ search far_none ])

pub returns : goal.returns
returns c = search clear_holds
