use mathlib.Core.Path.{refl}
use lib.ListN.{length-set}
use Rattle.preparing.specs.Filling.{ended}
use Rattle.preparing.proofs.Filling.{ended_more}
use Rattle.preparing.proofs.note_ends.Goals as goal

pub loop-e-init : goal.loop-e-init
unfolding ended
loop-e-init c = (refl, refl)

pub loop-e-preserved : goal.loop-e-preserved
loop-e-preserved c = (simp length-set c.loop-e.invariant.0, ended_more _ _ _ _ _ _ c.number.ensures c.loop-e.invariant.1)
