use mathlib.Core.Path.{refl}
use native.Mathlib.Omega.{arith}
use lib.ListN.{length-set}
use Rattle.preparing.specs.Filling.{counted}
use Rattle.preparing.proofs.Cells.{few}
use Rattle.preparing.proofs.Filling.{counted_more}
use Rattle.preparing.proofs.note_counts.Goals as goal

pub loop-k-init : goal.loop-k-init
unfolding counted
loop-k-init c = (c.requires.1, refl)

pub overflow_cast-index : goal.overflow_cast-index
overflow_cast-index c = few c.requires.0 _ (omega (arith, c.requires.0.kinds))

pub loop-k-preserved : goal.loop-k-preserved
loop-k-preserved c = (simp length-set c.loop-k.invariant.0, counted_more _ _ _ _ c.loop-k.invariant.1)
