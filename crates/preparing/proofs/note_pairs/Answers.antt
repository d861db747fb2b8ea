use mathlib.Core.Path.{refl, ap, ◌≡◌, ◌∙◌}
use native.Mathlib.Omega.{arith}
use lib.ListN.{length, get_or, length-set}
use Rattle.table.specs.Tables.{table_of}
use Rattle.preparing.specs.Filling.{pairs_noted}
use Rattle.preparing.proofs.Cells.{most_mutexes_lem, lo_low, hi_low}
use Rattle.preparing.proofs.Filling.{pairs_more}
use Rattle.preparing.proofs.note_pairs.Goals as goal

pub loop-m-init : goal.loop-m-init
unfolding pairs_noted
loop-m-init c = (most_mutexes_lem c.requires.0, c.requires.1, refl)

pub note_pair-requires : goal.note_pair-requires
note_pair-requires c = (c.loop-m.invariant.1, omega arith, lo_low c.requires.0 c.loop-m.m _ (omega arith) c.number-lo.ensures, hi_low c.requires.0 c.loop-m.m _ (omega arith) c.number-hi.ensures)

pub loop-m-preserved : goal.loop-m-preserved
loop-m-preserved c = (omega arith, ap length c.note_pair.ensures ∙ simp length-set c.loop-m.invariant.1, c.note_pair.ensures ∙ pairs_more c.requires.0 _ _ c.loop-m.m _ _ (omega arith) c.number-lo.ensures c.number-hi.ensures c.loop-m.invariant.2)

pub returns : goal.returns
unfolding table_of
returns c = let e : c.loop-m.m ≡ get_or c.args.t.now.counts 4 0 = omega arith in rw e at c.loop-m.invariant.2
