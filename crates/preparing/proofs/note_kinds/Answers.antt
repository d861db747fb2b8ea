use mathlib.Core.Path.{◌≡◌, refl}
use native.Mathlib.Omega.{arith}
use lib.ListN.{get_or, length-set}
use Rattle.table.specs.Tables.{table_of}
use Rattle.preparing.specs.Filling.{kinds_noted}
use Rattle.preparing.proofs.Cells.{most_codels_lem, owner_low, placed_low}
use Rattle.preparing.proofs.Filling.{kinds_more}
use Rattle.preparing.proofs.note_kinds.Goals as goal

pub loop-c-init : goal.loop-c-init
unfolding kinds_noted
loop-c-init c = (most_codels_lem c.requires.0, c.requires.1, refl)

pub kind_place-requires : goal.kind_place-requires
kind_place-requires c = owner_low c.requires.0 c.loop-c.c _ (omega arith) c.number-a.ensures

pub bounds-index-kind_place : goal.bounds-index-kind_place
bounds-index-kind_place c = omega (arith, placed_low c.requires.0 c.loop-c.c _ c.number-kind.result _ (omega arith) c.number-a.ensures c.kind_place.ensures)

pub loop-c-preserved : goal.loop-c-preserved
loop-c-preserved c = (omega arith, simp length-set c.loop-c.invariant.1, kinds_more c.requires.0 _ _ _ _ _ _ (omega arith) c.number-a.ensures c.number-kind.ensures c.kind_place.ensures c.loop-c.invariant.2)

pub returns : goal.returns
unfolding table_of
returns c = let e : c.loop-c.c ≡ get_or c.args.t.now.counts 2 0 = omega arith in rw e at c.loop-c.invariant.2
