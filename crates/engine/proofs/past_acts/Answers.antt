use native.Mathlib.Omega.{arith}
use Rattle.saved.proofs.Sayable.{place_fits_lem}
use Rattle.engine.proofs.Finding.{act_cell}
use Rattle.engine.proofs.Passing.{acts_first, acts_within, acts_more, acts_all}
use Rattle.engine.proofs.past_acts.Goals as goal

pub loop-a-init : goal.loop-a-init
loop-a-init c = acts_first c.past_tasks-p.ensures

pub bounds-going-a : goal.bounds-going-a
bounds-going-a c = act_cell c.args.component.now.prepared (omega (arith, c.loop-a-test.true, c.acts-a-end.ensures))

pub offset_bounds-going-a : goal.offset_bounds-going-a
offset_bounds-going-a c = omega (arith, act_cell c.args.component.now.prepared {a = c.loop-a.a} (omega (arith, c.loop-a-test.true, c.acts-a-end.ensures)))

pub past_act-p-requires : goal.past_act-p-requires
past_act-p-requires c = (acts_within c.requires.1 c.loop-a.invariant, place_fits_lem _ _ c.args.component.now.prepared.formed c.requires.0.ready.sound _ (omega (arith, c.loop-a-test.true, c.acts-a-end.ensures)))

pub loop-a-preserved : goal.loop-a-preserved
loop-a-preserved c = acts_more c.loop-a.invariant c.past_act-p.ensures

pub returns : goal.returns
returns c = acts_all c.loop-a.invariant (omega (arith, c.loop-a-test.false, c.loop-a.auto.a-end, c.acts-a-end.ensures))
