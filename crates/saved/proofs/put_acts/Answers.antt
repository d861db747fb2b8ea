use Rattle.std.proofs.Common.{refl}
use Rattle.saved.proofs.Writing.{written_none, written_more, act_room_lem, acts_put}
use Rattle.saved.proofs.put_acts.Goals as goal

pub loop-a-init : goal.loop-a-init
loop-a-init c = search written_none

pub put_fields-p-requires : goal.put_fields-p-requires
put_fields-p-requires c = act_room_lem c.args.component.now.prepared _ c.requires.0 c.requires.1 c.loop-a.invariant c.acts-a-end.ensures c.loop-a-test.true c.act_values.ensures

pub loop-a-preserved : goal.loop-a-preserved
loop-a-preserved c = written_more c.loop-a.invariant (λ j. refl) _ c.act_values.ensures _ _ c.put_fields-p.ensures

pub returns : goal.returns
returns c = acts_put _ c.loop-a.invariant c.acts-a-end.ensures c.loop-a-test.false c.loop-a.auto.a-end
