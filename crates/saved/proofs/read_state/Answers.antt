-- `read_state` meets its contract.
use Rattle.std.proofs.Common.{sym}
use Rattle.prepared.proofs.Stored.{most_tasks_lem, most_acts_lem}
use Rattle.saved.proofs.Reading.{state_none, state_outside, state_is}
use Rattle.saved.proofs.read_state.Goals as goal

pub returns-in_default : goal.returns-in_default
returns-in_default c = sym (state_none _ (most_tasks_lem c.args.component.now.prepared) (most_acts_lem c.args.component.now.prepared) _ c.in_default.ensures)

pub returns-then-not-sets_within : goal.returns-then-not-sets_within
returns-then-not-sets_within c = sym (state_outside _ (most_tasks_lem c.args.component.now.prepared) (most_acts_lem c.args.component.now.prepared) _ _ c.in-Some.ensures _ c.sets_within.ensures c.if-not-sets_within.true)

pub returns : goal.returns
returns c = sym (state_is _ (most_tasks_lem c.args.component.now.prepared) (most_acts_lem c.args.component.now.prepared) _ _ c.in-Some.ensures _ c.sets_within.ensures c.if-not-sets_within.false _ c.state_from.ensures)
