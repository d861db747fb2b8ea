-- `state_from` meets its contract.
use Rattle.saved.specs.Rows.{state_from}
use Rattle.saved.proofs.state_from.Goals as goal

pub returns : goal.returns
unfolding state_from
returns c = rw (c.tasks_said.ensures, c.acts_said.ensures, c.fresh_state-fresh.ensures)
