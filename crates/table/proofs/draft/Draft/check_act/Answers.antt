-- `check_act` meets its contract.
use Rattle.table.proofs.Refusals.{act_falls, act_full, act_stray, act_fine_lem}
use Rattle.table.proofs.draft.Draft.check_act.Goals as goal

pub returns-then-not-follows : goal.returns-then-not-follows
returns-then-not-follows c = search (act_falls)

pub returns-then-is_full : goal.returns-then-is_full
returns-then-is_full c = search (act_full)

pub returns-then-self-r : goal.returns-then-self-r
returns-then-self-r c = search (act_stray)

pub returns : goal.returns
returns c = search (act_fine_lem)
