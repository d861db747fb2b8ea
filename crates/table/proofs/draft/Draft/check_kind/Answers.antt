-- `check_kind` meets its contract.
use mathlib.Core.Path.{◌≡◌}
use native.Mathlib.Omega.{arith}
use Rattle.table.proofs.Refusals.{kind_task, kind_act, kind_codel, kind_edge, kind_mutex}
use Rattle.table.proofs.draft.Draft.check_kind.Goals as goal

pub returns-in-0 : goal.returns-in-0
returns-in-0 c = search (kind_task)

pub returns-in-1 : goal.returns-in-1
returns-in-1 c = search (kind_act)

pub returns-in-2 : goal.returns-in-2
returns-in-2 c = search (kind_codel)

pub returns-in-3 : goal.returns-in-3
returns-in-3 c = search (kind_edge)

pub returns-in_default : goal.returns-in_default
returns-in_default c = let k : c.args.r.kind ≡ 4 = omega (arith, c.in_default) in search (kind_mutex)
