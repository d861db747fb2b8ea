-- `mark_of` meets its contract.
use mathlib.Core.Path.{◌∙◌}
use native.Mathlib.Omega.{arith}
use Rattle.table.proofs.Marking.{mark_task, mark_kind, mark_main, mark_edge, mark_none}
use Rattle.table.proofs.draft.mark_of.Goals as goal

pub returns-in-1 : goal.returns-in-1
returns-in-1 c = (mark_task _ c.in-1.is, omega (arith, c.requires.0 c.in-1.is))

pub returns-in-2 : goal.returns-in-2
returns-in-2 c = (c.kind_mark.ensures.0 ∙ mark_kind c.args.r c.in-2.is c.if-r-lt2.true, omega (arith, c.kind_mark.ensures.1))

pub returns-in-3 : goal.returns-in-3
returns-in-3 c = (mark_edge _ c.in-3.is, omega (arith, c.requires.2 c.in-3.is))

pub returns-in_default : goal.returns-in_default
returns-in_default c = (mark_main _ c.in-2.is c.if-r-lt2.false, omega arith)

pub returns-in_default-2 : goal.returns-in_default-2
returns-in_default-2 c = (mark_none _ (λ e. omega arith) (λ e. omega arith) (λ e. omega arith), omega arith)
