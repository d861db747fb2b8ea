-- `step` meets its contract.
use borrow.Author.Rules.{rules}
use Rattle.model.proofs.Tests.{true_T}
use Rattle.model.proofs.Asked.{yes_by}
use Rattle.table.proofs.Writing.{checked_fine}
use Rattle.stepping.proofs.Single.{table_refused, state_unsound, step_is}
use Rattle.stepping.proofs.step.Goals as goal

pub returns-in_default : goal.returns-in_default
returns-in_default c = search table_refused

pub index_of-requires : goal.index_of-requires
index_of-requires c = search checked_fine

pub returns-then-not-is_sound : goal.returns-then-not-is_sound
returns-then-not-is_sound c = search state_unsound

pub step_line-requires : goal.step_line-requires
step_line-requires c = search (rules, true_T, yes_by)

pub returns : goal.returns
returns c = search step_is
