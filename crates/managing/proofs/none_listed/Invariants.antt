-- `none_listed` meets its contract. No activity of the task before a is in N or R.
use Rattle.prepared.proofs.Walks.{Passed}
use Rattle.managing.proofs.Listed.{listed_at}
use Rattle.managing.proofs.none_listed.Given as goal

abbrev pub invariant-loop-a : goal.invariant-loop-a
invariant-loop-a l = Passed (listed_at l.listed) l.initial.a l.a
