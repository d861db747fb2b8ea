-- `check_table` meets its contract. Checking the rows left behind those so far gives what checking all gives.
use Rattle.table.specs.Drafts.{drafted}
use Rattle.table.proofs.Checking.{Checking}
use Rattle.table.proofs.check_table.Given as goal

abbrev pub invariant-loop-k : goal.invariant-loop-k
invariant-loop-k l = Checking l.t l.k 0 l.line (drafted l.draft)

abbrev pub invariant-loop-i : goal.invariant-loop-i
invariant-loop-i l = Checking l.t l.k l.i l.line (drafted l.draft)
