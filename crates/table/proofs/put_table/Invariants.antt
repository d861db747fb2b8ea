-- `put_table` meets its contract. Writing the rows left gives what writing all gives.
use Rattle.table.proofs.Writing.{Putting}
use Rattle.table.proofs.put_table.Given as goal

abbrev pub invariant-loop-k : goal.invariant-loop-k
invariant-loop-k l = Putting l.t l.k 0 l.at l.buf l.initial.buf

abbrev pub invariant-loop-i : goal.invariant-loop-i
invariant-loop-i l = Putting l.t l.k l.i l.at l.buf l.fn.buf
