-- `put_acts` meets its contract. The first a activities are written.
use Rattle.saved.specs.Rows.{act_forms}
use Rattle.saved.proofs.Values.{act_part}
use Rattle.saved.proofs.Writing.{Written}
use Rattle.saved.proofs.put_acts.Given as goal

abbrev pub invariant-loop-a : goal.invariant-loop-a
invariant-loop-a l = Written act_forms (act_part l.s) l.initial.buf l.at l.buf l.p l.a
