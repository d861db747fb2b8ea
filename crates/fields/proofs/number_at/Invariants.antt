-- `number_at` meets its contract: behind the digits so far those left are spelled.
use Rattle.fields.proofs.InPlace.{Spelling}
use Rattle.fields.proofs.number_at.Given as goal

abbrev pub invariant-loop-i : goal.invariant-loop-i
invariant-loop-i l = Spelling l.s l.at l.value l.i
