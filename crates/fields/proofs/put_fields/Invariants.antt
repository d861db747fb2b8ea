-- `put_fields` meets its contract. Writing the fields left gives what writing all gives.
use Rattle.fields.proofs.Writing.{Writing}
use Rattle.fields.proofs.put_fields.Given as goal

abbrev pub invariant-loop-form : goal.invariant-loop-form
invariant-loop-form l = Writing l.forms l.values l.initial.buf l.at l.form-iterator.a.rest.now l.form-iterator.b.rest.now l.buf l.end
