-- `read_fields` meets its contract. Taking the fields left gives what taking all gives.
use Rattle.fields.specs.Fields.{took}
use Rattle.fields.proofs.Reading.{Reading}
use Rattle.fields.proofs.read_fields.Given as goal

abbrev pub invariant-loop-i : goal.invariant-loop-i
invariant-loop-i l = Reading l.forms l.line l.from l.initial.values (took l.forms l.line l.at l.from l.initial.values) l.values l.end l.i
