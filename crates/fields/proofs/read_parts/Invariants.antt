-- `read_parts` meets its contract. Taking the descriptions left gives what taking all gives.
use Rattle.fields.specs.Fields.{repeated, took}
use Rattle.fields.proofs.Reading.{Repeating}
use Rattle.fields.proofs.read_parts.Given as goal

abbrev pub invariant-loop : goal.invariant-loop
invariant-loop l = Repeating l.forms l.line l.many l.initial.values (took (repeated l.many l.forms) l.line l.at l.from l.initial.values) l.values l.end l.place l.counter
