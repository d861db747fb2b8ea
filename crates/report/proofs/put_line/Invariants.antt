-- `put_line` meets its contract. What is left to write are the numbers from here on.
use lib.ListN.{drop}
use Rattle.report.specs.Rows.{numbers_text}
use Rattle.report.proofs.Lines.{Writing}
use Rattle.report.proofs.put_line.Given as goal

abbrev pub invariant-loop-n : goal.invariant-loop-n
invariant-loop-n l = Writing l.initial.buf l.initial.place (numbers_text l.numbers) l.buf l.place (numbers_text (drop l.n-index l.numbers))
