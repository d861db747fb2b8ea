-- `lines_end` meets its contract.
use Rattle.stream.proofs.Lines.{lines_last, lines_none}
use Rattle.stream.proofs.lines_end.Goals as goal

pub returns-in-Some : goal.returns-in-Some
returns-in-Some c = let told = c.in-Some.ensures in lines_last _ _ told.0 told.1 told.2

pub returns-in-None : goal.returns-in-None
returns-in-None c = lines_none _ c.in-None.ensures
