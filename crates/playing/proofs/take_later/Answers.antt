-- `take_later` meets its contract.
use mathlib.Core.Path.{refl}
use Rattle.std.proofs.lemmas.Result.{err_from_is_err_and}
use Rattle.entries.proofs.Answers.{refusal_some}
use Rattle.playing.proofs.Resuming.{later_refused, later_taken}
use Rattle.playing.proofs.take_later.Goals as goal

pub returns-in_err-later_number : goal.returns-in_err-later_number
returns-in_err-later_number c = let p = err_from_is_err_and c.from_residual.result c.from_residual.ensures.1 in rw (p.1, p.2) (later_refused c.requires.0 c.requires.2 c.in_err-later_number.ensures (refusal_some c.in_err-later_number.field-0.0))

pub returns : goal.returns
returns c = later_taken c.requires.0 c.requires.2 c.in_ok-later_number.ensures refl c.after_row-going.ensures
