-- `take_first` meets its contract.
use mathlib.Core.Path.{refl}
use Rattle.std.proofs.lemmas.Result.{err_from_is_err_and}
use Rattle.entries.proofs.Answers.{refusal_some}
use Rattle.playing.proofs.Resuming.{first_refused, first_taken}
use Rattle.playing.proofs.take_first.Goals as goal

pub returns-in_err-state : goal.returns-in_err-state
returns-in_err-state c = let p = err_from_is_err_and c.from_residual.result c.from_residual.ensures.1 in rw (p.1, p.2) (first_refused c.requires.0 c.requires.1 c.in_err-state.ensures (refusal_some c.in_err-state.field-0.0))

pub returns : goal.returns
returns c = first_taken c.requires.0 c.requires.1 c.in_ok-state.ensures refl c.begun_at.ensures c.going_at.ensures
