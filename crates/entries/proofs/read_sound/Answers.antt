-- `read_sound` meets its contract.
use Rattle.std.proofs.Common.{refl}
use Rattle.std.proofs.lemmas.Result.{err_from_is_err_and}
use Rattle.entries.proofs.Answers.{refusal_some, sound_unread, sound_taken, sound_refused}
use Rattle.entries.proofs.read_sound.Goals as goal

pub returns-in_err-s : goal.returns-in_err-s
returns-in_err-s c = let p = err_from_is_err_and c.from_residual.result c.from_residual.ensures.1 in rw (p.1, p.2) (sound_unread _ _ _ c.in_err-s.ensures (refusal_some c.in_err-s.field-0.0))

pub returns-then-not-is_sound : goal.returns-then-not-is_sound
returns-then-not-is_sound c = sound_refused _ _ _ c.in_ok-s.ensures refl _ c.is_sound.ensures c.if-not-is_sound.true _ refl

pub returns : goal.returns
returns c = sound_taken _ _ _ c.in_ok-s.ensures refl _ c.is_sound.ensures c.if-not-is_sound.false
