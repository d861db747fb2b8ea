-- `word_at` meets its contract.
use mathlib.Core.Path.{◌∙◌}
use Rattle.fields.proofs.InPlace.{word_there, word_gone}
use Rattle.fields.proofs.word_at.Goals as goal

pub returns-then-end-s : goal.returns-then-end-s
returns-then-end-s c = word_there _ _ _ c.past_bytes-end.ensures c.if-end-s.true

pub returns : goal.returns
returns c = c.number_at.ensures ∙ word_gone _ _ _ c.past_bytes-end.ensures c.if-end-s.false
