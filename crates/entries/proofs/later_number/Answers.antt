-- `later_number` meets its contract.
use Rattle.std.proofs.Common.{rules, refl}
use Rattle.std.proofs.lemmas.Result.{err_from_is_err_and}
use Rattle.model.proofs.Tests.{true_T}
use Rattle.entries.proofs.Answers.{refusal_some, rows_whole, later_same, later_refused, later_differs}
use Rattle.entries.proofs.later_number.Goals as goal

pub returns-then-is_row_of : goal.returns-then-is_row_of
returns-then-is_row_of c = later_same _ _ _ _ c.is_row_of.ensures (true_T _ c.args.component.now.prepared.formed) c.requires (search rows_whole) (search rows_whole) (search rules)

pub returns-in_err-read_sound : goal.returns-in_err-read_sound
returns-in_err-read_sound c = let p = err_from_is_err_and c.from_residual.result c.from_residual.ensures.1 in rw (p.1, p.2) (later_refused _ _ _ _ c.is_row_of.ensures _ c.in_err-read_sound.ensures (refusal_some c.in_err-read_sound.field-0.0))

pub returns : goal.returns
returns c = later_differs _ _ _ _ c.is_row_of.ensures _ c.in_ok-read_sound.ensures c.if-is_row_of.false refl
