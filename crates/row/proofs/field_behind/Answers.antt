-- `field_behind` meets its contract.
use mathlib.Core.Path.{refl, ◌∙◌}
use native.Mathlib.Omega.{arith}
use Rattle.text.proofs.Seeking.{part_ends}
use Rattle.text.proofs.Fields.{behind_gone, behind_bad, behind_is}
use Rattle.row.specs.Row.{field_behind}
use Rattle.row.proofs.field_behind.Goals as goal

pub returns-in_default : goal.returns-in_default
unfolding field_behind
returns-in_default c = rw c.in_default.is refl

pub returns-then-line-at : goal.returns-then-line-at
unfolding field_behind
returns-then-line-at c = rw c.in-Some.is (search (behind_gone))

pub slice_bounds-read_form-end : goal.slice_bounds-read_form-end
slice_bounds-read_form-end c = part_ends _ _ _ 9 (omega arith) c.next_byte-end.ensures

pub returns-in_err-value : goal.returns-in_err-value
unfolding field_behind
returns-in_err-value c = rw c.in-Some.is (c.from_residual.ensures ∙ behind_bad _ _ _ c.if-line-at.false _ c.next_byte-end.ensures _ c.read_form.ensures c.in_err-value.was)

pub returns : goal.returns
unfolding field_behind
returns c = rw c.in-Some.is (behind_is _ _ _ c.if-line-at.false _ c.next_byte-end.ensures _ c.read_form.ensures _ c.in_ok-value.was)
