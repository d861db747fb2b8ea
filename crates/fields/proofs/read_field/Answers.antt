-- `read_field` meets its contract.
use native.Mathlib.Omega.{arith}
use Rattle.text.proofs.Seeking.{part_ends}
use Rattle.text.proofs.Fields.{behind_gone, behind_bad, behind_is}
use Rattle.fields.proofs.read_field.Goals as goal

pub returns-then-line-at : goal.returns-then-line-at
returns-then-line-at c = search (behind_gone)

pub slice_bounds-read_form-end : goal.slice_bounds-read_form-end
slice_bounds-read_form-end c = part_ends _ _ _ 9 (omega arith) c.next_byte-end.ensures

pub returns-in_err-value : goal.returns-in_err-value
returns-in_err-value c = rw c.from_residual.ensures (search (behind_bad, c.in_err-value.was))

pub returns : goal.returns
returns c = search (behind_is, c.in_ok-value.was)
