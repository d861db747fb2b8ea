-- `head_field` meets its contract.
use native.Mathlib.Omega.{arith}
use Rattle.text.proofs.Seeking.{part_ends}
use Rattle.text.proofs.Fields.{behind_gone, behind_bad, behind_is}
use Rattle.logs.proofs.head_field.Goals as goal

pub returns-then-line-at : goal.returns-then-line-at
returns-then-line-at c = search (behind_gone)

pub slice_bounds-read_number-end : goal.slice_bounds-read_number-end
slice_bounds-read_number-end c = part_ends _ _ _ 9 (omega arith) c.next_byte-end.ensures

pub returns-in_err-number : goal.returns-in_err-number
returns-in_err-number c = rw c.from_residual.ensures (search (behind_bad, c.in_err-number.was))

pub returns : goal.returns
returns c = search (behind_is, c.in_ok-number.was)
