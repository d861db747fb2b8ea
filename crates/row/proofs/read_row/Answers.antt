-- `read_row` meets its contract. Each field ends within the line, so that the next may start there.
use mathlib.Core.Path.{sym}
use Rattle.std.proofs.lemmas.List.{length-take-le}
use Rattle.text.proofs.Seeking.{first_ends}
use Rattle.row.proofs.Reading.{row_unknown, row_first, row_second, row_third, row_long, row_whole, field_ends}
use Rattle.row.proofs.read_row.Goals as goal

pub slice_bounds-kind_in-end : goal.slice_bounds-kind_in-end
slice_bounds-kind_in-end c = sym (length-take-le _ _ (search (first_ends)))

pub returns-in_err-kind : goal.returns-in_err-kind
returns-in_err-kind c = rw c.from_residual.ensures (row_unknown _ _ c.next_byte-w.ensures _ c.kind_in.ensures c.in_err-kind.was)

pub field_behind-requires : goal.field_behind-requires
field_behind-requires c = search (first_ends)

pub returns-in_err-a : goal.returns-in_err-a
returns-in_err-a c =
    rw c.from_residual-in_err-a.ensures
    (row_first _ _ c.next_byte-w.ensures _ c.kind_in.ensures
    _ c.in_ok-kind.was _ c.form_of.ensures _ c.field_behind.ensures c.in_err-a.was)

pub field_behind-requires-2 : goal.field_behind-requires-2
field_behind-requires-2 c = field_ends _ _ _ _ c.field_behind.ensures (search (first_ends)) _ _ c.in_ok-a.was

pub returns-in_err-b : goal.returns-in_err-b
returns-in_err-b c =
    rw c.from_residual-in_err-b.ensures
    (row_second _ _ c.next_byte-w.ensures _ c.kind_in.ensures
    _ c.in_ok-kind.was _ c.form_of.ensures _ c.field_behind.ensures
    _ _ c.in_ok-a.was _ c.form_of-2.ensures _ c.field_behind-2.ensures c.in_err-b.was)

pub field_behind-requires-3 : goal.field_behind-requires-3
field_behind-requires-3 c =
    field_ends _ _ _ _ c.field_behind-2.ensures (field_ends _ _ _ _ c.field_behind.ensures (search (first_ends)) _ _ c.in_ok-a.was) _ _ c.in_ok-b.was

pub returns-in_err-c : goal.returns-in_err-c
returns-in_err-c c =
    rw c.from_residual-in_err-c.ensures
    (row_third _ _ c.next_byte-w.ensures _ c.kind_in.ensures
    _ c.in_ok-kind.was _ c.form_of.ensures _ c.field_behind.ensures
    _ _ c.in_ok-a.was _ c.form_of-2.ensures _ c.field_behind-2.ensures
    _ _ c.in_ok-b.was _ c.form_of-3.ensures _ c.field_behind-3.ensures c.in_err-c.was)

pub returns-then-e-line : goal.returns-then-e-line
returns-then-e-line c =
    row_long _ _ c.next_byte-w.ensures _ c.kind_in.ensures
    _ c.in_ok-kind.was _ c.form_of.ensures _ c.field_behind.ensures
    _ _ c.in_ok-a.was _ c.form_of-2.ensures _ c.field_behind-2.ensures
    _ _ c.in_ok-b.was _ c.form_of-3.ensures _ c.field_behind-3.ensures _ _ c.in_ok-c.was c.if-e-line.true

pub returns : goal.returns
returns c =
    row_whole _ _ c.next_byte-w.ensures _ c.kind_in.ensures
    _ c.in_ok-kind.was _ c.form_of.ensures _ c.field_behind.ensures
    _ _ c.in_ok-a.was _ c.form_of-2.ensures _ c.field_behind-2.ensures
    _ _ c.in_ok-b.was _ c.form_of-3.ensures _ c.field_behind-3.ensures _ _ c.in_ok-c.was c.if-e-line.false
