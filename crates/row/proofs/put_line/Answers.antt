-- `put_line` meets its contract. Writing the fields left gives what writing the line gives.
use Rattle.row.proofs.Writing.{word_put, first_room, second_room, third_room, line_put}
use Rattle.row.proofs.put_line.Goals as goal

pub put_field-p-requires : goal.put_field-p-requires
put_field-p-requires c = first_room _ _ _ c.requires _ _ (word_put c.kind_at.result _ _ _ _ _ c.kind_at.ensures c.put_bytes-w.ensures) _ c.form_of.ensures

pub put_field-q-requires : goal.put_field-q-requires
put_field-q-requires c =
    second_room _ _ _ c.requires _ _ (word_put c.kind_at.result _ _ _ _ _ c.kind_at.ensures c.put_bytes-w.ensures) _ c.form_of.ensures _ _ c.put_field-p.ensures _ c.form_of-2.ensures

pub put_field-requires : goal.put_field-requires
put_field-requires c =
    third_room _ _ _ c.requires _ _ (word_put c.kind_at.result _ _ _ _ _ c.kind_at.ensures c.put_bytes-w.ensures) _ c.form_of.ensures _ _ c.put_field-p.ensures
    _ c.form_of-2.ensures _ _ c.put_field-q.ensures _ c.form_of-3.ensures

pub returns : goal.returns
returns c =
    line_put _ _ _ c.requires _ _ (word_put c.kind_at.result _ _ _ _ _ c.kind_at.ensures c.put_bytes-w.ensures) _ c.form_of.ensures _ _ c.put_field-p.ensures
    _ c.form_of-2.ensures _ _ c.put_field-q.ensures _ c.form_of-3.ensures _ _ c.put_field.ensures
