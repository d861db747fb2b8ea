-- `read_values` meets its contract: one law for each exit.
use Rattle.std.proofs.Common.{ℕ, arith, ◌∙◌}
use Rattle.std.proofs.lemmas.List.{length-replicate}
use Rattle.prepared.proofs.Stored.{most_tasks_lem}
use Rattle.saved.specs.Rows.{most_values}
use Rattle.saved.proofs.Reading.{word_ends, read_ends, read_kept, acts_room, values_long, values_other, date_bad, tasks_bad, acts_bad, acts_end, acts_short}
use Rattle.saved.proofs.read_values.Goals as goal
use Rattle.saved.proofs.read_values.Goals.{then-line-ge-LONGEST_ROW-via-then-line-ge-LONGEST_ROW, then-line-ge-LONGEST_ROW-via-else-line-ge-LONGEST_ROW+then-not-begins_row}

pub returns-then-line-ge-LONGEST_ROW : goal.returns-then-line-ge-LONGEST_ROW
returns-then-line-ge-LONGEST_ROW c =
    elim c.then-line-ge-LONGEST_ROW.branch [
      | then-line-ge-LONGEST_ROW-via-then-line-ge-LONGEST_ROW w ↦ values_long _ _ w.if-line-ge-LONGEST_ROW.true
      | then-line-ge-LONGEST_ROW-via-else-line-ge-LONGEST_ROW+then-not-begins_row w ↦ values_other _ _ w.if-line-ge-LONGEST_ROW.false w.if-not-begins_row.ensures
    ]

pub read_fields-requires : goal.read_fields-requires
read_fields-requires c = (word_ends _ c.if-not-begins_row.ensures, omega arith)

pub returns-in_err-p : goal.returns-in_err-p
returns-in_err-p c = c.from_residual.ensures ∙ date_bad _ _ c.if-line-ge-LONGEST_ROW.false c.if-not-begins_row.ensures _ _ c.read_fields.ensures c.in_err-p.was

pub read_parts-requires : goal.read_parts-requires
read_parts-requires c = (read_ends _ _ _ _ _ _ _ _ (word_ends _ c.if-not-begins_row.ensures) c.read_fields.ensures c.in_ok-p.was, omega (arith, most_tasks_lem c.args.component.now.prepared, read_kept _ _ _ _ _ _ _ c.read_fields.ensures ∙ length-replicate {A = ℕ} most_values 0))

pub returns-in_err-q : goal.returns-in_err-q
returns-in_err-q c = c.from_residual-in_err-q.ensures ∙ tasks_bad _ _ c.if-line-ge-LONGEST_ROW.false c.if-not-begins_row.ensures _ _ c.read_fields.ensures _ c.in_ok-p.was _ c.tasks-nt.ensures _ _ c.read_parts.ensures c.in_err-q.was

pub read_parts-requires-2 : goal.read_parts-requires-2
read_parts-requires-2 c = (read_ends _ _ _ _ _ _ _ _ (read_ends _ _ _ _ _ _ _ _ (word_ends _ c.if-not-begins_row.ensures) c.read_fields.ensures c.in_ok-p.was) c.read_parts.ensures c.in_ok-q.was, acts_room _ _ _ _ _ _ _ c.read_parts.ensures c.args.component.now.prepared (read_kept _ _ _ _ _ _ _ c.read_fields.ensures ∙ length-replicate {A = ℕ} most_values 0) _ _ c.tasks-nt.ensures c.acts-na.ensures)

pub returns-in_err-e : goal.returns-in_err-e
returns-in_err-e c = c.from_residual-in_err-e.ensures ∙ acts_bad _ _ c.if-line-ge-LONGEST_ROW.false c.if-not-begins_row.ensures _ _ c.read_fields.ensures _ c.in_ok-p.was _ c.tasks-nt.ensures _ _ c.read_parts.ensures _ c.in_ok-q.was _ c.acts-na.ensures _ _ c.read_parts-2.ensures c.in_err-e.was

pub returns-then-e-line : goal.returns-then-e-line
returns-then-e-line c = acts_end _ _ c.if-line-ge-LONGEST_ROW.false c.if-not-begins_row.ensures _ _ c.read_fields.ensures _ c.in_ok-p.was _ c.tasks-nt.ensures _ _ c.read_parts.ensures _ c.in_ok-q.was _ c.acts-na.ensures _ _ c.read_parts-2.ensures _ c.in_ok-e.was c.if-e-line.true

pub returns : goal.returns
returns c = acts_short _ _ c.if-line-ge-LONGEST_ROW.false c.if-not-begins_row.ensures _ _ c.read_fields.ensures _ c.in_ok-p.was _ c.tasks-nt.ensures _ _ c.read_parts.ensures _ c.in_ok-q.was _ c.acts-na.ensures _ _ c.read_parts-2.ensures _ c.in_ok-e.was c.if-e-line.false
