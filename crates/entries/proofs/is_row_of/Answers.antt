-- `is_row_of` meets its contract.
use mathlib.Core.Path.{ap, ◌∙◌}
use native.Mathlib.Omega.{arith}
use Rattle.text.specs.Words.{same_list}
use Rattle.text.proofs.Seeking.{part_long}
use Rattle.saved.proofs.Beginning.{same_texts}
use Rattle.entries.proofs.Answers.{row_some, row_inside, row_line_lem}
use Rattle.entries.proofs.is_row_of.Goals as goal

pub slice_bounds-row-count : goal.slice_bounds-row-count
slice_bounds-row-count c = row_some c.args.component.now.prepared _ c.requires _ _ _ (omega arith) c.put_state-n.ensures

pub slice_bounds-row-end : goal.slice_bounds-row-end
slice_bounds-row-end c = row_inside c.args.component.now.prepared _ c.requires _ _ _ (omega arith) c.put_state-n.ensures

pub slice_bounds-eq-length : goal.slice_bounds-eq-length
slice_bounds-eq-length c = part_long _ _ (row_inside c.args.component.now.prepared _ c.requires _ _ _ (omega arith) c.put_state-n.ensures)

pub returns : goal.returns
returns c = c.eq.ensures ∙ same_texts c.args.line.now _ ∙ ap (same_list c.args.line.now) (row_line_lem c.args.component.now.prepared _ c.requires _ _ _ (omega arith) c.put_state-n.ensures)
