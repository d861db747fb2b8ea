use Rattle.std.proofs.Common.{rules}
use mathlib.Core.Path.{◌∙◌}
use native.Mathlib.Omega.{arith}
use Rattle.table.proofs.Totals.{sum_counts}
use Rattle.table.proofs.Widths.{text_short}
use Rattle.table.proofs.Writing.{few, width_start, width_skip, width_next, width_fits, width_end, end_fits}
use Rattle.table.proofs.text_width.Goals as goal

pub loop-k-init : goal.loop-k-init
loop-k-init c = search (width_start)

pub overflow_add-width : goal.overflow_add-width
overflow_add-width c = search (width_fits, text_short)

pub loop-i-preserved : goal.loop-i-preserved
loop-i-preserved c = search (width_next)

pub loop-k-preserved : goal.loop-k-preserved
loop-k-preserved c = search (width_skip)

pub total-requires : goal.total-requires
total-requires c = rw (sum_counts c.args.t.now.counts (search rules)) (few c.args.t.now c.requires)

pub overflow_add-result : goal.overflow_add-result
overflow_add-result c =
    let h = end_fits _ _ _ _ _ _ c.loop-k.invariant c.loop-k-test.false _ (c.total.ensures ∙ sum_counts c.args.t.now.counts (search rules)) _ c.end_row.ensures _ c.row_width.ensures (text_short _ c.requires) in
    omega arith

pub returns : goal.returns
returns c =
    width_end _ _ _ _ _ _ c.loop-k.invariant c.loop-k-test.false _ (c.total.ensures ∙ sum_counts c.args.t.now.counts (search rules)) _ c.end_row.ensures _ c.row_width.ensures
