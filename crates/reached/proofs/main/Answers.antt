-- `main` is safe: the table and the log's bytes lie within the block, and the table is accepted where the log is gone through.
use Rattle.std.proofs.Common.{arith}
use Rattle.text.proofs.Seeking.{part_long}
use Rattle.report.proofs.Lines.{put_length}
use Rattle.judging.proofs.Hands.{put_within}
use Rattle.judging.proofs.Reporting.{read_fine}
use Rattle.reached.proofs.Blocks.{cut_inside}
use Rattle.reached.proofs.main.Goals as goal

pub slice_bounds-block-end-2 : goal.slice_bounds-block-end-2
slice_bounds-block-end-2 c = cut_inside _ c.in_ok-start.start.have _ c.cut_at-cut.ensures

pub slice_bounds-read_table-end : goal.slice_bounds-read_table-end
slice_bounds-read_table-end c = part_long _ _ (cut_inside _ c.in_ok-start.start.have _ c.cut_at-cut.ensures)

pub reach_log-requires : goal.reach_log-requires
reach_log-requires c =
    let held = c.to_front-held.ensures in
    (read_fine _ c.in-Ok.ensures, put_within held, omega (arith, put_length held))
