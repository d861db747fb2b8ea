-- `write_report` meets its contract.
use native.Mathlib.Omega.{arith}
use Rattle.judging.proofs.Reporting.{rows_of, fresh_start, head_within, report_put}
use Rattle.judging.proofs.write_report.Goals as goal

pub play-ran-requires : goal.play-ran-requires
play-ran-requires c =
    let fresh = fresh_start _ c.args.log.now _ c.fresh_going.ensures (omega arith) in
    (fresh.0, fresh.1, fresh.2, head_within _ (rows_of c.args.component.now) _ _ c.requires _ _ c.put_head-at.ensures)

pub returns : goal.returns
returns c =
    report_put _ (rows_of c.args.component.now) _ _ c.requires _ _ c.put_head-at.ensures _ c.fresh_going.ensures _ _ c.play-ran.ensures
    _ c.refusal_of.ensures _ _ c.put_sum.ensures
