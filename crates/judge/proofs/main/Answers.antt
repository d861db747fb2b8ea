-- `main` is safe: the table is accepted where the log is judged against it.
use Rattle.std.proofs.Common.{arith}
use Rattle.report.proofs.Lines.{put_length}
use Rattle.judging.proofs.Hands.{put_within}
use Rattle.streaming.proofs.Opening.{opened_accepted}
use Rattle.judge.proofs.main.Goals as goal

pub judge_log-requires : goal.judge_log-requires
judge_log-requires c =
    let opened = c.open_table-opened.ensures in
    (opened_accepted opened _ c.in-Some.is, put_within opened.held, omega (arith, put_length opened.held))
