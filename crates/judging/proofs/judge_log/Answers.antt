-- `judge_log` meets its contract.
use mathlib.Core.Path.{sym, ◌∙◌}
use borrow.Author.Tests.{leb-true}
use Rattle.judging.proofs.Reporting.{log_surely}
use Rattle.judging.proofs.judge_log.Goals as goal
use Rattle.judging.proofs.judge_log.Goals.{then-surely_fits, else-surely_fits}

pub write_report-requires : goal.write_report-requires
write_report-requires c =
    elim c.if-surely_fits.branch [
      | then-surely_fits w ↦ log_surely c.args.component.now _ _ (sym c.surely_fits.ensures ∙ w.if-surely_fits.true)
      | else-surely_fits w ↦ leb-true _ _ (sym w.does_fit.ensures ∙ sym w.value-is ∙ c.if-does_fit.true)
    ]
