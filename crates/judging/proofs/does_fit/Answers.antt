-- `does_fit` meets its contract.
use native.Mathlib.Omega.{arith}
use borrow.Author.Rules.{rules}
use Rattle.judging.proofs.Reporting.{rows_of, fitting_none, fitting_start, fitting_short, fitting_end, fitting_more, not_closed}
use Rattle.judging.proofs.does_fit.Goals as goal

pub returns-then-room-lt-HEAD : goal.returns-then-room-lt-HEAD
returns-then-room-lt-HEAD c = search (fitting_none)

pub loop-width-init : goal.loop-width-init
loop-width-init c = fitting_start _ _ _ _ _ (search rules) c.fresh_going-going.ensures (search rules) (omega arith)

pub returns-then-room-width : goal.returns-then-room-width
returns-then-room-width c = fitting_short (rows_of c.args.component.now) c.loop-width.invariant c.play-ran.ensures c.if-room-width.true

pub returns-in_default : goal.returns-in_default
returns-in_default c =
    fitting_end (rows_of c.args.component.now) c.loop-width.invariant c.play-ran.ensures c.if-room-width.false (not_closed c.play-ran.result.stop c.in_default.not-Closed)
    _ c.refusal_of-refusal.ensures _ c.sum_numbers-numbers.ensures _ c.line_width.ensures

pub loop-width-preserved : goal.loop-width-preserved
loop-width-preserved c = fitting_more (rows_of c.args.component.now) c.loop-width.invariant c.play-ran.ensures c.if-room-width.false c.in-Closed.is c.put_cycle-filled.ensures
