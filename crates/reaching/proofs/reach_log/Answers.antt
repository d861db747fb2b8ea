-- `reach_log` meets its contract.
use mathlib.Core.Path.{refl}
use native.Mathlib.Omega.{arith}
use Rattle.judging.proofs.Reporting.{fresh_start}
use Rattle.judging.proofs.Hands.{less_roomy}
use Rattle.reaching.proofs.Writing.{log_lines, log_refused, log_sound, log_row}
use Rattle.reaching.proofs.reach_log.Goals as goal

pub pass-ran-requires : goal.pass-ran-requires
pass-ran-requires c =
    let fresh = fresh_start _ c.args.log.now _ c.fresh_going.ensures (omega arith) in
    (fresh.0, less_roomy fresh.2 (omega arith))

pub lines-requires : goal.lines-requires
lines-requires c = log_lines c.args.component.now refl c.args.log.now _ c.fresh_going.ensures c.pass-ran.ensures (omega arith)

pub overflow_add-lines : goal.overflow_add-lines
overflow_add-lines c = omega (arith, c.lines.ensures, log_lines c.args.component.now refl c.args.log.now _ c.fresh_going.ensures c.pass-ran.ensures (omega arith))

pub returns-then-refusal-ne0 : goal.returns-then-refusal-ne0
returns-then-refusal-ne0 c =
    log_refused c.args.component.now refl _ _ c.fresh_going.ensures c.pass-ran.ensures _ _ c.refusal_of-refusal.ensures c.if-refusal-ne0.true
    c.lines.ensures c.put_pair.ensures

pub put_reached-requires : goal.put_reached-requires
put_reached-requires c = log_sound c.args.component.now refl c.args.log.now _ c.fresh_going.ensures c.pass-ran.ensures

pub returns : goal.returns
returns c =
    log_row c.args.component.now refl _ _ c.fresh_going.ensures c.pass-ran.ensures _ _ c.refusal_of-refusal.ensures c.if-refusal-ne0.false
    c.put_reached.ensures
