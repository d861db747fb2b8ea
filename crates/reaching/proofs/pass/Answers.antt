use mathlib.Core.Path.{sym, ◌∙◌}
use native.Mathlib.Omega.{arith}
use borrow.Author.Rules.{rules}
use Rattle.reaching.proofs.Turning.{left_all, left_less, left_more, left_over}
use Rattle.judging.proofs.Reporting.{not_closed, run_length}
use Rattle.reaching.proofs.pass.Goals as goal

pub loop-ran-init : goal.loop-ran-init
loop-ran-init c = (left_all c.requires.0 c.requires.1, search rules)

pub slice_bounds-play-end : goal.slice_bounds-play-end
slice_bounds-play-end c = sym c.loop-ran.invariant.1

pub play-ran-requires : goal.play-ran-requires
play-ran-requires c = let l = c.loop-ran.invariant.0 in (l.ready, l.within, l.roomy, omega arith)

pub loop-ran-smaller : goal.loop-ran-smaller
loop-ran-smaller c =
    let l = c.loop-ran in
    left_less l.invariant.0 c.play-ran.ensures c.in-Closed.is

pub loop-ran-preserved : goal.loop-ran-preserved
loop-ran-preserved c =
    let l = c.loop-ran in
    let run = c.play-ran.ensures in
    (left_more l.invariant.0 run c.in-Closed.is, run_length run ∙ l.invariant.1)

pub returns-in_default : goal.returns-in_default
returns-in_default c =
    let l = c.loop-ran in
    let run = c.play-ran in
    left_over l.invariant.0 run.ensures (not_closed run.result.stop c.in_default.not-Closed)
