use mathlib.Core.Path.{refl}
use native.Mathlib.Omega.{arith}
use borrow.Author.Rules.{rules}
use Rattle.model.proofs.Tests.{true_T}
use Rattle.prepared.specs.Prepared.{table_in}
use Rattle.entries.proofs.Answers.{refusal_some}
use Rattle.entries.proofs.Owning.{row_laws}
use Rattle.playing.proofs.Playing.{Met, reached_none, plays_begun, rows_inside, run_over, run_meets, row_ends, row_starts, row_counts, row_over, row_taken}
use Rattle.playing.proofs.play.Goals as goal

pub loop-ran-init : goal.loop-ran-init
loop-ran-init c = let B = c.begin-at.ensures in (B, reached_none _ _ _ _ _ _ B.ready B.inside B.roomy c.requires.3)

pub run-ran-requires : goal.run-ran-requires
run-ran-requires c = search (rows_inside, rules)

pub returns-in_default : goal.returns-in_default
returns-in_default c = plays_begun c.loop-ran.invariant.0 (search run_over)

pub slice_bounds-resume-count : goal.slice_bounds-resume-count
slice_bounds-resume-count c =
    let met : Met (table_in c.args.component.now.rows c.args.component.now.index) c.args.log.now c.begin-at.result c.begin-at.new.going c.args.buf.now c.args.place c.run-ran.result.going c.run-ran.result.at c.run-ran.new.buf c.run-ran.result.filled c.next_byte-e.result =
    run_meets c.loop-ran.invariant.1 c.run-ran.ensures.runs (row_laws _ (true_T _ c.args.component.now.prepared.formed)) c.in-Row.is c.next_byte-e.ensures in
    row_starts met

pub slice_bounds-resume-end : goal.slice_bounds-resume-end
slice_bounds-resume-end c =
    let met : Met (table_in c.args.component.now.rows c.args.component.now.index) c.args.log.now c.begin-at.result c.begin-at.new.going c.args.buf.now c.args.place c.run-ran.result.going c.run-ran.result.at c.run-ran.new.buf c.run-ran.result.filled c.next_byte-e.result =
    run_meets c.loop-ran.invariant.1 c.run-ran.ensures.runs (row_laws _ (true_T _ c.args.component.now.prepared.formed)) c.in-Row.is c.next_byte-e.ensures in
    search (row_ends met, rules)

pub resume-requires : goal.resume-requires
resume-requires c =
    let met : Met (table_in c.args.component.now.rows c.args.component.now.index) c.args.log.now c.begin-at.result c.begin-at.new.going c.args.buf.now c.args.place c.run-ran.result.going c.run-ran.result.at c.run-ran.new.buf c.run-ran.result.filled c.next_byte-e.result =
    run_meets c.loop-ran.invariant.1 c.run-ran.ensures.runs (row_laws _ (true_T _ c.args.component.now.prepared.formed)) c.in-Row.is c.next_byte-e.ensures in
    (c.run-ran.ensures.runs.ready, row_counts met)

pub returns-in-Err : goal.returns-in-Err
returns-in-Err c =
    let met : Met (table_in c.args.component.now.rows c.args.component.now.index) c.args.log.now c.begin-at.result c.begin-at.new.going c.args.buf.now c.args.place c.run-ran.result.going c.run-ran.result.at c.run-ran.new.buf c.run-ran.result.filled c.next_byte-e.result =
    run_meets c.loop-ran.invariant.1 c.run-ran.ensures.runs (row_laws _ (true_T _ c.args.component.now.prepared.formed)) c.in-Row.is c.next_byte-e.ensures in
    rw c.number.ensures (plays_begun c.loop-ran.invariant.0 (row_over met c.in-Err.ensures (refusal_some _)))

pub overflow_add-at : goal.overflow_add-at
overflow_add-at c =
    let met : Met (table_in c.args.component.now.rows c.args.component.now.index) c.args.log.now c.begin-at.result c.begin-at.new.going c.args.buf.now c.args.place c.run-ran.result.going c.run-ran.result.at c.run-ran.new.buf c.run-ran.result.filled c.next_byte-e.result =
    run_meets c.loop-ran.invariant.1 c.run-ran.ensures.runs (row_laws _ (true_T _ c.args.component.now.prepared.formed)) c.in-Row.is c.next_byte-e.ensures in
    omega (arith, row_ends met, c.well_formed)

pub loop-ran-smaller : goal.loop-ran-smaller
loop-ran-smaller c =
    let met : Met (table_in c.args.component.now.rows c.args.component.now.index) c.args.log.now c.begin-at.result c.begin-at.new.going c.args.buf.now c.args.place c.run-ran.result.going c.run-ran.result.at c.run-ran.new.buf c.run-ran.result.filled c.next_byte-e.result =
    run_meets c.loop-ran.invariant.1 c.run-ran.ensures.runs (row_laws _ (true_T _ c.args.component.now.prepared.formed)) c.in-Row.is c.next_byte-e.ensures in
    omega (arith, row_ends met, row_starts met, c.run-ran.ensures.runs.within)

pub loop-ran-preserved : goal.loop-ran-preserved
loop-ran-preserved c =
    let met : Met (table_in c.args.component.now.rows c.args.component.now.index) c.args.log.now c.begin-at.result c.begin-at.new.going c.args.buf.now c.args.place c.run-ran.result.going c.run-ran.result.at c.run-ran.new.buf c.run-ran.result.filled c.next_byte-e.result =
    run_meets c.loop-ran.invariant.1 c.run-ran.ensures.runs (row_laws _ (true_T _ c.args.component.now.prepared.formed)) c.in-Row.is c.next_byte-e.ensures in
    (c.loop-ran.invariant.0, row_taken met c.in_default-resume.ensures refl)
