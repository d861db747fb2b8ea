use mathlib.Core.Path.{refl}
use borrow.Author.Rules.{rules}
use Rattle.text.proofs.Seeking.{part_starts, part_ends}
use Rattle.prepared.proofs.Stored.{shape}
use Rattle.engine.proofs.Runs.{run_starts, run_answers, run_ends, step_finds, step_small, newline_inside, unread_leaves, row_inside, row_passes, step_refused, step_passed, step_full, step_told}
use Rattle.engine.proofs.run.Goals as goal

pub loop-at-init : goal.loop-at-init
loop-at-init c = search run_starts

pub line_at-requires : goal.line_at-requires
line_at-requires c = let h = c.loop-at.invariant.here.within in (part_starts _ _ _ 10 h c.next_byte-e.ensures, part_ends _ _ _ 10 h c.next_byte-e.ensures)

pub row_end-requires : goal.row_end-requires
row_end-requires c = (step_finds c.loop-at.invariant c.if-at-log.false c.next_byte-e.ensures, c.loop-at.invariant.here.within)

pub unread-stop-requires : goal.unread-stop-requires
unread-stop-requires c = let h = c.loop-at.invariant.here.within in (part_starts _ _ _ 10 h c.next_byte-e.ensures, part_ends _ _ _ 10 h c.next_byte-e.ensures)

pub overflow_add-at : goal.overflow_add-at
overflow_add-at c = search (rules, row_inside c.loop-at.invariant c.if-at-log.false c.next_byte-e.ensures c.in-Some-row_end.ensures.0 c.in-Some-row_end.ensures.1)

pub loop-at-preserved-in_default : goal.loop-at-preserved-in_default
loop-at-preserved-in_default c = row_passes c.loop-at.invariant c.if-at-log.false c.next_byte-e.ensures c.in-Some-row_end.ensures.0 c.in-Some-row_end.ensures.1 c.after_row-going.ensures

pub step-requires : goal.step-requires
step-requires c = (step_finds c.loop-at.invariant c.if-at-log.false c.next_byte-e.ensures, step_small c.loop-at.invariant c.if-at-log.false c.next_byte-e.ensures c.in-Some.ensures refl)

pub overflow_add-at-in-Ok : goal.overflow_add-at-in-Ok
overflow_add-at-in-Ok c = search (rules, newline_inside c.loop-at.invariant c.if-at-log.false c.next_byte-e.ensures c.in-Some.ensures refl)

pub loop-at-preserved-in-Kept : goal.loop-at-preserved-in-Kept
loop-at-preserved-in-Kept c = step_told c.loop-at.invariant c.if-at-log.false c.next_byte-e.ensures c.in-Some.ensures refl (shape c.args.component.now.prepared) c.in-Ok.ensures _ c.in-Kept.is c.in-Some-tell.ensures

pub loop-at-preserved : goal.loop-at-preserved
loop-at-preserved c = step_passed c.loop-at.invariant c.if-at-log.false c.next_byte-e.ensures c.in-Some.ensures refl (shape c.args.component.now.prepared) c.in-Ok.ensures c.in_default-ruling.not-Kept

pub returns-then-at-log : goal.returns-then-at-log
returns-then-at-log c = run_answers (run_ends c.loop-at.invariant c.if-at-log.true)

pub returns-in_default-row_end : goal.returns-in_default-row_end
returns-in_default-row_end c = run_answers (unread_leaves c.loop-at.invariant c.if-at-log.false c.next_byte-e.ensures c.in_default.ensures refl c.in_default-row_end.ensures c.unread-stop.ensures)

pub returns-in_default-tell : goal.returns-in_default-tell
returns-in_default-tell c = run_answers (step_full c.loop-at.invariant c.if-at-log.false c.next_byte-e.ensures c.in-Some.ensures refl (shape c.args.component.now.prepared) c.in-Ok.ensures _ c.in-Kept.is c.in_default-tell.ensures)

pub returns-in-Err : goal.returns-in-Err
returns-in-Err c = run_answers (step_refused c.loop-at.invariant c.if-at-log.false c.next_byte-e.ensures c.in-Some.ensures refl c.in-Err.ensures c.number.ensures)
