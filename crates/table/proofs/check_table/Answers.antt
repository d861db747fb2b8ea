use native.Mathlib.Omega.{arith}
use Rattle.std.proofs.lemmas.Result.{err_from_is_err_and}
use Rattle.table.proofs.Checking.{given_worded, check_start, check_end, check_skip, check_full, check_stops, check_more, line_fits}
use Rattle.table.proofs.check_table.Goals as goal

pub loop-k-init : goal.loop-k-init
loop-k-init c = search (check_start)

pub returns-then-is_full : goal.returns-then-is_full
returns-then-is_full c = search (check_full)

pub add-requires : goal.add-requires
add-requires c = (given_worded _ _ _ _ c.row_at.ensures.0 c.loop-k-test.true, c.row_at.ensures.1)

pub returns-in_err-add : goal.returns-in_err-add
returns-in_err-add c =
    let p = err_from_is_err_and c.from_residual.result c.from_residual.ensures.1 in
    let e = c.in_err-add.ensures in
    rw (p.1, p.2)
    (check_stops c.loop-i.invariant c.loop-k-test.true c.loop-i-test.true _ c.is_full.ensures c.if-is_full.false
    _ c.row_at.ensures.0 _ e.0 e.1)

pub overflow_add-line : goal.overflow_add-line
overflow_add-line c = let h = line_fits c.loop-i.invariant _ c.loop-i.draft.building in omega arith

pub loop-i-preserved : goal.loop-i-preserved
loop-i-preserved c =
    let e = c.in_ok-add.ensures in
    check_more c.loop-i.invariant c.loop-k-test.true c.loop-i-test.true _ c.is_full.ensures c.if-is_full.false
    _ c.row_at.ensures.0 _ c.loop-i.draft.building e.0 _ e.1

pub loop-k-preserved : goal.loop-k-preserved
loop-k-preserved c = search (check_skip)

pub returns : goal.returns
returns c = search (check_end)
