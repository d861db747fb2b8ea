use Rattle.std.proofs.lemmas.Result.{err_from_is_err_and}
use Rattle.table.proofs.Reading.{read_long, read_start, read_absent, read_short, read_bad, read_end, said_small, said_worded, read_refused, read_more}
use Rattle.table.proofs.read_table.Goals as goal

pub returns-then-s-gt-LONGEST : goal.returns-then-s-gt-LONGEST
returns-then-s-gt-LONGEST c = search (read_long)

pub loop-at-init : goal.loop-at-init
loop-at-init c = search (read_start)

pub returns-then-s-e : goal.returns-then-s-e
returns-then-s-e c = search (read_short)

pub returns-in_default : goal.returns-in_default
returns-in_default c = search (read_bad)

pub returns-then-r-eq-END : goal.returns-then-r-eq-END
returns-then-r-eq-END c = search (read_end)

pub add-requires : goal.add-requires
add-requires c = search (said_small, said_worded)

pub returns-in_err-add : goal.returns-in_err-add
returns-in_err-add c =
    let p = err_from_is_err_and c.from_residual.result c.from_residual.ensures.1 in
    let e = c.in_err-add.ensures in
    rw (p.1, p.2)
    (read_refused c.loop-at.invariant c.loop-at-test.true _ c.next_byte-e.ensures c.if-s-e.false
    _ c.read_row.ensures _ c.in-Some.is c.if-r-eq-END.false _ e.0 e.1)

pub loop-at-preserved : goal.loop-at-preserved
loop-at-preserved c =
    let e = c.in_ok-add.ensures in
    read_more c.loop-at.invariant c.loop-at-test.true _ c.next_byte-e.ensures c.if-s-e.false
    _ c.read_row.ensures _ c.in-Some.is c.if-r-eq-END.false e.0 _ e.1

pub returns : goal.returns
returns c = search (read_absent)
