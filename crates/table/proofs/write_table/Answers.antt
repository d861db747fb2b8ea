-- `write_table` meets its contract.
use Rattle.std.proofs.lemmas.Result.{err_from_is_err_and}
use Rattle.table.proofs.Writing.{write_refused, write_short, write_whole}
use Rattle.table.proofs.write_table.Goals as goal

pub returns-in_err-check_table : goal.returns-in_err-check_table
returns-in_err-check_table c =
    let p = err_from_is_err_and c.from_residual.result c.from_residual.ensures.1 in
    write_refused _ _ c.check_table.ensures _ _ c.in_err-check_table.was _ (rw (p.1, p.2))

pub returns-then-buf-text_width : goal.returns-then-buf-text_width
returns-then-buf-text_width c =
    write_short _ _ c.check_table.ensures _ _ c.in_ok-check_table.was _ c.text_width.ensures c.if-buf-text_width.true _ c.at.ensures

pub returns : goal.returns
returns c =
    write_whole _ _ c.check_table.ensures _ _ c.in_ok-check_table.was _ c.text_width.ensures c.if-buf-text_width.false _ _ c.put_table.ensures
