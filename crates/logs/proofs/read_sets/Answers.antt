-- `read_sets` meets its contract.
use Rattle.logs.proofs.Lists.{lists_short, lists_length, lists_apart, lists_first, lists_second, lists_both}
use Rattle.logs.proofs.read_sets.Goals.{then-s-digits-via-then-s-digits, then-s-digits-via-else-s-digits+then-s-digits-2, then-s-digits-via-else-s-digits+else-s-digits-2+then-s-digits-ne-TAB}
use Rattle.logs.proofs.read_sets.Goals as goal

pub returns-then-s-digits : goal.returns-then-s-digits
returns-then-s-digits c =
    elim c.then-s-digits.branch [
      | then-s-digits-via-then-s-digits w ↦ lists_short _ _ _ w.if-s-digits.true
      | then-s-digits-via-else-s-digits+then-s-digits-2 w ↦ lists_length _ _ _ w.if-s-digits-2.true
      | then-s-digits-via-else-s-digits+else-s-digits-2+then-s-digits-ne-TAB w ↦ search (lists_apart)
    ]

pub returns-in_err-n : goal.returns-in_err-n
returns-in_err-n c = rw c.from_residual.ensures (search (lists_first, c.in_err-n.was))

pub returns-in_err-r : goal.returns-in_err-r
returns-in_err-r c = rw c.from_residual-in_err-r.ensures (search (lists_second, c.in_err-r.was))

pub returns : goal.returns
returns c = search (lists_both, c.in_ok-n.was, c.in_ok-r.was)
