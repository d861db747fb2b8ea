use borrow.Author.Rules.{rules}
use Rattle.text.proofs.Spelling.{scan_fits, scan_shifts}
use Rattle.text.proofs.read_digits.Goals as goal

pub overflow_mul-v : goal.overflow_mul-v
overflow_mul-v c =
    let B = c.loop-b.invariant in
    let D = c.in_ok-d.ensures in
    search (rules, scan_shifts)

pub overflow_add-v : goal.overflow_add-v
overflow_add-v c = let D = c.in_ok-d.ensures in search (rules, scan_fits)
