-- `read_line` meets its contract.
use Prim.Native.Nat.{◌≤◌}
use native.Mathlib.Omega.{arith}
use lib.ListN.{length}
use Rattle.text.proofs.Seeking.{first_ends}
use Rattle.logs.proofs.Reading.{line_none, line_one}
use Rattle.logs.proofs.read_line.Goals as goal

pub overflow_add-end : goal.overflow_add-end
overflow_add-end c =
    let h : c.next_byte-end.result ≤ length c.args.s.now = search (first_ends) in
    omega arith

pub returns-then-end-s : goal.returns-then-end-s
returns-then-end-s c = search (line_none)

pub returns : goal.returns
returns c = search (line_one)
