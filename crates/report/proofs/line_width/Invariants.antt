-- `line_width` meets its contract. The width so far and that of the numbers left is the width of all.
use Prim.Native.Nat.{◌+◌, ◌*◌, ◌≤◌}
use mathlib.Core.Path.{◌≡◌}
use lib.ListN.{length, drop}
use Rattle.report.specs.Rows.{numbers_text}
use Rattle.report.proofs.line_width.Given as goal

abbrev pub invariant-loop-n : goal.invariant-loop-n
invariant-loop-n l = (l.width ≤ 7 + 21 * l.n-index) × (l.width + length (numbers_text (drop l.n-index l.numbers)) ≡ l.letters + length (numbers_text l.numbers) + 1)
