-- `put_digits` meets its contract. Writing the j digits left gives what writing all k gives.
use Prim.Native.Nat.{◌≤◌}
use mathlib.Core.Path.{◌≡◌}
use lib.ListN.{length}
use lib.Seq.{sets}
use Rattle.text.specs.Digits.{pad}
use Rattle.text.proofs.put_digits.Given as goal

abbrev pub invariant-loop-j : goal.invariant-loop-j
invariant-loop-j l = (l.j ≤ l.k) × (length l.buf ≡ length l.initial.buf) × (sets l.buf l.at (pad l.base l.j l.left) ≡ sets l.initial.buf l.at (pad l.base l.k l.n))
