-- `put_bytes` meets its contract. Writing the bytes left gives what writing all gives.
use Prim.Native.Nat.{◌≤◌, ◌+◌}
use mathlib.Core.Path.{◌≡◌}
use lib.ListN.{length, drop}
use lib.Seq.{sets}
use Rattle.text.proofs.put_bytes.Given as goal

abbrev pub invariant-loop-i : goal.invariant-loop-i
invariant-loop-i l = (l.at + length l.s ≤ length l.buf) × (length l.buf ≡ length l.initial.buf) × (sets l.buf (l.at + l.i) (drop l.i l.s) ≡ sets l.initial.buf l.at l.s)
