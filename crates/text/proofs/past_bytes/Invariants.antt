-- `past_bytes` meets its contract. Where all bytes before were alike, those left decide.
use Prim.Native.Nat.{◌+◌, ◌≤◌}
use mathlib.Core.Path.{◌≡◌}
use lib.ListN.{length, drop}
use Rattle.text.specs.Parts.{pick}
use Rattle.text.specs.Standing.{past}
use Rattle.text.proofs.past_bytes.Given as goal

abbrev pub invariant-loop-i : goal.invariant-loop-i
invariant-loop-i l = (l.at + length l.word ≤ length l.s) × (past l.s l.at l.word ≡ pick l.alike (past l.s (l.at + l.i) (drop l.i l.word)) (length l.s))
