-- `word_in` meets its contract. Looking on from here, counted as k, finds what looking from the start finds.
use Prim.Native.Nat.{◌≤◌}
use mathlib.Core.Path.{◌≡◌}
use lib.ListN.{length}
use Rattle.text.specs.Parts.{parts_from}
use Rattle.text.specs.Words.{index_from, word_in}
use Rattle.text.proofs.word_in.Given as goal

abbrev pub invariant-loop-k : goal.invariant-loop-k
invariant-loop-k l = (l.k ≤ l.at) × (l.at ≤ length l.words) × (index_from l.k l.p (parts_from 9 l.words l.at) ≡ word_in l.words l.p)
