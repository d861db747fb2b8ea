-- Bytes moved to the front of a block.
use Prim.Native.Nat.{ℕ, ◌+◌, ◌-◌, ◌≤◌, ◌<◌}
use mathlib.Core.Path.{◌≡◌, refl, sym, ◌∙◌}
use mathlib.Core.List.{List}
use native.Mathlib.Omega.{arith}
use lib.ListN.{length, drop, take}
use lib.Seq.{sets-eq, slice, length-slice, paste}
use borrow.Author.Tests.{le-leb}
use Rattle.std.proofs.lemmas.List.{drop-take}
use Rattle.text.specs.Put.{Put}

-- a copy of a part to the front writes that part there
pub moved : (block : List ℕ) (from end : ℕ) → from < end → end ≤ length block → (after : List ℕ) → after ≡ paste block 0 (drop from block) (end - from)
    → Put block 0 (slice from end block) (end - from) after
moved block from end l h after e =
    let w : length (slice from end block) ≡ end - from = length-slice from end block h in
    let k : 0 + length (slice from end block) ≤ length block = omega arith in
    let a : from + (end - from) ≡ end = omega arith in
    let p : slice from end block ≡ take (end - from) (drop from block) = rw a at (drop-take from (end - from) block) in
    record {
      place = rw (le-leb _ _ k) (omega (arith, w));
      bytes = rw (le-leb _ _ k) (e ∙ sym (sets-eq (slice from end block) block 0 k ∙ rw (w, p) refl));
    }
