-- The input's start: the bytes at hand until they say where the table ends.
use Prim.Native.Nat.{ℕ, ◌+◌, ◌-◌, ◌≤◌, ◌<◌}
use mathlib.Core.Bool.{Bool, true, false, not}
use mathlib.Core.Path.{◌≡◌, sym, ap, ◌∙◌}
use mathlib.Core.List.{List}
use native.Mathlib.Omega.{arith}
use lib.ListN.{length, take}
use lib.Dec.{eqb}
use lib.Seq.{length-take-le}
use borrow.Author.Tests.{eqb-true, eqb-false}
use Rattle.text.proofs.Picks.{cases, order}
use Rattle.model.specs.Tests.{one}
use Rattle.table.specs.Texts.{longest}
use Rattle.stream.specs.Cut.{cut_known}
use Rattle.stream.proofs.Cuts.{unknown_few}

-- where the bytes at hand do not say where the table ends the input has not ended, and each block brings some or ends it
pub start_less : (s : List ℕ) (ended known : Bool) → known ≡ cut_known ended s → known ≡ false → (block₀ block : List ℕ) → length block ≡ length block₀
    → (have got : ℕ) → have + got ≤ length block → one (not (eqb got 0)) + (length block₀ - (have + got)) < one (not ended) + (length block₀ - have)
start_less s ended known e n block₀ block q have got h =
    let u : one (not ended) ≡ 1 = ap (λ b. one (not b)) (unknown_few s ended (sym e ∙ n)).0 in
    cases (eqb got 0)
    (λ y. rw y (omega (arith, eqb-true got 0 y)))
    (λ y. rw y (some (eqb-false got 0 y) u))
  where
    some : (got ≡ 0 → ⊥) → one (not ended) ≡ 1 → 1 + (length block₀ - (have + got)) < one (not ended) + (length block₀ - have)
    some f u = order 0 got (λ l. omega arith) (λ l. absurd (f (omega arith)))

-- where a block brings none, those at hand are few
pub start_few : (block : List ℕ) (have : ℕ) (ended known : Bool) → known ≡ cut_known ended (take have block) → known ≡ false → have ≤ length block
    → (got : ℕ) → eqb got 0 ≡ true → have + got ≤ longest
start_few block have ended known e n l got h =
    omega (arith, eqb-true got 0 h, (unknown_few (take have block) ended (sym e ∙ n)).1, length-take-le have block l)
