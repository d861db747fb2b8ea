-- Two texts that can not be the same.
use mathlib.Core.Path.{◌≡◌, sym, ap}
use mathlib.Core.List.{List}
use mathlib.Core.Bool.{false}
use Prim.Native.Nat.{ℕ}
use lib.ListN.{length}
use Rattle.text.specs.Words.{same_list}
use Rattle.text.proofs.Picks.{cases}
use Rattle.text.proofs.Words.{same_list_lem}

-- lists of two lengths are not the same
pub same_short : (a b : List ℕ) → (length a ≡ length b → ⊥) → false ≡ same_list a b
same_short a b h = cases (same_list a b) (λ e. absurd (h (ap length (same_list_lem a b e)))) (λ e. sym e)
