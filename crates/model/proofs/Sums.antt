-- Laws of a sum over the first numbers.
use mathlib.Core.Path.{◌≡◌, ap}
use mathlib.Core.Logic.{⊎_elim}
use Prim.Native.Nat.{ℕ, zero, suc, ◌+◌, ◌*◌, ◌≤◌, ◌<◌, zero-le}
use native.Mathlib.Omega.{arith}
use Rattle.model.specs.Tests.{sum}
use Rattle.model.proofs.Tests.{last_or}

-- no summand is larger
pub sum_le : (n : ℕ) (f g : ℕ → ℕ) → ((i : ℕ) → i < n → f i ≤ g i) → sum n f ≤ sum n g
unfolding sum
sum_le zero f g h = zero-le
sum_le (suc n) f g h = omega (arith, sum_le n f g (λ i l. h i (omega arith)), h n (omega arith))

-- no summand is above k
pub sum_bound : (n k : ℕ) (f : ℕ → ℕ) → ((i : ℕ) → i < n → f i ≤ k) → sum n f ≤ n * k
unfolding sum
sum_bound zero k f h = zero-le
sum_bound (suc n) k f h = omega (arith, sum_bound n k f (λ i l. h i (omega arith)), h n (omega arith))

-- no summand is larger but perhaps the one at i
pub sum_swap : (n i : ℕ) (f g : ℕ → ℕ) → i < n → ((j : ℕ) → j < n → (j ≡ i → ⊥) → f j ≤ g j) → sum n f + g i ≤ sum n g + f i
unfolding sum
sum_swap zero i f g h o = absurd (omega arith)
sum_swap (suc n) i f g h o = ⊎_elim (λ e. at e) (λ l. below l (sum_swap n i f g l (λ j k. o j (omega arith)))) (last_or i n h)
  where
    at : i ≡ n → sum n f + f n + g i ≤ sum n g + g n + f i
    at e = omega (arith, sum_le n f g (λ j l. o j (omega arith) (λ q. omega arith)), ap f e, ap g e)

    below : i < n → sum n f + g i ≤ sum n g + f i → sum n f + f n + g i ≤ sum n g + g n + f i
    below l u = omega (arith, o n (omega arith) (λ q. omega arith))

-- the summands are the same but perhaps the one at i
pub sum_but : (n i : ℕ) (f g : ℕ → ℕ) → i < n → ((j : ℕ) → j < n → (j ≡ i → ⊥) → f j ≡ g j) → sum n f + g i ≡ sum n g + f i
sum_but n i f g h same = omega (arith, sum_swap n i f g h (λ j l o. omega (arith, same j l o)), sum_swap n i g f h (λ j l o. omega (arith, same j l o)))
