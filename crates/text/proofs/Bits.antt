-- The bits of a number below 2 ^ 64: none is set below a place where that power of two divides it, and none from a place on where it is
-- below that power.
use Prim.Native.Nat.{ℕ, zero, suc, ◌+◌, ◌-◌, ◌*◌, ◌/◌, ◌%◌, ◌^◌, ◌≤◌, ◌<◌}
use mathlib.Core.Path.{◌≡◌, sym, ap, ◌∙◌}
use mathlib.Core.Bool.{false}
use native.Mathlib.Omega.{arith}
use native.Mathlib.Nat.{mod-one, zero-div, mod-lt, div-eq_of_lt, div-add-mod'}
use lib.Dec.{eqb}
use lib.Pow.{pow_pos, pow_mono, shr_lt, shl_exact, field, mod-mod-pow, mod-pow-add}
use borrow.Author.Tests.{eqb-false}
use Rattle.text.specs.Set.{bit}
use Rattle.text.proofs.Picks.{order}

-- a power of two that fits
pub power_is : (k : ℕ) → k < 64 → 1 * 2 ^ k % 2 ^ 64 ≡ 2 ^ k
power_is k h = shl_exact {a = 1} 1 k 64 (omega arith) (omega arith) ∙ omega arith

-- a bit that is not set is 0
bit_zero : (m : ℕ) → eqb (m % 2) 1 ≡ false → m % 2 ≡ 0
bit_zero m e = omega (arith, eqb-false (m % 2) 1 e)

-- no bit below the k-th is set
pub low_clear : (n k : ℕ) → ((i : ℕ) → i < k → bit n i ≡ false) → n % 2 ^ k ≡ 0
unfolding bit
low_clear n zero h = mod-one n
low_clear n (suc k) h =
    let e : suc k ≡ 1 + k = omega arith in
    rw (e, mod-pow-add n 1 k, bit_zero (n / 2 ^ k) (h k (omega arith)), low_clear n k (λ i l. h i (omega arith))) (omega arith)

pub clear_low : (n k i : ℕ) → n % 2 ^ k ≡ 0 → i < k → bit n i ≡ false
unfolding bit
clear_low n k i e h =
    let p : k ≡ k - i - 1 + 1 + i = omega arith in
    let q : n / 2 ^ i % 2 ^ (k - i - 1 + 1) ≡ 0 = sym (field n (k - i - 1 + 1) i) ∙ ap (◌/ 2 ^ i) (ap (λ j. n % 2 ^ j) (sym p) ∙ e) ∙ zero-div (2 ^ i) in
    let r : n / 2 ^ i % 2 ≡ 0 = sym (mod-mod-pow (n / 2 ^ i) (k - i - 1) 1) ∙ ap (◌% 2) q in
    rw r

-- no bit from the k-th on is set
one_less : (n m : ℕ) → n < 2 ^ suc m → bit n m ≡ false → n < 2 ^ m
unfolding bit
one_less n m l e =
    let f : suc m ≡ 1 + m = omega arith in
    let q : n / 2 ^ m < 2 = shr_lt 1 m (rw f at l) in
    let z : n / 2 ^ m ≡ 0 = omega (arith, bit_zero (n / 2 ^ m) e) in
    let d : 0 * 2 ^ m + n % 2 ^ m ≡ n = rw z at (div-add-mod' n (2 ^ m)) in
    omega (arith, mod-lt n (pow_pos m))

pub high_clear : (n k m : ℕ) → k ≤ m → n < 2 ^ m → ((i : ℕ) → k ≤ i → i < m → bit n i ≡ false) → n < 2 ^ k
high_clear n k zero b l h = let e : k ≡ 0 = omega arith in rw e l
high_clear n k (suc m) b l h =
    order m k
    (λ g. let e : k ≡ suc m = omega arith in rw e l)
    (λ g. high_clear n k m g (one_less n m l (h m g (omega arith))) (λ i a c. h i a (omega arith)))

pub clear_high : (n k i : ℕ) → n < 2 ^ k → k ≤ i → bit n i ≡ false
unfolding bit
clear_high n k i l h = rw (div-eq_of_lt {n = n} {m = 2 ^ i} (omega (arith, pow_mono {i = k} {j = i} h)))
