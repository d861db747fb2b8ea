-- The number of a set: the sum of the bits of its members.
use Prim.Native.Nat.{ℕ, zero, suc, ◌+◌, ◌-◌, ◌/◌, ◌%◌, ◌^◌, ◌≤◌, ◌<◌}
use mathlib.Core.Path.{◌≡◌, refl, sym, ap, ◌∙◌}
use mathlib.Core.Bool.{Bool, true, false}
use native.Mathlib.Omega.{arith}
use native.Mathlib.Nat.{mod-one, mod-lt, mod-eq_of_lt}
use lib.Dec.{ltb, eqb}
use lib.Pow.{high, low, field, mod-mod-pow, mod-pow-add}
use borrow.Author.Tests.{lt-ltb, le-ltb, eqb-true, eqb-false}
use Rattle.text.specs.Set.{bit, member}
use Rattle.text.specs.declared.Set.{Set}
use Rattle.text.proofs.Picks.{cases, order}
use Rattle.text.proofs.Bits.{clear_high}
use Rattle.text.proofs.Members.{member_low, member_high, member_none}
use Rattle.model.specs.Tests.{◌and◌, one, sum}
use Rattle.saved.specs.Rows.{bit_of}

-- a number below 2 is 1 where it is said to be, and else 0
pub yes_same : (v : ℕ) → v < 2 → one (eqb v 1) ≡ v
yes_same v h = cases (eqb v 1) (λ e. rw e (sym (eqb-true v 1 e))) (λ e. rw e (omega (arith, eqb-false v 1 e)))

-- the lowest bit of yes is set, and that of no is not
yes_bit : (b : Bool) → eqb (one b % 2) 1 ≡ b
yes_bit true = refl
yes_bit false = refl

-- a bit below place n is a bit of the rest by 2 ^ n
rest_bit : (m n i : ℕ) → i < n → bit (m % 2 ^ n) i ≡ bit m i
unfolding bit
rest_bit m n i h =
    let e : n ≡ n - i - 1 + 1 + i = omega arith in
    let p : m % 2 ^ n / 2 ^ i ≡ m / 2 ^ i % 2 ^ (n - i - 1 + 1) = ap (λ j. m % 2 ^ j / 2 ^ i) e ∙ field m (n - i - 1 + 1) i in
    rw (p, mod-mod-pow (m / 2 ^ i) (n - i - 1) 1)

-- the bits of the numbers below n that a test holds of
module _ (p : ℕ → Bool) where
  -- their sum is below 2 ^ n
  pub bits_low : (n : ℕ) → sum n (λ a. bit_of (p a) a) < 2 ^ n
  unfolding sum
  bits_low zero = omega arith
  bits_low (suc n) = let l = bits_low n in cases (p n) (λ e. rw e (omega arith)) (λ e. rw e (omega arith))

  -- and has just these bits
  pub bits_at : (n i : ℕ) → bit (sum n (λ a. bit_of (p a) a)) i ≡ (ltb i n and p i)
  unfolding sum bit
  bits_at zero i = rw (le-ltb i 0 (omega arith)) (clear_high 0 0 i (omega arith) (omega arith))
  bits_at (suc n) i =
      let s = sum n (λ a. bit_of (p a) a) in
      let l : s < 2 ^ n = bits_low n in
      let f : s + bit_of (p n) n ≡ bit_of (p n) n + s = omega arith in
      order i n
      (λ h. rw f (sym (rest_bit (bit_of (p n) n + s) n i h) ∙ ap (λ m. bit m i) (low (one (p n)) n l) ∙ bits_at n i ∙ rw (lt-ltb i n h, lt-ltb i (suc n) (omega arith))))
      (λ h. order i (suc n)
      (λ g. let e : i ≡ n = omega arith in rw (f, lt-ltb i (suc n) g, e, high (one (p n)) n l) (yes_bit (p n)))
      (λ g. rw (le-ltb i (suc n) g) (clear_high (s + bit_of (p n) n) (suc n) i (bits_low (suc n)) g)))

  -- so it is the set of them
  pub bits_member : (n : ℕ) → n ≤ 64 → (i : ℕ) → member (record { low = sum n (λ a. bit_of (p a) a); high = 0 }) i ≡ (ltb i n and p i)
  bits_member n m i =
      let x : Set = record { low = sum n (λ a. bit_of (p a) a); high = 0 } in
      order i 64
      (λ h. member_low x i h ∙ bits_at n i)
      (λ h. rw (le-ltb i n (omega arith)) (order i 128
      (λ l. member_high x i h l ∙ clear_high 0 0 (i - 64) (omega arith) (omega arith))
      (λ l. sym (member_none x i h l))))

-- two tests that agree below n have one sum
pub bits_alike : (p q : ℕ → Bool) (n : ℕ) → ((a : ℕ) → a < n → p a ≡ q a) → sum n (λ a. bit_of (p a) a) ≡ sum n (λ a. bit_of (q a) a)
unfolding sum
bits_alike p q zero h = refl
bits_alike p q (suc n) h = rw (h n (omega arith), bits_alike p q n (λ a l. h a (omega arith)))

-- the bits of a number below place n make its rest by 2 ^ n
bits_rest : (v n : ℕ) → sum n (λ a. bit_of (bit v a) a) ≡ v % 2 ^ n
unfolding sum bit
bits_rest v zero = sym (mod-one v)
bits_rest v (suc n) =
    let e : suc n ≡ 1 + n = omega arith in
    rw (e, mod-pow-add v 1 n, bits_rest v n, yes_same (v / 2 ^ n % 2) (mod-lt (v / 2 ^ n) (omega arith))) (omega arith)

-- and make the number where it is below 2 ^ n
pub bits_same : (v n : ℕ) → v < 2 ^ n → sum n (λ a. bit_of (bit v a) a) ≡ v
bits_same v n h = bits_rest v n ∙ mod-eq_of_lt h
