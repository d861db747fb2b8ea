-- The model's laws of tests, for tests that are told by `≡ true`; and when tests of each or of some number are alike.
use Prim.Native.Nat.{ℕ, zero, suc, ◌<◌}
use mathlib.Core.Path.{◌≡◌, refl}
use mathlib.Core.Bool.{Bool, true, false, not, ◌&&◌}
use mathlib.Core.List.{List, [], ◌∷◌}
use native.Mathlib.Omega.{arith}
use lib.ListN.{length, get_or}
use Rattle.std.specs.List.{list_all}
use Rattle.text.proofs.Picks.{false_true}
use Rattle.model.specs.Tests.{◌and◌, ◌or◌, each, some, after, need}
use Rattle.model.proofs.Tests.{T_true, true_T, same_test, and_both, each_mk}
use Rattle.model.proofs.Tests as tests

-- both tests of a conjunction hold
pub both : (a : Bool) {b : Bool} → a and b ≡ true → (a ≡ true) × (b ≡ true)
both a {b} h = let t = and_both a b (true_T (a and b) h) in (T_true a t.0, T_true b t.1)

-- two tests of which each holds where the other does
pub agree : (a b : Bool) → (a ≡ true → b ≡ true) → (b ≡ true → a ≡ true) → a ≡ b
agree a b f g = same_test a b (λ t. true_T b (f (T_true a t))) (λ t. true_T a (g (T_true b t)))

-- where nothing is refused the test holds, and nothing is refused after it
pub needed : (b : Bool) (n : ℕ) {r : ℕ} → need b (suc n) r ≡ 0 → (b ≡ true) × (r ≡ 0)
needed true n h = (refl, h)
needed false n h = absurd (omega arith)

-- a test of each number below n holds at every one of them
pub each_at : (n : ℕ) (p : ℕ → Bool) → each n p ≡ true → (i : ℕ) → i < n → p i ≡ true
each_at n p h i l = T_true (p i) (tests.each_at p n (true_T (each n p) h) i l)

-- and holds where it holds at every one of them
pub each_all : (n : ℕ) (p : ℕ → Bool) → ((i : ℕ) → i < n → p i ≡ true) → each n p ≡ true
each_all n p h = T_true (each n p) (each_mk p n (λ i l. true_T (p i) (h i l)))

module _ (p q : ℕ → Bool) where
  -- tests that agree below n hold alike at each number
  pub each_same : (n : ℕ) → ((i : ℕ) → i < n → p i ≡ q i) → each n p ≡ each n q
  unfolding each
  each_same zero h = refl
  each_same (suc n) h = rw (each_same n (λ i l. h i (omega arith)), h n (omega arith))

  -- and at some number
  pub some_same : (n : ℕ) → ((i : ℕ) → i < n → p i ≡ q i) → some n p ≡ some n q
  unfolding some
  some_same zero h = refl
  some_same (suc n) h = rw (some_same n (λ i l. h i (omega arith)), h n (omega arith))

  -- and at the number before
  pub after_same : (n : ℕ) → ((i : ℕ) → i < n → p i ≡ q i) → after n p ≡ after n q
  after_same zero h = refl
  after_same (suc n) h = h n (omega arith)

-- a test fails at each number where it holds at none
pub each_not : (n : ℕ) (p : ℕ → Bool) → each n (λ i. not (p i)) ≡ not (some n p)
unfolding each some
each_not zero p = refl
each_not (suc n) p = rw (each_not n p) (more (some n p))
  where
    more : (b : Bool) → not b and not (p n) ≡ not (b or p n)
    more true = refl
    more false = refl

both_pass : (a : Bool) {b : Bool} → (a && b) ≡ true → (a ≡ true) × (b ≡ true)
both_pass true h = (refl, h)
both_pass false h = absurd (false_true h)

-- a test of each element of a list
module _ (p : ℕ → Bool) where
  pub list_at : (xs : List ℕ) → list_all p xs ≡ true → (i : ℕ) → i < length xs → p (get_or xs i 0) ≡ true
  list_at [] h i l = absurd (omega arith)
  list_at (x ∷ xs) h zero l = (both_pass (p x) h).0
  list_at (x ∷ xs) h (suc i) l = list_at xs (both_pass (p x) h).1 i (omega arith)

  pub list_mk : (xs : List ℕ) → ((i : ℕ) → i < length xs → p (get_or xs i 0) ≡ true) → list_all p xs ≡ true
  list_mk [] h = refl
  list_mk (x ∷ xs) h = rw (h 0 (omega arith), list_mk xs (λ i l. h (suc i) (omega arith)))

  pub list_each : (xs : List ℕ) → list_all p xs ≡ each (length xs) (λ i. p (get_or xs i 0))
  list_each xs =
      agree _ _ (λ h. each_all (length xs) (λ i. p (get_or xs i 0)) (list_at xs h)) (λ h. list_mk xs (each_at (length xs) (λ i. p (get_or xs i 0)) h))
