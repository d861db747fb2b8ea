-- Laws of the tests: what one that passes gives, at each or at some row, and what an accepted refusal says.
use mathlib.Core.Bool.{Bool, true, false, not}
use mathlib.Core.Path.{◌≡◌, refl, sym, subst, subst⁻¹}
use mathlib.Core.Logic.{◌⊎◌, inl, inr, ⊎_elim}
use Prim.Native.Nat.{ℕ, zero, suc, ◌<◌}
use native.Mathlib.Omega.{arith}
use native.Mathlib.Decide.{dec_lt}
use lib.Dec.{T, ltb, ltb→lt}
use Rattle.model.specs.Tests.{◌and◌, ◌or◌, ◌implies◌, each, some, need}

-- a test that passes is true, and one that is true passes
pub T_true : (b : Bool) → T b → b ≡ true
T_true true h = refl
T_true false h = absurd h

pub true_T : (b : Bool) → b ≡ true → T b
true_T b h = subst⁻¹ T h tt

-- one that does not pass is false
pub T_false : (b : Bool) → (T b → ⊥) → b ≡ false
T_false true h = absurd (h tt)
T_false false h = refl

-- a test passes, or its opposite does
pub yes_or_no : (b : Bool) → T b ⊎ T (not b)
yes_or_no true = inl tt
yes_or_no false = inr tt

-- two tests of which each passes where the other does are equal
pub same_test : (a b : Bool) → (T a → T b) → (T b → T a) → a ≡ b
same_test true b f g = sym (T_true b (f tt))
same_test false b f g = sym (T_false b g)

-- both of two tests
pub and_i : (a b : Bool) → T a → T b → T (a and b)
and_i true b t u = u
and_i false b t u = t

pub and_l : (a b : Bool) → T (a and b) → T a
and_l true b t = tt
and_l false b t = t

pub and_r : (a b : Bool) → T (a and b) → T b
and_r true b t = t
and_r false b t = absurd t

pub and_both : (a b : Bool) → T (a and b) → T a × T b
and_both a b t = (and_l a b t, and_r a b t)

-- one of two tests
pub or_l : (a b : Bool) → T a → T (a or b)
or_l true b t = tt
or_l false b t = absurd t

pub or_r : (a b : Bool) → T b → T (a or b)
or_r true b t = tt
or_r false b t = t

pub or_cases : (a b : Bool) → T (a or b) → T a ⊎ T b
or_cases true b t = inl tt
or_cases false b t = inr t

-- a test under a condition
pub imp_i : (a b : Bool) → (T a → T b) → T (a implies b)
imp_i true b f = f tt
imp_i false b f = tt

pub imp_e : (a b : Bool) → T (a implies b) → T a → T b
imp_e true b f t = f
imp_e false b f t = absurd t

-- below n + 1: at n, or below n
pub last_or : (i n : ℕ) → i < suc n → (i ≡ n) ⊎ (i < n)
last_or i n h = go (dec_lt i n)
  where
    go : Dec (i < n) → (i ≡ n) ⊎ (i < n)
    go (yes p) = inr p
    go (no q) = inl (omega arith)

-- a test that holds of each row, and one that holds of some row
pub each_at : (p : ℕ → Bool) (n : ℕ) → T (each n p) → (i : ℕ) → i < n → T (p i)
unfolding each
each_at p zero h i l = absurd (omega arith)
each_at p (suc n) h i l = ⊎_elim (λ e. subst⁻¹ (λ j. T (p j)) e (and_r (each n p) (p n) h)) (each_at p n (and_l (each n p) (p n) h) i) (last_or i n l)

pub each_mk : (p : ℕ → Bool) (n : ℕ) → ((i : ℕ) → i < n → T (p i)) → T (each n p)
unfolding each
each_mk p zero h = tt
each_mk p (suc n) h = and_i (each n p) (p n) (each_mk p n (λ i l. h i (omega arith))) (h n (omega arith))

pub some_at : (p : ℕ → Bool) (n : ℕ) → T (some n p) → (i : ℕ) × (i < n) × T (p i)
unfolding some
some_at p zero h = absurd h
some_at p (suc n) h = ⊎_elim (λ u. let w = some_at p n u in (w.0, omega (arith, w.1), w.2)) (λ u. (n, omega arith, u)) (or_cases (some n p) (p n) h)

pub some_mk : (p : ℕ → Bool) (n i : ℕ) → i < n → T (p i) → T (some n p)
unfolding some
some_mk p zero i h t = absurd (omega arith)
some_mk p (suc n) i h t = ⊎_elim (λ e. or_r (some n p) (p n) (subst (λ j. T (p j)) e t)) (λ l. or_l (some n p) (p n) (some_mk p n i l t)) (last_or i n h)

-- a test holds of each row, or fails of some row
pub each_or : (p : ℕ → Bool) (n : ℕ) → T (each n p) ⊎ ((i : ℕ) × (i < n) × (p i ≡ false))
unfolding each
each_or p zero = inl tt
each_or p (suc n) = ⊎_elim (λ u. at (p n) refl u) (λ w. inr (w.0, omega (arith, w.1), w.2)) (each_or p n)
  where
    at : (b : Bool) → p n ≡ b → T (each n p) → T (each n p and p n) ⊎ ((i : ℕ) × (i < suc n) × (p i ≡ false))
    at true e u = inl (and_i (each n p) (p n) u (true_T (p n) e))
    at false e u = inr (n, omega arith, e)

-- an accepted refusal passes its test, and so does what comes next
pub need_of : (b : Bool) (n r : ℕ) → T (ltb 0 n) → need b n r ≡ 0 → T b × (r ≡ 0)
need_of true n r h e = (tt, e)
need_of false n r h e = absurd (omega (arith, ltb→lt 0 n h))

pub need_mk : (b : Bool) (n r : ℕ) → T b → r ≡ 0 → need b n r ≡ 0
need_mk true n r t e = e
need_mk false n r t e = absurd t
