-- A walk over the rows that belong to one row, which stand together, finds what some row of all is.
use Prim.Native.Nat.{ℕ, ◌+◌, ◌≤◌, ◌<◌}
use mathlib.Core.Bool.{Bool, true, false}
use mathlib.Core.Path.{◌≡◌, sym, ◌∙◌}
use native.Mathlib.Omega.{arith}
use borrow.Author.Count.{below_more}
use lib.Dec.{T, eqb, eqb→eq, eqb_refl}
use Rattle.model.specs.Tests.{◌and◌, some}
use Rattle.model.proofs.Tests.{T_true, T_false, and_i, and_l, and_r, some_at, some_mk}
use Rattle.text.proofs.Picks.{false_true}

-- no row from the first up to a place passes the test
abbrev pub Passed : (ℕ → Bool) → ℕ → ℕ → Type 0
Passed test from e = (k : ℕ) → k < e → from ≤ k → test k ≡ false

pub passed_none : (test : ℕ → Bool) (from : ℕ) → Passed test from from
passed_none test from k h l = absurd (omega arith)

pub passed_more : (test : ℕ → Bool) (from e : ℕ) → Passed test from e → test e ≡ false → Passed test from (e + 1)
passed_more test from e none f = below_more _ e none (λ l. f)

-- row e of n is as asked where it belongs to row i and passes the test; those that belong to row i stand between the two places
module _ (n i from end : ℕ) (of : ℕ → ℕ) (asked test : ℕ → Bool) (rows : (e : ℕ) → e < n → asked e ≡ (eqb (of e) i and test e)) where
  pub found : end ≤ n → ((e : ℕ) → from ≤ e → e < end → of e ≡ i) → (e : ℕ) → from ≤ e → e < end → test e ≡ true → true ≡ some n asked
  found ends inside e a b t =
      let l : e < n = omega arith in
      sym (T_true _ (some_mk asked n e l (rw (rows e l, inside e a b, t) (and_i (eqb i i) true (eqb_refl i) tt))))

  pub absent : ((e : ℕ) → e < n → of e ≡ i → (from ≤ e) × (e < end)) → (e : ℕ) → end ≤ e → Passed test from e → false ≡ some n asked
  absent outside e b none = sym (T_false _ λ t.
      let w = some_at asked n t in
      let u : T (eqb (of w.0) i and test w.0) = rw (rows w.0 w.1) at w.2 in
      let o = outside w.0 w.1 (eqb→eq _ _ (and_l (eqb (of w.0) i) _ u)) in
      false_true (sym (none w.0 (omega (arith, o.1)) o.0) ∙ T_true _ (and_r (eqb (of w.0) i) _ u)))
