-- Laws of rows: what a list holds after one row was set, or each of the first rows was written anew.
use mathlib.Core.Path.{◌≡◌, refl, ap, subst⁻¹, ◌∙◌}
use mathlib.Core.Logic.{⊎_elim}
use mathlib.Core.List.{List, [], ◌∷◌, map}
use Prim.Native.Nat.{ℕ, zero, suc, ◌≤◌, ◌<◌}
use native.Mathlib.Omega.{arith}
use native.Mathlib.Decide.{ℕ_discrete}
use lib.ListN.{length, get_or, set, length-set}
use lib.Seq.{get_or-set_same, get_or-set_other}
use Rattle.model.specs.Rules.{anew}
use Rattle.model.proofs.Tests.{last_or}

-- what holds of a row after one row was set
pub set_cases : {A : Type 0} (Q : A → Type 0) (l : List A) (i : ℕ) (v d : A) (j : ℕ) → i < length l → (j ≡ i → Q v) → ((j ≡ i → ⊥) → Q (get_or l j d)) → Q (get_or (set l i v) j d)
set_cases Q l i v d j h at off = go (ℕ_discrete j i)
  where
    go : Dec (j ≡ i) → Q (get_or (set l i v) j d)
    go (yes e) = subst⁻¹ (λ k. Q (get_or (set l i v) k d)) e (subst⁻¹ Q (get_or-set_same l i v d h) (at e))
    go (no n) = subst⁻¹ Q (get_or-set_other l i j v d n) (off n)

-- a row set before or after the map
pub map_set : {A B : Type 0} (f : A → B) (l : List A) (i : ℕ) (v : A) → map f (set l i v) ≡ set (map f l) i (f v)
map_set f [] i v = refl
map_set f (x ∷ l) zero v = refl
map_set f (x ∷ l) (suc i) v = ap (f x ∷◌) (map_set f l i v)

-- rows written anew: as many as before, the first n by the function, the others as they were
module _ {A : Type 0} (f : ℕ → A → A) (d : A) (l : List A) where
  pub anew_length : (n : ℕ) → length (anew n f d l) ≡ length l
  unfolding anew
  anew_length zero = refl
  anew_length (suc n) = length-set (anew n f d l) n (f n (get_or l n d)) ∙ anew_length n

  pub anew_past : (n j : ℕ) → n ≤ j → get_or (anew n f d l) j d ≡ get_or l j d
  unfolding anew
  anew_past zero j h = refl
  anew_past (suc n) j h = get_or-set_other (anew n f d l) n j (f n (get_or l n d)) d (λ e. omega arith) ∙ anew_past n j (omega arith)

  pub anew_at : (n j : ℕ) → j < n → j < length l → get_or (anew n f d l) j d ≡ f j (get_or l j d)
  unfolding anew
  anew_at zero j h m = absurd (omega arith)
  anew_at (suc n) j h m = ⊎_elim here (λ q. get_or-set_other (anew n f d l) n j (f n (get_or l n d)) d (λ e. omega arith) ∙ anew_at n j q m) (last_or j n h)
    where
      here : j ≡ n → get_or (set (anew n f d l) n (f n (get_or l n d))) j d ≡ f j (get_or l j d)
      here e = rw e (get_or-set_same (anew n f d l) n (f n (get_or l n d)) d (rw anew_length (rw e at m)))
