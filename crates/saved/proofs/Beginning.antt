-- A text compared with the first bytes of another, element by element.
use Rattle.std.proofs.Common.{◌≡◌, ℕ, List, [], ◌∷◌, refl, sym, ◌∙◌}
use Rattle.std.specs.Cmp.Lexicographic.{pointwise}
use lib.Dec.{eqb}
use borrow.Author.Tests.{eqb-true, eq-eqb, eqb-false, ne_eqb}
use Rattle.text.proofs.Picks.{cases}
use Rattle.text.specs.Words.{same_list}

-- two numbers are alike either way round
eqb_turned : (x y : ℕ) → eqb y x ≡ eqb x y
eqb_turned x y = cases (eqb x y) (λ e. let h : y ≡ x = sym (eqb-true x y e) in eq-eqb y x h ∙ sym e) (λ e. ne_eqb y x (λ h. eqb-false x y e (sym h)) ∙ sym e)

-- two texts, and the second compared with the first
pub same_texts : (a b : List ℕ) → pointwise eqb a b ≡ same_list a b
same_texts [] [] = refl
same_texts [] (y ∷ ys) = refl
same_texts (x ∷ xs) [] = refl
same_texts (x ∷ xs) (y ∷ ys) = cases (eqb x y) (λ e. rw e (same_texts xs ys)) (λ e. rw e)

pub same_turned : (a b : List ℕ) → pointwise eqb b a ≡ same_list a b
same_turned [] [] = refl
same_turned [] (y ∷ ys) = refl
same_turned (x ∷ xs) [] = refl
same_turned (x ∷ xs) (y ∷ ys) = cases (eqb x y) (λ e. rw (eqb_turned x y, e) (same_turned xs ys)) (λ e. rw (eqb_turned x y, e))
