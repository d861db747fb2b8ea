-- Going by cases of a test, and what a choice that gave a certain answer shows of its test.
use Prim.Native.Nat.{ℕ, ◌≤◌, ◌<◌}
use mathlib.Core.Path.{◌≡◌, refl}
use mathlib.Core.Bool.{Bool, true, false}
use native.Mathlib.Omega.{arith}
use lib.Dec.{ltb}
use borrow.Author.Tests.{ltb-true, ltb-false}
use Rattle.text.specs.Parts.{pick}

-- a test holds or does not
pub cases : {P : Type 0} (b : Bool) → (b ≡ true → P) → (b ≡ false → P) → P
cases true f g = f refl
cases false f g = g refl

-- one number is below another or not
pub order : {P : Type 0} (a b : ℕ) → (a < b → P) → (b ≤ a → P) → P
order a b f g = cases (ltb a b) (λ e. f (ltb-true a b e)) (λ e. g (ltb-false a b e))

-- where the second of two is not the answer, the test held and the first is
pub picked : {A : Type 0} (b : Bool) {x y z : A} → (y ≡ z → ⊥) → pick b x y ≡ z → (b ≡ true) × (x ≡ z)
picked true ne e = (refl, e)
picked false ne e = absurd (ne e)

-- where the first of two is not the answer, the test failed and the second is
pub passed : {A : Type 0} (b : Bool) {x y z : A} → (x ≡ z → ⊥) → pick b x y ≡ z → (b ≡ false) × (y ≡ z)
passed true ne e = absurd (ne e)
passed false ne e = (refl, e)

-- false is not true
pub false_true : false ≡ true → ⊥
false_true e = let z : ◌≡◌ {A = ℕ} 0 1 = cc in omega arith
