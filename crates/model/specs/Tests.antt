-- Words for tests: what holds of each or of some row, and the refusal that a failed test gives.
use Rattle.std.specs.Prelude.{Bool, true, false, not, ℕ, zero, suc, ◌+◌, eqb}

infixr 35 ◌and◌
infixr 30 ◌or◌
infixr 25 ◌implies◌
abbrev pub ◌and◌ : Bool → Bool → Bool
true and b = b
false and b = false

abbrev pub ◌or◌ : Bool → Bool → Bool
true or b = true
false or b = b

abbrev pub ◌implies◌ : Bool → Bool → Bool
true implies b = b
false implies b = true

abbrev pub same_bool : Bool → Bool → Bool
same_bool true b = b
same_bool false b = not b

-- 1 for yes, 0 for no
abbrev pub one : Bool → ℕ
one true = 1
one false = 0

-- the test holds at each number below n; at some number below n
unfoldable pub each : ℕ → (ℕ → Bool) → Bool
each zero p = true
each (suc n) p = each n p and p n

unfoldable pub some : ℕ → (ℕ → Bool) → Bool
some zero p = false
some (suc n) p = some n p or p n

-- the sum of f at each number below n
unfoldable pub sum : ℕ → (ℕ → ℕ) → ℕ
sum zero f = 0
sum (suc n) f = sum n f + f n

-- the test holds of the row before row n, if there is one
abbrev pub after : ℕ → (ℕ → Bool) → Bool
after zero p = true
after (suc n) p = p n

-- the refusal n unless the test holds, else what comes next; 0 is no refusal
abbrev pub need : Bool → ℕ → ℕ → ℕ
need true n r = r
need false n r = n

abbrev pub accepted : ℕ → Bool
accepted n = eqb n 0
