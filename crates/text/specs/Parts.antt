-- "One record a line, fields parted by one tab, each line ended by a newline."
-- A text cut at each byte c into parts, and put together again: c is the newline for lines and the tab for fields.
use Rattle.std.specs.Prelude.{ℕ, zero, suc, ◌+◌, List, [], ◌∷◌, ◌++◌, Bool, true, false, length, drop, eqb, ltb, Option, Some, None}

-- the first of two where the test holds, else the second
abbrev pub pick {ℓ} : {A : Type ℓ} → Bool → A → A → A
pick true a b = a
pick false a b = b

abbrev pub on_head : ℕ → List (List ℕ) → List (List ℕ)
on_head b [] = (b ∷ []) ∷ []
on_head b (l ∷ ls) = (b ∷ l) ∷ ls

-- the parts between the bytes c: one more than there are c, so the last is what follows the last c
abbrev pub split_on : ℕ → List ℕ → List (List ℕ)
split_on c [] = [] ∷ []
split_on c (b ∷ bs) = pick (eqb b c) ([] ∷ split_on c bs) (on_head b (split_on c bs))

-- the parts with c between each two
abbrev pub join_on : ℕ → List (List ℕ) → List ℕ
join_on c [] = []
join_on c (l ∷ []) = l
join_on c (l ∷ m ∷ ls) = l ++ c ∷ join_on c (m ∷ ls)

-- no c stands in it; in none of them
abbrev pub free : ℕ → List ℕ → Bool
free c [] = true
free c (b ∷ bs) = pick (eqb b c) false (free c bs)

abbrev pub all_free : ℕ → List (List ℕ) → Bool
all_free c [] = true
all_free c (l ∷ ls) = pick (free c l) (all_free c ls) false

-- how many bytes stand before the first c
abbrev pub before : ℕ → List ℕ → ℕ
before c [] = 0
before c (b ∷ bs) = pick (eqb b c) 0 (suc (before c bs))

-- the place of the first c at or after a place, or the end
abbrev pub first_at : List ℕ → ℕ → ℕ → ℕ
first_at s at c = at + before c (drop at s)

-- the parts from a place on; past the end there are none
abbrev pub parts_from : ℕ → List ℕ → ℕ → List (List ℕ)
parts_from c s at = pick (ltb (length s) at) [] (split_on c (drop at s))

-- where part i of these starts and ends, the first of them starting at a place
abbrev pub field_from : ℕ → List (List ℕ) → ℕ → Option (ℕ × ℕ)
field_from at [] i = None
field_from at (p ∷ ps) zero = Some (at, at + length p)
field_from at (p ∷ ps) (suc i) = field_from (at + length p + 1) ps i

-- where field i of a line starts and ends
unfoldable pub field_at : List ℕ → ℕ → Option (ℕ × ℕ)
field_at s i = field_from 0 (split_on 9 s) i
