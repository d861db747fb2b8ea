-- A text that is looked for at a place: the place behind it where it stands there, and the end where it does not.
use Rattle.std.specs.Prelude.{ℕ, ◌+◌, Bool, false, List, [], ◌∷◌, length, get_or, ltb, eqb}
use Rattle.text.specs.Parts.{pick}

-- whether the byte b stands at a place
abbrev pub is_at : List ℕ → ℕ → ℕ → Bool
is_at s at b = pick (ltb at (length s)) (eqb (get_or s at 0) b) false

unfoldable pub past : List ℕ → ℕ → List ℕ → ℕ
past s at [] = at
past s at (b ∷ t) = pick (is_at s at b) (past s (at + 1) t) (length s)
