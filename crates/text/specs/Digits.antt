-- Digits of a base up to sixteen, lower case, the highest first: what numbers and sets share.
use Rattle.std.specs.Prelude.{ℕ, zero, suc, ◌+◌, ◌-◌, ◌*◌, ◌/◌, ◌%◌, List, [], ◌∷◌, ◌++◌, ltb, Option, Some, None}
use Rattle.text.specs.Parts.{pick}

-- the byte of a digit: 0 to 9, then a to f
abbrev pub glyph_of : ℕ → ℕ
glyph_of d = pick (ltb d 10) (48 + d) (87 + d)

-- the digit of a byte; 16, which is a digit in no base here, for any other byte
unfoldable pub value_of : ℕ → ℕ
value_of b =
    pick (ltb b 48) 16
    (pick (ltb b 58) (b - 48)
    (pick (ltb b 97) 16
    (pick (ltb b 103) (b - 87) 16)))

-- the value of a run of digits after v; None where a byte is no digit of the base
abbrev pub scan : ℕ → ℕ → List ℕ → Option ℕ
scan base v [] = Some v
scan base v (b ∷ bs) = pick (ltb (value_of b) base) (scan base (v * base + value_of b) bs) None

-- the k low digits of n
abbrev pub pad : ℕ → ℕ → ℕ → List ℕ
pad base zero n = []
pad base (suc k) n = pad base k (n / base) ++ glyph_of (n % base) ∷ []
