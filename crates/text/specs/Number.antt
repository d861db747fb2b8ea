-- "Numbers are decimal, one to ten digits, no leading zero (0 itself is one digit)."
-- Stated over the most digits, which are ten in tables and logs.
use Rattle.std.specs.Prelude.{ℕ, zero, suc, ◌^◌, List, length, get_or, ltb, eqb, Option, None}
use Rattle.text.specs.Parts.{pick}
use Rattle.text.specs.Digits.{scan, pad}

-- no number of more digits is read, whatever the most asked for, so that each fits 64 bits
abbrev pub widest : ℕ
widest = 19

-- what a field says as a number of at most so many digits
unfoldable pub read_number : ℕ → List ℕ → Option ℕ
read_number most s =
    pick (eqb (length s) 0) None
    (pick (ltb most (length s)) None
    (pick (ltb widest (length s)) None
    (pick (eqb (length s) 1) (scan 10 0 s)
    (pick (eqb (get_or s 0 0) 48) None (scan 10 0 s)))))

-- the least w from the given one on with n below 10 ^ w, looking at most so many times
abbrev pub width_from : ℕ → ℕ → ℕ → ℕ
width_from zero w n = w
width_from (suc f) w n = pick (ltb n (10 ^ w)) w (width_from f (suc w) n)

-- how many digits n has: 1 to 20
unfoldable pub width_of : ℕ → ℕ
width_of n = width_from widest 1 n

-- the text of a number
unfoldable pub digits : ℕ → List ℕ
digits n = pad 10 (width_of n) n
