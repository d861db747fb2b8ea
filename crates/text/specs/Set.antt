-- "A set is sixteen lower-case hex digits; bit i, counted from the low end, is activity i."
-- Stated over the number of digits. A set has room for 128 members: the first 64 are the bits of its low half, which the last sixteen
-- digits write, and the others are the bits of its high half.
use Rattle.std.specs.Prelude.{ℕ, zero, suc, ◌+◌, ◌-◌, ◌/◌, ◌%◌, ◌^◌, List, ◌++◌, Bool, true, false, length, take, drop, eqb, ltb, leb, Option, Some, None}
use Rattle.text.specs.Parts.{pick}
use Rattle.text.specs.Digits.{scan, pad}
use Rattle.text.specs.declared.Set.{Set}

-- how many members a set has room for, and how many members and digits each of its halves has
abbrev pub set_room : ℕ
set_room = 128

abbrev pub half_room : ℕ
half_room = 64

abbrev pub half_digits : ℕ
half_digits = 16

-- of k digits of a set, those of its high half, which come first, and those of its low half
abbrev pub high_digits : ℕ → ℕ
high_digits k = k - half_digits

abbrev pub low_digits : ℕ → ℕ
low_digits k = k - high_digits k

-- the set of two halves, where both have good form
abbrev pub halves : Option ℕ → Option ℕ → Option Set
halves (Some low) (Some high) = Some (record { low = low; high = high })
halves (Some low) None = None
halves None n = None

-- what a field says as a set of exactly k digits; none has more than the two halves
unfoldable pub read_set : ℕ → List ℕ → Option Set
read_set k s =
    pick (eqb (length s) k)
    (pick (ltb (half_digits + half_digits) k) None (halves (scan 16 0 (drop (high_digits k) s)) (scan 16 0 (take (high_digits k) s))))
    None

-- the text of a set over k digits
unfoldable pub set_text : ℕ → Set → List ℕ
set_text k n = pad 16 (high_digits k) n.high ++ pad 16 (low_digits k) n.low

-- the set without members
abbrev pub empty_set : Set
empty_set = record { low = 0; high = 0 }

-- bit i of a half, counted from the low end
unfoldable pub bit : ℕ → ℕ → Bool
bit n i = eqb (n / 2 ^ i % 2) 1

-- whether i is a member
unfoldable pub member : Set → ℕ → Bool
member n i = pick (ltb i half_room) (bit n.low i) (pick (ltb i set_room) (bit n.high (i - half_room)) false)

-- the test q holds of each number below k of which p holds
unfoldable pub each_of : ℕ → (ℕ → Bool) → (ℕ → Bool) → Bool
each_of zero p q = true
each_of (suc k) p q = pick (p k) (pick (q k) (each_of k p q) false) (each_of k p q)

-- of each member of a set
abbrev pub each_member : Set → (ℕ → Bool) → Bool
each_member n q = each_of set_room (member n) q

-- a number is at least one and below another
abbrev pub is_between : ℕ → ℕ → ℕ → Bool
is_between from to i = pick (leb from i) (ltb i to) false

-- each member of a set is; each bit of a half that is set
abbrev pub between : Set → ℕ → ℕ → Bool
between n from to = each_member n (is_between from to)

abbrev pub bits_between : ℕ → ℕ → ℕ → Bool
bits_between n from to = each_of half_room (bit n) (is_between from to)
