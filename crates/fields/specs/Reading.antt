-- A field read in place: what stands behind the tab at a place. Its value and where it ends, or nothing, which is said by the end of all.
use Rattle.std.specs.Prelude.{ℕ, ◌+◌, ◌-◌, ◌*◌, ◌≤◌, ◌<◌, Bool, false, ◌≡◌, List, [], ◌∷◌, ltb, leb, eqb, length, get_or, take, drop, Option, Some, None}
use Rattle.text.specs.declared.Set.{Set}
use Rattle.text.specs.Parts.{pick}
use Rattle.text.specs.Set.{read_set}
use Rattle.text.specs.Standing.{is_at, past}
use Rattle.logs.specs.Lines.{set_digits}
use Rattle.fields.specs.Forms.{no_number}
use Rattle.fields.specs.declared.Stood.{Stood}

abbrev pub stood : ℕ → ℕ → Stood
stood v e = record { value = v; end = e }

abbrev pub nothing : List ℕ → Stood
nothing s = stood 0 (length s)

-- a digit
abbrev pub is_digit : ℕ → Bool
is_digit b = pick (ltb b 48) false (ltb b 58)

-- the digits from a place on behind those of a value, as many as stand there and make a number
unfoldable pub spelled : ℕ → ℕ → List ℕ → Stood
spelled v i [] = stood v i
spelled v i (b ∷ bs) =
    pick (is_digit b)
    (pick (ltb (v * 10 + (b - 48)) no_number) (spelled (v * 10 + (b - 48)) (i + 1) bs) (stood v i))
    (stood v i)

-- a number: 0, or digits that begin with another
unfoldable pub number_at : List ℕ → ℕ → Stood
number_at s at =
    pick (is_at s at 9)
    (pick (ltb (at + 1) (length s))
    (pick (is_digit (get_or s (at + 1) 0))
    (pick (eqb (get_or s (at + 1) 0) 48) (stood 0 (at + 2)) (spelled (get_or s (at + 1) 0 - 48) (at + 2) (drop (at + 2) s)))
    (nothing s))
    (nothing s))
    (nothing s)

-- 0 or 1
unfoldable pub yes_at : List ℕ → ℕ → Stood
yes_at s at =
    pick (is_at s at 9)
    (pick (is_at s (at + 1) 48) (stood 0 (at + 2)) (pick (is_at s (at + 1) 49) (stood 1 (at + 2)) (nothing s)))
    (nothing s)

-- a word, which is given with its tab, or a number
unfoldable pub word_at : List ℕ → List ℕ → ℕ → Stood
word_at word s at = pick (ltb (past s at word) (length s)) (stood no_number (past s at word)) (number_at s at)

-- a set: as many digits as one has
abbrev pub set_by : List ℕ → ℕ → Option Set → Stood
set_by s e (Some n) = stood n.low e
set_by s e None = nothing s

unfoldable pub set_at : List ℕ → ℕ → Stood
set_at s at =
    pick (leb (at + 1 + set_digits) (length s))
    (pick (is_at s at 9) (set_by s (at + 1 + set_digits) (read_set set_digits (take set_digits (drop (at + 1) s)))) (nothing s))
    (nothing s)

-- a text that was read at a place up to an end: where that stands inside, the text stands there
pub record Reads (s : List ℕ) (at : ℕ) (t : List ℕ) (end : ℕ) : Type 0 where
  pub inside : end ≤ length s
  pub stands : end < length s → past s at t ≡ end
