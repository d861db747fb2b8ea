-- What the fields of tables and logs share: the most digits of a number, `ether` where a codel may stand, and the field behind a tab.
use Rattle.std.specs.Prelude.{ℕ, ◌+◌, ◌-◌, List, [], ◌∷◌, length, take, drop, leb, Option, Some, None}
use Rattle.text.specs.Parts.{pick, first_at}
use Rattle.text.specs.Number.{read_number}
use Rattle.text.specs.Words.{same_list}

-- "Numbers are decimal, one to ten digits"
abbrev pub most_digits : ℕ
most_digits = 10

-- "`ether` after every number"
abbrev pub ether_value : ℕ
ether_value = 10000000000

unfoldable pub ether_word : List ℕ
ether_word = 101 ∷ 116 ∷ 104 ∷ 101 ∷ 114 ∷ []

-- "codel or `ether`"
abbrev pub read_target : List ℕ → Option ℕ
read_target p = pick (same_list p ether_word) (Some ether_value) (read_number most_digits p)

-- what the field behind the tab at a place says, read by a form, and where it ends
abbrev pub got_at : Option ℕ → ℕ → Option (ℕ × ℕ)
got_at (Some v) e = Some (v, e)
got_at None e = None

unfoldable pub behind : (List ℕ → Option ℕ) → List ℕ → ℕ → Option (ℕ × ℕ)
behind form s at =
    pick (leb (length s) at) None
    (got_at (form (take (first_at s (at + 1) 9 - (at + 1)) (drop (at + 1) s))) (first_at s (at + 1) 9))
