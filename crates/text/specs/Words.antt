-- A word of a small set: the set is a line whose fields are its words.
use Rattle.std.specs.Prelude.{ℕ, suc, List, [], ◌∷◌, Bool, true, false, get_or, bytes_eq, Option, Some, None}
use Rattle.text.specs.Parts.{pick, split_on}

-- the two are the same bytes
abbrev pub same_list : List ℕ → List ℕ → Bool
same_list p q = bytes_eq p q

-- the first of the words that p is, the first of them counted as k
abbrev pub index_from : ℕ → List ℕ → List (List ℕ) → Option ℕ
index_from k p [] = None
index_from k p (w ∷ ws) = pick (same_list p w) (Some k) (index_from (suc k) p ws)

-- which word of the set p is
unfoldable pub word_in : List ℕ → List ℕ → Option ℕ
word_in words p = index_from 0 p (split_on 9 words)

-- word i of the set; nothing past the last
unfoldable pub word_at : List ℕ → ℕ → List ℕ
word_at words i = get_or (split_on 9 words) i []

-- no two words of a set are alike
abbrev pub none : List ℕ → List (List ℕ) → Bool
none p [] = true
none p (w ∷ ws) = pick (same_list p w) false (none p ws)

abbrev pub distinct : List (List ℕ) → Bool
distinct [] = true
distinct (w ∷ ws) = pick (none w ws) (distinct ws) false
