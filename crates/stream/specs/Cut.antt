-- The input cut into table and log: "the table up to and with the first line that begins `end` and a tab (if none lies within 32,768
-- bytes, the first 32,769 bytes or all there is), then the log".
use Rattle.std.specs.Prelude.{ℕ, ◌+◌, min, Bool, List, [], ◌∷◌, length, take, ltb}
use Rattle.text.specs.Parts.{pick, split_on}
use Rattle.text.specs.Words.{same_list}
use Rattle.model.specs.Tests.{◌or◌}
use Rattle.table.specs.Texts.{longest}

-- `end` and a tab
abbrev pub end_mark : List ℕ
end_mark = 101 ∷ 110 ∷ 100 ∷ 9 ∷ []

abbrev pub is_end : List ℕ → Bool
is_end p = same_list (take 4 p) end_mark

-- where the line that ends the table ends, the first of these lines starting at a place; behind the last newline stands no whole line
unfoldable pub end_in : ℕ → List (List ℕ) → ℕ → ℕ
end_in at [] most = most
end_in at (p ∷ []) most = most
end_in at (p ∷ q ∷ ps) most = pick (is_end p) (at + length p + 1) (end_in (at + length p + 1) (q ∷ ps) most)

-- how many bytes of the input are the table
unfoldable pub cut_of : List ℕ → ℕ
cut_of s = end_in 0 (split_on 10 (take longest s)) (min (length s) (longest + 1))

-- the bytes that came so far say where the table ends, whatever follows: the input has ended, or they are more than a table has, or the line
-- that ends it is there with its newline
unfoldable pub cut_known : Bool → List ℕ → Bool
cut_known ended s = ended or (ltb longest (length s) or ltb 0 (end_in 0 (split_on 10 s) 0))
