-- How much of a log's bytes at hand is taken at a time: whole lines.
use Rattle.std.specs.Prelude.{ℕ, ◌-◌, Bool, List, [], ◌∷◌, length, ltb}
use Rattle.text.specs.Parts.{pick, split_on}
use Rattle.logs.specs.Lines.{longest_row}

-- the last of the parts of a text: what stands behind its last newline
abbrev pub last_part : List (List ℕ) → List ℕ
last_part [] = []
last_part (p ∷ []) = p
last_part (p ∷ q ∷ ps) = last_part (q ∷ ps)

-- how many bytes there are up to and with the last newline
unfoldable pub lines_end : List ℕ → ℕ
lines_end s = length s - length (last_part (split_on 10 s))

-- how many bytes of a part of a log are whole lines; what follows is left for later, unless it is too long to be a line
unfoldable pub whole_lines : List ℕ → ℕ
whole_lines s = pick (ltb (length s - lines_end s) longest_row) (lines_end s) (length s)

-- how many bytes of those at hand are taken now: all of them where the input has ended
abbrev pub chunk_end : Bool → List ℕ → ℕ
chunk_end ended s = pick ended (length s) (whole_lines s)
