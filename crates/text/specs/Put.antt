-- A text written into a lent buffer at a place: where it does not fit, no byte changes and the place stays.
use Rattle.std.specs.Prelude.{ℕ, ◌+◌, ◌≡◌, List, length, leb}
use Rattle.std.proofs.lemmas.List.Edits.{sets}
use Rattle.text.specs.Parts.{pick}

-- the place after it
abbrev pub placed : List ℕ → ℕ → List ℕ → ℕ
placed buf at text = pick (leb (at + length text) (length buf)) (at + length text) at

-- what the buffer then holds
abbrev pub laid : List ℕ → ℕ → List ℕ → List ℕ
laid buf at text = pick (leb (at + length text) (length buf)) (sets buf at text) buf

-- the promise of every writer here: the answer r, and the buffer afterwards
pub record Put (buf : List ℕ) (at : ℕ) (text : List ℕ) (r : ℕ) (after : List ℕ) : Type 0 where
  pub place : r ≡ placed buf at text
  pub bytes : after ≡ laid buf at text
