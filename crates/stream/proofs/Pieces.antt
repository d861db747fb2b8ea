-- The pieces of a text with more behind it: what stands between its newlines stays, and only the last piece goes on.
use Prim.Native.Nat.{ℕ, zero-le}
use mathlib.Core.List.{List, [], ◌∷◌, ◌++◌}
use mathlib.Core.Path.{◌≡◌, refl, sym, ap, ◌∙◌}
use lib.Dec.{eqb}
use borrow.Author.Tests.{ne_eqb}
use Rattle.text.specs.Parts.{split_on, on_head}
use Rattle.text.proofs.Picks.{cases}
use Rattle.text.proofs.Parts.{parts_all, parts_cut}
use Rattle.stream.specs.Chunk.{last_part}

-- the pieces of a text with these behind them: the last piece goes on
abbrev pub on_last : List ℕ → List (List ℕ) → List (List ℕ)
on_last p [] = p ∷ []
on_last p (q ∷ qs) = (p ++ q) ∷ qs

abbrev pub followed : List (List ℕ) → List (List ℕ) → List (List ℕ)
followed [] qs = qs
followed (p ∷ []) qs = on_last p qs
followed (p ∷ q ∷ ps) qs = p ∷ followed (q ∷ ps) qs

pub followed_none : (ps : List (List ℕ)) → followed ps [] ≡ ps
followed_none [] = refl
followed_none (p ∷ []) = refl
followed_none (p ∷ q ∷ ps) = ap (λ l. p ∷ l) (followed_none (q ∷ ps))

-- a text has at least one piece
pub split_some : (a : List ℕ) → (p : List ℕ) × (ps : List (List ℕ)) × (split_on 10 a ≡ p ∷ ps)
split_some a = (_, _, sym (parts_all 10 a) ∙ parts_cut 10 a 0 zero-le)

-- a text behind another goes on with its last piece
pub split_append : (a b : List ℕ) → split_on 10 (a ++ b) ≡ followed (split_on 10 a) (split_on 10 b)
split_append [] b = let w = split_some b in rw w.2
split_append (x ∷ a) b =
    cases (eqb x 10)
    (λ e. rw (e, split_append a b) (let w = split_some a in rw w.2))
    (λ e. rw (e, split_append a b) (onward (split_on 10 a) (split_on 10 b)))
  where
    onward : (ps qs : List (List ℕ)) → on_head x (followed ps qs) ≡ followed (on_head x ps) qs
    onward [] [] = refl
    onward [] (q ∷ qs) = refl
    onward (p ∷ []) [] = refl
    onward (p ∷ []) (q ∷ qs) = refl
    onward (p ∷ r ∷ ps) qs = refl

-- the last piece of two texts: a first piece that is followed is not the last
last_behind : (p m : List ℕ) (ps qs : List (List ℕ)) → last_part (p ∷ followed (m ∷ ps) qs) ≡ last_part (followed (m ∷ ps) qs)
last_behind p m [] [] = refl
last_behind p m [] (q ∷ qs) = refl
last_behind p m (n ∷ ps) qs = refl

last_two : (ps : List (List ℕ)) (q r : List ℕ) → last_part (followed ps (q ∷ r ∷ [])) ≡ r
last_two [] q r = refl
last_two (p ∷ []) q r = refl
last_two (p ∷ m ∷ ps) q r = last_behind p m ps (q ∷ r ∷ []) ∙ last_two (m ∷ ps) q r

last_one : (ps : List (List ℕ)) (q : List ℕ) → last_part (followed ps (q ∷ [])) ≡ last_part ps ++ q
last_one [] q = refl
last_one (p ∷ []) q = refl
last_one (p ∷ m ∷ ps) q = last_behind p m ps (q ∷ []) ∙ last_one (m ∷ ps) q

-- behind a newline nothing stands; another byte stands behind what stood there
pub last_newline : (p : List ℕ) → last_part (split_on 10 (p ++ 10 ∷ [])) ≡ []
last_newline p = ap last_part (split_append p (10 ∷ [])) ∙ last_two (split_on 10 p) [] []

pub last_other : (p : List ℕ) (b : ℕ) → (b ≡ 10 → ⊥) → last_part (split_on 10 (p ++ b ∷ [])) ≡ last_part (split_on 10 p) ++ b ∷ []
last_other p b n = ap last_part (split_append p (b ∷ [])) ∙ rw (ne_eqb _ _ n) (last_one (split_on 10 p) (b ∷ []))
