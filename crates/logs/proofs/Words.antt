-- The words of the steps: nine, no two alike, each told by its letters.
use Prim.Native.Nat.{ℕ, suc, ◌<◌}
use mathlib.Core.Path.{◌≡◌, refl, sym}
use mathlib.Core.List.{List, [], ◌∷◌, ◌++◌}
use mathlib.Core.Bool.{Bool, true, false}
use native.Mathlib.Omega.{arith}
use lib.ListN.{length, get_or, take}
use lib.Dec.{eqb}
use borrow.Author.Tests.{eqb-true, ne_eqb}
use Rattle.std.specs.Prelude.{Option, Some, None, ◌&&◌}
use Rattle.text.specs.Parts.{pick, split_on, join_on}
use Rattle.text.specs.Words.{same_list, index_from, word_in, word_at, none, distinct}
use Rattle.text.proofs.Picks.{cases, passed, false_true}
use Rattle.text.proofs.Parts.{join_split}
use Rattle.text.proofs.Alike.{same_short}
use Rattle.text.proofs.Words.{same_list_lem, word_written}
use Rattle.model.specs.declared.Step.{Step}
use Rattle.model.specs.declared.Step.TheVariants.{Wait}
use Rattle.logs.specs.Lines.{step_words, a_number, given, only, on_word, step_in}

-- the word of four letters, and all in their order
abbrev pub wait : List ℕ
wait = 119 ∷ 97 ∷ 105 ∷ 116 ∷ []

abbrev pub nine : List (List ℕ)
nine =
    wait ∷ (115 ∷ 116 ∷ []) ∷ (115 ∷ 109 ∷ []) ∷ (108 ∷ 109 ∷ []) ∷ (105 ∷ 97 ∷ []) ∷ (101 ∷ 97 ∷ []) ∷ (99 ∷ 120 ∷ []) ∷ (102 ∷ 97 ∷ []) ∷ (102 ∷ 109 ∷ []) ∷ []

-- they are nine
pub nine_words : split_on 9 step_words ≡ nine
unfolding step_words
nine_words = refl

-- no two are alike
pub words_distinct : distinct (split_on 9 step_words) ≡ true
words_distinct = rw nine_words

-- so each is read as its place among them
pub word_place : (i : ℕ) → i < 9 → word_in step_words (get_or nine i []) ≡ Some i
unfolding word_at
word_place i h = rw nine_words at (word_written step_words i words_distinct (rw nine_words h))

unlike : (p : List ℕ) → none p nine ≡ true → None ≡ word_in step_words p
unfolding word_in
unlike p h = rw nine_words (sym (from nine 0 h))
  where
    from : (ws : List (List ℕ)) (k : ℕ) → none p ws ≡ true → index_from k p ws ≡ None
    from [] k h = refl
    from (w ∷ ws) k h = let t = passed (same_list p w) false_true h in rw t.0 (from ws (suc k) t.1)

-- two letters whose first begins no word of two
pub letterless : (x y : ℕ) → (x ≡ 115 → ⊥) → (x ≡ 108 → ⊥) → (x ≡ 105 → ⊥) → (x ≡ 101 → ⊥) → (x ≡ 99 → ⊥) → (x ≡ 102 → ⊥) → None ≡ word_in step_words (x ∷ y ∷ [])
letterless x y a b c d e f =
    let g : same_list (x ∷ y ∷ []) wait ≡ false = sym (same_short (x ∷ y ∷ []) wait (λ l. omega arith)) in
    unlike (x ∷ y ∷ []) (rw (g, ne_eqb _ _ a, ne_eqb _ _ b, ne_eqb _ _ c, ne_eqb _ _ d, ne_eqb _ _ e, ne_eqb _ _ f))

-- a text's first two letters are these
pub letters : (r : Option ℕ) (words w : List ℕ) → r ≡ word_in words (get_or w 0 0 ∷ get_or w 1 0 ∷ []) → 2 < length w → r ≡ word_in words (take 2 w)
letters r words [] e h = absurd (omega arith)
letters r words (x ∷ []) e h = absurd (omega arith)
letters r words (x ∷ y ∷ w) e h = e

-- a word that is not `wait` has two letters
wordless : (w : List ℕ) → same_list w wait ≡ false → (length w ≡ 2 → ⊥) → word_in step_words w ≡ None
wordless w u h =
    let no : (x y : ℕ) → same_list w (x ∷ y ∷ []) ≡ false = λ x y. sym (same_short w (x ∷ y ∷ []) h) in
    sym (unlike w (simp (u, no)))

-- and the second of them is no tab
tabbed : (x : ℕ) → word_in step_words (x ∷ 9 ∷ []) ≡ None
tabbed x =
    let no : (b : Bool) → (b && false) ≡ false = λ b. cases b (λ e. rw e) (λ e. rw e) in
    sym (unlike (x ∷ 9 ∷ []) (simp no))

-- a word with no field behind it is no step
bare : (d : ℕ) (w : Option ℕ) → None ≡ on_word d w []
bare d None = refl
bare d (Some k) =
    on (eqb k 2) refl (on (eqb k 3) refl (on (eqb k 5) refl (on (eqb k 7) refl refl)))
  where
    on : (b : Bool) {x y : Option Step} → None ≡ x → None ≡ y → None ≡ pick b x y
    on true e f = e
    on false e f = f

-- a line that begins neither with `wait` and a tab nor with two letters and a tab is no step
pub begins : (d : ℕ) (s : List ℕ) → ((q : List ℕ) → s ≡ wait ++ 9 ∷ q → ⊥) → ((x y : ℕ) (q : List ℕ) → s ≡ x ∷ y ∷ 9 ∷ q → ⊥) → None ≡ step_in d (split_on 9 s)
begins d s f g = from (split_on 9 s) (sym (join_split 9 s))
  where
    behind : (w q : List ℕ) (ps : List (List ℕ)) → s ≡ w ++ 9 ∷ q → same_list w wait ≡ false → None ≡ on_word d (word_in step_words w) ps
    behind [] q ps e t = rw (wordless [] t (λ l. omega arith))
    behind (x ∷ []) q ps e t = rw (wordless (x ∷ []) t (λ l. omega arith))
    behind (x ∷ y ∷ []) q ps e t = absurd (g x y q e)
    behind (x ∷ y ∷ z ∷ w) q ps e t = rw (wordless (x ∷ y ∷ z ∷ w) t (λ l. omega arith))

    from : (ps : List (List ℕ)) → s ≡ join_on 9 ps → None ≡ step_in d ps
    from [] e = refl
    from (w ∷ []) e = bare d (word_in step_words w)
    from (w ∷ m ∷ ls) e =
        cases (same_list w wait)
        (λ t. absurd (f (join_on 9 (m ∷ ls)) (rw (same_list_lem w wait t) at e)))
        (behind w (join_on 9 (m ∷ ls)) (m ∷ ls) e)

-- one that does begin with two letters and a tab
pub short : (d x y : ℕ) (t : List ℕ) → step_in d (split_on 9 (x ∷ y ∷ 9 ∷ t)) ≡ on_word d (word_in step_words (x ∷ y ∷ [])) (split_on 9 t)
short d x y t =
    cases (eqb x 9)
    (λ e.
    let no = letterless 9 y (λ l. omega arith) (λ l. omega arith) (λ l. omega arith) (λ l. omega arith) (λ l. omega arith) (λ l. omega arith) in
    rw (eqb-true x 9 e, wordless [] refl (λ l. omega arith), ← no))
    (λ e.
    cases (eqb y 9)
    (λ f.
    let z : same_list (x ∷ []) wait ≡ false = sym (same_short (x ∷ []) wait (λ l. omega arith)) in
    rw (e, eqb-true y 9 f, wordless (x ∷ []) z (λ l. omega arith), tabbed x))
    (λ f. rw (e, f)))

-- and one that begins with `wait` and a tab
pub waiting : (d : ℕ) (t : List ℕ) → step_in d (split_on 9 (wait ++ 9 ∷ t)) ≡ given (only a_number (split_on 9 t)) (λ a. Some (Wait a))
waiting d t = rw (word_place 0 (omega arith))
