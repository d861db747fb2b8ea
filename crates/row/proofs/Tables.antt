-- The page's table of rows: a test computed over all kinds holds of whichever is looked up, and the code lists the same kinds.
use Prim.Native.Nat.{ℕ, zero, suc, ◌≤◌, ◌<◌}
use mathlib.Core.Path.{◌≡◌, refl, sym, ap, ◌∙◌}
use mathlib.Core.List.{List, [], ◌∷◌}
use mathlib.Core.Bool.{Bool, true, false}
use native.Mathlib.Omega.{arith}
use native.Mathlib.Numerals.{add-one}
use lib.ListN.{length, get_or}
use lib.Dec.{leb, ltb, eqb}
use borrow.Author.Tests.{le-leb, leb-true, ltb-true, ne_eqb}
use Rattle.text.specs.Parts.{pick, split_on, free}
use Rattle.text.specs.Words.{same_list, word_at, index_from}
use Rattle.text.proofs.Picks.{cases, picked, false_true}
use Rattle.row.specs.declared.Kind.{Kind}
use denote.Ref.{Bor}
use Rattle.std.specs.Prelude.{map, nat_eq, slice_get, Option, Some, None, MatchOption, HoldsAt, option_copied}
use Rattle.std.proofs.lemmas.Option.{slice_get_past, slice_get-get_or}
use Rattle.std.specs.List.{position_from}
use Rattle.std.specs.Cmp.Lexicographic.{pointwise}
use Rattle.row.specs.Kinds.{RowKind, none, kinds, said, most_fields, kind_at, word_of, most_of, words_in}

-- the test holds of every entry
abbrev pub every : {A : Type 0} → (A → Bool) → List A → Bool
every test [] = true
every test (x ∷ xs) = pick (test x) (every test xs) false

-- where it holds of what is answered past the end too, it holds of entry k
entry : {A : Type 0} (test : A → Bool) (xs : List A) (d : A) (k : ℕ) → test d ≡ true → every test xs ≡ true → test (get_or xs k d) ≡ true
entry test [] d k past h = past
entry test (x ∷ xs) d zero past h = (picked (test x) false_true h).0
entry test (x ∷ xs) d (suc k) past h = entry test xs d k past (picked (test x) false_true h).1

-- a test that holds of every kind
of_kind : (test : RowKind → Bool) (k : ℕ) → every test kinds ≡ true → test none ≡ true → test (kind_at k) ≡ true
of_kind test k h past = entry test kinds none k past h

-- how many rows of a kind there may be is a number of 32 bits
pub most_within : (k : ℕ) → most_of k < 4294967296
unfolding most_of
most_within k = ltb-true _ _ (of_kind (λ x. ltb x.most 4294967296) k refl refl)

-- no kind has more fields than are stored of a row
pub fields_within : (k : ℕ) → length (kind_at k).fields ≤ most_fields
fields_within k = leb-true _ _ (of_kind (λ x. leb (length x.fields) most_fields) k refl refl)

-- no word has more letters than 5
pub word_width : (k : ℕ) → length (word_of k) ≤ 5
unfolding word_of
word_width k = leb-true _ _ (of_kind (λ x. leb (length x.word) 5) k refl refl)

-- nor a byte below 48
pub word_high : (k : ℕ) → every (leb 48) (word_of k) ≡ true
unfolding word_of
word_high k = of_kind (λ x. every (leb 48) x.word) k refl refl

-- the word of a kind among the words
pub words_at : (xs : List RowKind) (k : ℕ) → get_or (words_in xs) k [] ≡ (get_or xs k none).word
words_at [] k = refl
words_at (x ∷ xs) zero = refl
words_at (x ∷ xs) (suc k) = words_at xs k

-- no byte below 48 stands in a word whose bytes are all 48 or more
pub free_high : (c : ℕ) (w : List ℕ) → c < 48 → every (leb 48) w ≡ true → free c w ≡ true
free_high c [] l h = refl
free_high c (b ∷ bs) l h =
    let t = picked (leb 48 b) false_true h in
    let k = leb-true 48 b t.0 in
    let n : b ≡ c → ⊥ = λ e. omega arith in
    rw (ne_eqb _ _ n) (free_high c bs l t.1)

-- nor in a word of a set whose words are such
pub word_free : (c : ℕ) (words : List ℕ) (i : ℕ) → c < 48 → every (every (leb 48)) (split_on 9 words) ≡ true → free c (word_at words i) ≡ true
unfolding word_at
word_free c words i l h = free_high c (word_at words i) l (entry (every (leb 48)) (split_on 9 words) [] i refl h)

-- a word of a set whose words have at most m letters has no more
pub word_within : (m : ℕ) (words : List ℕ) (i : ℕ) → every (λ w. leb (length w) m) (split_on 9 words) ≡ true → length (word_at words i) ≤ m
unfolding word_at
word_within m words i h = leb-true _ _ (entry (λ w. leb (length w) m) (split_on 9 words) [] i (le-leb 0 m (omega arith)) h)

-- which of the code's entries has the word: the same place as among the words
abbrev pub spells : List ℕ → Kind → Bool
spells p x = pointwise nat_eq p x.word.now

same_spelled : (a b : List ℕ) → pointwise nat_eq a b ≡ same_list a b
same_spelled [] [] = refl
same_spelled [] (y ∷ ys) = refl
same_spelled (x ∷ xs) [] = refl
same_spelled (x ∷ xs) (y ∷ ys) = rw (same_spelled xs ys) (cases (eqb x y) (λ e. rw e) (λ e. rw e))

pub place_among : (p : List ℕ) (k : ℕ) (xs : List Kind) → position_from (spells p) k xs ≡ index_from k p (words_in (map said xs))
place_among p k [] = refl
place_among p k (x ∷ xs) = rw (same_spelled p x.word.now, add-one, place_among p (suc k) xs) (cases (same_list p x.word.now) (λ e. rw e) (λ e. rw e))

-- what `get` gives of a list, behind its reference
pub got_is : {A : Type 0} (r : Option (Bor A)) (xs : List A) (j : ℕ) → MatchOption r (length xs ≤ j) (λ x. (j < length xs) × HoldsAt (λ y. x.now ≡ y) xs j) → option_copied r ≡ slice_get xs j
got_is None xs j h = sym (slice_get_past xs j h)
got_is (Some x) xs j h = ap Some (h.1 x.now) ∙ sym (slice_get-get_or xs j x.now h.0)
