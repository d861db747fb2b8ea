-- Cutting a text at each byte c and putting it together again; and where its parts stand.
use Prim.Native.Nat.{ℕ, zero, suc, ◌+◌, ◌-◌, ◌≤◌, ◌<◌}
use mathlib.Core.Path.{◌≡◌, refl, sym}
use mathlib.Core.List.{List, [], ◌∷◌, ◌++◌}
use mathlib.Core.Bool.{true, false}
use native.Mathlib.Omega.{arith}
use lib.ListN.{length, get_or, drop, take, length-drop}
use lib.Seq.{drop-drop, length-take-le}
use lib.Dec.{eqb, leb-suc-suc}
use borrow.Author.Tests.{eq-eqb, eqb-true, le-ltb, lt-ltb}
use Rattle.std.specs.Prelude.{Some, None}
use Rattle.std.proofs.lemmas.Option.{none-some, some_pair_parts}
use Rattle.text.specs.Parts.{before, first_at, split_on, on_head, join_on, free, all_free, parts_from, field_from, field_at}
use Rattle.text.proofs.Picks.{cases, order, picked, passed, false_true}

join_head : (c b : ℕ) (ls : List (List ℕ)) → join_on c (on_head b ls) ≡ b ∷ join_on c ls
join_head c b [] = refl
join_head c b (l ∷ []) = refl
join_head c b (l ∷ m ∷ ls) = refl

join_nil : (c : ℕ) (s : List ℕ) → join_on c ([] ∷ split_on c s) ≡ c ∷ join_on c (split_on c s)
join_nil c [] = refl
join_nil c (b ∷ bs) = cases (eqb b c) (λ e. rw e) (λ e. rw e (more (split_on c bs)))
  where
    more : (ls : List (List ℕ)) → join_on c ([] ∷ on_head b ls) ≡ c ∷ join_on c (on_head b ls)
    more [] = refl
    more (l ∷ ls) = refl

-- the parts, put together again, are the text
pub join_split : (c : ℕ) (s : List ℕ) → join_on c (split_on c s) ≡ s
join_split c [] = refl
join_split c (b ∷ bs) =
    cases (eqb b c)
    (λ e. rw (e, join_nil c bs, join_split c bs, eqb-true b c e))
    (λ e. rw (e, join_head c b (split_on c bs), join_split c bs))

split_last : (c : ℕ) (p : List ℕ) → free c p ≡ true → split_on c p ≡ p ∷ []
split_last c [] h = refl
split_last c (b ∷ bs) h =
    let t = passed (eqb b c) false_true h in
    rw (t.0, split_last c bs t.1)

-- a part with no c in it, then c, then the rest
pub split_cut : (c : ℕ) (p q : List ℕ) → free c p ≡ true → split_on c (p ++ c ∷ q) ≡ p ∷ split_on c q
split_cut c [] q h = rw (eq-eqb c c refl)
split_cut c (b ∷ bs) q h =
    let t = passed (eqb b c) false_true h in
    rw (t.0, split_cut c bs q t.1)

-- a text put together from parts with no c in them is cut into these parts
pub split_join : (c : ℕ) (l : List ℕ) (ls : List (List ℕ)) → all_free c (l ∷ ls) ≡ true → split_on c (join_on c (l ∷ ls)) ≡ l ∷ ls
split_join c l [] h = split_last c l (picked (free c l) false_true h).0
split_join c l (m ∷ ls) h =
    let t = picked (free c l) false_true h in
    rw (split_cut c l (join_on c (m ∷ ls)) t.0, split_join c m ls t.1)

-- no part has c in it
pub split_free : (c : ℕ) (s : List ℕ) → all_free c (split_on c s) ≡ true
split_free c [] = refl
split_free c (b ∷ bs) = cases (eqb b c) (λ e. rw (e, split_free c bs)) (λ e. rw e (more (split_on c bs) e (split_free c bs)))
  where
    more : (ls : List (List ℕ)) → eqb b c ≡ false → all_free c ls ≡ true → all_free c (on_head b ls) ≡ true
    more [] e h = rw e
    more (l ∷ ls) e h = let t = picked (free c l) false_true h in rw (e, t.0, t.1)

before_le : (c : ℕ) (s : List ℕ) → before c s ≤ length s
before_le c [] = omega arith
before_le c (b ∷ bs) = let h = before_le c bs in cases (eqb b c) (λ e. rw e (omega arith)) (λ e. rw e (omega arith))

-- the place of the first c is between the place looked from and the end
pub first_at_le : (c : ℕ) (s : List ℕ) (a : ℕ) → a ≤ length s → (a ≤ first_at s a c) × (first_at s a c ≤ length s)
first_at_le c s a h = let b = before_le c (drop a s) in let l = length-drop a s in (omega arith, omega arith)

-- a text is cut first at its first c
split_first : (c : ℕ) (s : List ℕ) → split_on c s ≡ take (before c s) s ∷ parts_from c s (suc (before c s))
split_first c [] = refl
split_first c (b ∷ bs) =
    cases (eqb b c)
    (λ e. let h : 1 ≤ suc (length bs) = omega arith in rw (e, le-ltb _ _ h))
    (λ e. rw (e, split_first c bs, leb-suc-suc (suc (length bs)) (suc (before c bs))))

parts_drop : (c : ℕ) (s : List ℕ) (a m : ℕ) → a ≤ length s → parts_from c (drop a s) (suc m) ≡ parts_from c s (a + m + 1)
parts_drop c s a m h =
    let e : a + suc m ≡ a + m + 1 = omega arith in
    let l = length-drop a s in
    order (length s) (a + m + 1)
    (λ k. let j : length (drop a s) < suc m = omega arith in rw (lt-ltb _ _ k, lt-ltb _ _ j))
    (λ k. let j : suc m ≤ length (drop a s) = omega arith in rw (le-ltb _ _ k, le-ltb _ _ j, drop-drop (suc m) a s, e))

-- the first part from a place on ends at the first c from there; past it follow the others
pub parts_cut : (c : ℕ) (s : List ℕ) (a : ℕ) → a ≤ length s
    → parts_from c s a ≡ take (first_at s a c - a) (drop a s) ∷ parts_from c s (first_at s a c + 1)
parts_cut c s a h =
    let q : a + before c (drop a s) - a ≡ before c (drop a s) = omega arith in
    rw (le-ltb _ _ h, split_first c (drop a s), q, parts_drop c s a (before c (drop a s)) h)

-- past the end there are no parts
pub parts_none : (c : ℕ) (s : List ℕ) (a : ℕ) → length s < a → parts_from c s a ≡ []
parts_none c s a h = rw (lt-ltb _ _ h)

-- the whole text's parts
pub parts_all : (c : ℕ) (s : List ℕ) → parts_from c s 0 ≡ split_on c s
parts_all c s = let h : 0 ≤ length s = omega arith in rw (le-ltb _ _ h)

-- where a part stands: it starts at a, ends at e, and its bytes are p
pub record Stands (s : List ℕ) (a e : ℕ) (p : List ℕ) : Type 0 where
  pub starts : a ≤ e
  pub ends : e ≤ length s
  pub bytes : take (e - a) (drop a s) ≡ p

-- what a place and the first c from there cut out
pub cut_length : (c : ℕ) (s : List ℕ) (a : ℕ) → a ≤ length s → a + length (take (first_at s a c - a) (drop a s)) ≡ first_at s a c
cut_length c s a h =
    let b = first_at_le c s a h in
    let l = length-drop a s in
    omega (arith, length-take-le (first_at s a c - a) (drop a s) (omega arith))

reached : (c : ℕ) (s : List ℕ) (i at a e : ℕ) → field_from at (parts_from c s at) i ≡ Some (a, e) → at ≤ length s
reached c s i at a e u =
    order (length s) at
    (λ k. absurd (none-some _ (rw (parts_none c s at k) at u)))
    (λ k. k)

field_from_lem : (c : ℕ) (s : List ℕ) (i at a e : ℕ) → field_from at (parts_from c s at) i ≡ Some (a, e) → Stands s a e (get_or (parts_from c s at) i [])
field_from_lem c s zero at a e u =
    let k = reached c s zero at a e u in
    let v : Some (at, at + length (take (first_at s at c - at) (drop at s))) ≡ Some (a, e) = rw (parts_cut c s at k) at u in
    let t = some_pair_parts _ _ _ _ v in
    let p : at ≡ a = t.0 in
    let q : first_at s at c ≡ e = cc (t.1, cut_length c s at k) in
    let b = first_at_le c s at k in
    rw (parts_cut c s at k, ← p, ← q) record { starts = b.0; ends = b.1; bytes = refl }
field_from_lem c s (suc j) at a e u =
    let k = reached c s (suc j) at a e u in
    let v : field_from (at + length (take (first_at s at c - at) (drop at s)) + 1) (parts_from c s (first_at s at c + 1)) j ≡ Some (a, e) =
    rw (parts_cut c s at k) at u in
    rw (parts_cut c s at k) (field_from_lem c s j (first_at s at c + 1) a e (rw (cut_length c s at k) at v))

-- where a field of a line stands, when the line has it
pub field_part : (s : List ℕ) (i a e : ℕ) → field_at s i ≡ Some (a, e) → Stands s a e (get_or (split_on 9 s) i [])
unfolding field_at
field_part s i a e u = rw (← parts_all 9 s) (field_from_lem 9 s i 0 a e (rw (parts_all 9 s) u))

absent_from : (at : ℕ) (ps : List (List ℕ)) (i : ℕ) → field_from at ps i ≡ None → length ps ≤ i
absent_from at [] i u = omega arith
absent_from at (p ∷ ps) zero u = absurd (none-some _ (sym u))
absent_from at (p ∷ ps) (suc i) u = let h = absent_from (at + length p + 1) ps i u in omega arith

-- a field that the line has not is past its last
pub field_absent : (s : List ℕ) (i : ℕ) → field_at s i ≡ None → length (split_on 9 s) ≤ i
unfolding field_at
field_absent s i u = absent_from 0 (split_on 9 s) i u
