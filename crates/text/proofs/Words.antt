-- The words of a set: reading one and writing it undo each other.
use Prim.Native.Nat.{ℕ, zero, suc, ◌+◌, ◌-◌, ◌≤◌, ◌<◌}
use mathlib.Core.Path.{◌≡◌, refl, sym, ap, ◌∙◌}
use mathlib.Core.List.{List, [], ◌∷◌}
use mathlib.Core.Bool.{true, false}
use native.Mathlib.Omega.{arith}
use lib.ListN.{length, get_or, get_or-eq_default}
use Rattle.std.specs.Prelude.{Some, None}
use Rattle.std.proofs.lemmas.Option.{none-some}
use Rattle.std.proofs.lemmas.Slice.Eq.{bytes_eq-Decides}
use Rattle.text.specs.Parts.{split_on, field_at}
use Rattle.text.specs.Words.{same_list, index_from, word_in, word_at, none, distinct}
use Rattle.text.proofs.Parts.{Stands, field_part, field_absent}
use Rattle.text.proofs.Picks.{cases, picked, passed, false_true}

-- a list is the same as itself
pub same_self : (a : List ℕ) → same_list a a ≡ true
same_self a = (bytes_eq-Decides a a).1 refl

-- and as no other
pub same_list_lem : (a b : List ℕ) → same_list a b ≡ true → a ≡ b
same_list_lem a b h = (bytes_eq-Decides a b).0 h

-- what was found: the word there, counted from k, is p
record Found (k i : ℕ) (p : List ℕ) (ws : List (List ℕ)) : Type 0 where
  from : k ≤ i
  there : get_or ws (i - k) [] ≡ p
  inside : i - k < length ws

index_found : (ws : List (List ℕ)) (p : List ℕ) (k i : ℕ) → index_from k p ws ≡ Some i → Found k i p ws
index_found [] p k i u = absurd (none-some _ u)
index_found (w ∷ ws) p k i u =
    cases (same_list p w) (λ e. here e (rw e at u)) (λ e. later (index_found ws p (suc k) i (rw e at u)))
  where
    here : same_list p w ≡ true → Some k ≡ Some i → Found k i p (w ∷ ws)
    here e v =
        let j : k ≡ i = cc in
        let q : i - k ≡ 0 = omega arith in
        record { from = omega arith; there = rw q (sym (same_list_lem p w e)); inside = omega arith }

    later : Found (suc k) i p ws → Found k i p (w ∷ ws)
    later r =
        let h = r.from in
        let q : i - k ≡ suc (i - suc k) = omega arith in
        record { from = omega arith; there = rw q r.there; inside = omega (arith, r.inside) }

-- a word that was read is the word of that number, and the set has it
pub word_read : (words p : List ℕ) (i : ℕ) → word_in words p ≡ Some i → (word_at words i ≡ p) × (i < length (split_on 9 words))
unfolding word_in word_at
word_read words p i u =
    let r = index_found (split_on 9 words) p 0 i u in
    let q : i - 0 ≡ i = omega arith in
    (rw q at r.there, rw q at r.inside)

-- a word that none of these is like is unlike each of them
other : (ws : List (List ℕ)) (w : List ℕ) (i : ℕ) → none w ws ≡ true → i < length ws → same_list (get_or ws i []) w ≡ false
other [] w i h l = absurd (omega arith)
other (v ∷ ws) w zero h l =
    let t = passed (same_list w v) false_true h in
    cases (same_list v w)
    (λ e. absurd (false_true (sym t.0 ∙ rw (same_list_lem v w e, same_self w))))
    (λ e. e)
other (v ∷ ws) w (suc i) h l = other ws w i (passed (same_list w v) false_true h).1 (omega arith)

index_written : (ws : List (List ℕ)) (k i : ℕ) → distinct ws ≡ true → i < length ws → index_from k (get_or ws i []) ws ≡ Some (k + i)
index_written [] k i h l = absurd (omega arith)
index_written (w ∷ ws) k zero h l = let e : k ≡ k + 0 = omega arith in rw (same_self w, ← e)
index_written (w ∷ ws) k (suc i) h l =
    let t = picked (none w ws) false_true h in
    let e : suc k + i ≡ k + suc i = omega arith in
    rw (other ws w i t.0 (omega arith), index_written ws (suc k) i t.1 (omega arith), e)

-- where no two words are alike, a word of the set is read as its number
pub word_written : (words : List ℕ) (i : ℕ) → distinct (split_on 9 words) ≡ true → i < length (split_on 9 words) → word_in words (word_at words i) ≡ Some i
unfolding word_in word_at
word_written words i h l = let e : 0 + i ≡ i = omega arith in index_written (split_on 9 words) 0 i h l ∙ ap Some e

-- a word stands where the field of its number does
pub word_stands : (words : List ℕ) (i a e : ℕ) → field_at words i ≡ Some (a, e) → Stands words a e (word_at words i)
unfolding word_at
word_stands words i a e u = field_part words i a e u

-- past the last word there is nothing
pub word_past : (words : List ℕ) (i : ℕ) → field_at words i ≡ None → word_at words i ≡ []
unfolding word_at
word_past words i u = get_or-eq_default (split_on 9 words) [] (field_absent words i u)
