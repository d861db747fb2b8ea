-- The fields of a line, and a word among its fields, looked for one after another.
use Prim.Native.Nat.{ℕ, suc, ◌+◌, ◌-◌, ◌≤◌, ◌<◌}
use mathlib.Core.Path.{◌≡◌, refl, sym, ap, ◌∙◌}
use mathlib.Core.List.{List, [], ◌∷◌}
use native.Mathlib.Omega.{arith}
use native.Mathlib.Numerals.{add-one}
use lib.ListN.{length, drop, take}
use borrow.Author.Tests.{le-leb, lt-leb}
use Rattle.std.specs.Prelude.{Option, Some, None}
use Rattle.std.proofs.lemmas.Option.{none-some, some_pair_parts}
use mathlib.Core.Bool.{true, false}
use Rattle.text.specs.Parts.{first_at, parts_from, field_from, field_at}
use Rattle.text.specs.Words.{same_list, index_from, word_in, word_at}
use Rattle.text.specs.Fields.{got_at, behind}
use Rattle.text.proofs.Parts.{Stands, first_at_le, parts_cut, parts_none, parts_all, cut_length}
use Rattle.text.proofs.Picks.{order}
use Rattle.text.proofs.Words.{word_stands, word_past}

-- the field behind the tab at a place, read by a form
module _ (form : List ℕ → Option ℕ) (s : List ℕ) (at : ℕ) where
  pub behind_gone : length s ≤ at → None ≡ behind form s at
  unfolding behind
  behind_gone h = rw (le-leb _ _ h)

  module _ (h : at < length s) (e : ℕ) (f : e ≡ first_at s (at + 1) 9) (n : Option ℕ) (q : n ≡ form (take (e - (at + 1)) (drop (at + 1) s))) where
    found : got_at n e ≡ behind form s at
    unfolding behind
    found = rw (lt-leb _ _ h, ← f, ← q)

    pub behind_bad : n ≡ None → None ≡ behind form s at
    behind_bad u = rw (← found, u)

    pub behind_is : (v : ℕ) → n ≡ Some v → Some (v, e) ≡ behind form s at
    behind_is v u = rw (← found, u)

  -- it is the first of the parts behind the tab, where there are any
  pub behind_parts : {P : Type 0} → (parts_from 9 s (at + 1) ≡ [] → behind form s at ≡ None → P)
      → ((p : List ℕ) (e : ℕ) → e ≤ length s → parts_from 9 s (at + 1) ≡ p ∷ parts_from 9 s (e + 1) → behind form s at ≡ got_at (form p) e → P) → P
  behind_parts f g =
      order at (length s)
      (λ k.
      let l : at + 1 ≤ length s = omega arith in
      g _ _ (first_at_le 9 s (at + 1) l).1 (parts_cut 9 s (at + 1) l) (sym (found k _ refl _ refl)))
      (λ k. let l : length s < at + 1 = omega arith in f (parts_none 9 s (at + 1) l) (sym (behind_gone k)))

  -- where it is found it ends within the line
  pub behind_ends : (g : Option (ℕ × ℕ)) → g ≡ behind form s at → (v e : ℕ) → g ≡ Some (v, e) → e ≤ length s
  behind_ends g q v e u =
      behind_parts
      (λ p b. absurd (none-some _ (sym (q ∙ b) ∙ u)))
      (λ p x l c b. inside (form p) x l (sym (q ∙ b) ∙ u))
    where
      inside : (n : Option ℕ) (x : ℕ) → x ≤ length s → got_at n x ≡ Some (v, e) → e ≤ length s
      inside (Some w) x l t = let z : x ≡ e = (some_pair_parts _ _ _ _ t).1 in omega arith
      inside None x l t = absurd (none-some _ t)

-- the next part of a line, from a place to the tab that ends it
module _ (s : List ℕ) (at e : ℕ) (h : at ≤ length s) (f : e ≡ first_at s at 9) where
  cut : parts_from 9 s at ≡ take (e - at) (drop at s) ∷ parts_from 9 s (e + 1)
  cut = rw f (parts_cut 9 s at h)

  cut_end : at + length (take (e - at) (drop at s)) ≡ e
  cut_end = rw f (cut_length 9 s at h)

  -- where a field stands
  module _ (left : ℕ) (r : Option (ℕ × ℕ)) (now : field_from at (parts_from 9 s at) left ≡ r) where
    -- this part is the field
    pub field_here : left ≡ 0 → Some (at, e) ≡ r
    field_here z = sym (ap (λ (x : ℕ). Some (at, x)) cut_end) ∙ rw (cut, z) at now

    module _ (z : left ≡ 0 → ⊥) where
      -- the field comes later
      pub field_more : field_from (e + 1) (parts_from 9 s (e + 1)) (left - 1) ≡ r
      field_more =
          let m : left ≡ suc (left - 1) = order 0 left (λ k. omega arith) (λ k. absurd (z (omega arith))) in
          let v : field_from (at + length (take (e - at) (drop at s)) + 1) (parts_from 9 s (e + 1)) (left - 1) ≡ r = rw (cut, m) at now in
          rw cut_end at v

      -- no part is left
      pub field_gone : length s ≤ e → None ≡ r
      field_gone l = let k : length s < e + 1 = omega arith in rw (parts_none 9 s (e + 1) k) at field_more

  -- which word it is
  module _ (k : ℕ) (p : List ℕ) (r : Option ℕ) (now : index_from k p (parts_from 9 s at) ≡ r) where
    -- this part is the word
    pub word_here : same_list p (take (e - at) (drop at s)) ≡ true → Some k ≡ r
    word_here y = rw (cut, y) at now

    module _ (n : same_list p (take (e - at) (drop at s)) ≡ false) where
      -- the word comes later
      pub word_more : index_from (k + 1) p (parts_from 9 s (e + 1)) ≡ r
      word_more = rw (add-one k) (rw (cut, n) at now)

      -- no part is left
      pub word_gone : length s ≤ e → None ≡ r
      word_gone l = let j : length s < e + 1 = omega arith in rw (parts_none 9 s (e + 1) j) at word_more

-- every field is looked for from the first part on
pub field_start : (s : List ℕ) (i : ℕ) → field_from 0 (parts_from 9 s 0) i ≡ field_at s i
unfolding field_at
field_start s i = rw (parts_all 9 s)

-- and every word
pub word_start : (s p : List ℕ) → index_from 0 p (parts_from 9 s 0) ≡ word_in s p
unfolding word_in
word_start s p = rw (parts_all 9 s)

-- a word of a set, where the field of its number was looked for
module _ (words : List ℕ) (i : ℕ) (f : Option (ℕ × ℕ)) (e : f ≡ field_at words i) where
  -- there is none
  pub word_none : f ≡ None → [] ≡ word_at words i
  word_none u = sym (word_past words i (sym e ∙ u))

  module _ (a z : ℕ) (u : f ≡ Some (a, z)) where
    stands : Stands words a z (word_at words i)
    stands = word_stands words i a z (sym e ∙ u)

    -- it does not end before it starts
    pub word_starts : a ≤ z
    word_starts = stands.starts

    -- it ends inside the set
    pub word_ends : z ≤ length words
    word_ends = stands.ends

    -- its bytes are the word
    pub word_bytes : take (z - a) (drop a words) ≡ word_at words i
    word_bytes = stands.bytes
