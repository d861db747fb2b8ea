-- N and R of an `sm`: where two sets stand in what is left of a line, and what it says where they do not.
use Prim.Native.Nat.{ℕ, suc, ◌+◌, ◌-◌, ◌≤◌, ◌<◌}
use mathlib.Core.Path.{◌≡◌, refl, sym, ap, ◌∙◌}
use mathlib.Core.List.{List, [], ◌∷◌, ◌++◌}
use native.Mathlib.Omega.{arith}
use lib.ListN.{length, get_or, take, drop, length-append}
use lib.Seq.{split_at, take_at, get_or_at, drop-append-add}
use borrow.Author.Tests.{le-ltb}
use Rattle.std.specs.Prelude.{Option, Some, None}
use Rattle.text.specs.Parts.{split_on, join_on, parts_from}
use Rattle.text.specs.declared.Set.{Set}
use Rattle.text.proofs.Parts.{join_split, split_join, parts_none}
use Rattle.text.proofs.Sets.{bad_set, set_length}
use Rattle.text.proofs.Seeking.{part_rest}
use Rattle.model.specs.declared.Step.{Step}
use Rattle.model.specs.declared.Step.TheVariants.{Sm}
use Rattle.logs.specs.Lines.{a_set, manages, sets_line}
use Rattle.logs.proofs.Forms.{set_tabless}

-- both fields say a set, or the line says no step
pub on_sets : {P : Type 0} (t : ℕ) (a b : Option Set) → ((n r : Set) → a ≡ Some n → b ≡ Some r → P) → (None ≡ manages t a b → P) → P
on_sets t (Some n) (Some r) f g = f n r refl refl
on_sets t (Some n) None f g = g refl
on_sets t None b f g = g refl

module _ (d t : ℕ) (s : List ℕ) where
  -- a text that is not two sets with a tab between them
  unlisted : ((p q : List ℕ) (n r : Set) → s ≡ p ++ 9 ∷ q → a_set d p ≡ Some n → a_set d q ≡ Some r → ⊥) → None ≡ sets_line d t (split_on 9 s)
  unlisted f = from (split_on 9 s) (sym (join_split 9 s))
    where
      from : (ps : List (List ℕ)) → s ≡ join_on 9 ps → None ≡ sets_line d t ps
      from [] e = refl
      from (p ∷ []) e = refl
      from (p ∷ q ∷ []) e = on_sets t (a_set d p) (a_set d q) (λ n r a b. absurd (f p q n r e a b)) (λ u. u)
      from (p ∷ q ∷ o ∷ ps) e = refl

  -- it has no byte behind the first
  pub lists_short : length s ≤ d → None ≡ sets_line d t (split_on 9 s)
  lists_short h = unlisted (λ p q n r e a b. omega (arith, ap length e, length-append p (9 ∷ q), set_length d p n a))

  -- it is longer or shorter
  pub lists_length : (length s - d - 1 ≡ d → ⊥) → None ≡ sets_line d t (split_on 9 s)
  lists_length ne = unlisted (λ p q n r e a b. ne (omega (arith, ap length e, length-append p (9 ∷ q), set_length d p n a, set_length d q r b)))

  -- no tab stands between
  pub lists_apart : (get_or s d 0 ≡ 9 → ⊥) → None ≡ sets_line d t (split_on 9 s)
  lists_apart ne = unlisted (λ p q n r e a b. ne (ap (λ l. get_or l d 0) e ∙ get_or_at p 9 q 0 d (set_length d p n a)))

  -- the first is no set
  pub lists_first : (f : Option Set) → f ≡ a_set d (take d s) → f ≡ None → None ≡ sets_line d t (split_on 9 s)
  lists_first f w u =
      unlisted (λ p q n r e a b.
      let c : take d s ≡ p = ap (take d) e ∙ take_at p (9 ∷ q) d (set_length d p n a) in
      bad_set (sym u ∙ w ∙ ap (a_set d) c ∙ a))

  -- the second is no set
  pub lists_second : (f : Option Set) → f ≡ a_set d (take (length s - (d + 1)) (drop (d + 1) s)) → f ≡ None → None ≡ sets_line d t (split_on 9 s)
  lists_second f w u =
      unlisted (λ p q n r e a b.
      let l : d + 1 ≡ length p + 1 = omega (arith, set_length d p n a) in
      let c : drop (d + 1) s ≡ q = ap (drop (d + 1)) e ∙ ap (λ k. drop k (p ++ 9 ∷ q)) l ∙ drop-append-add p (9 ∷ q) 1 in
      bad_set (sym u ∙ w ∙ ap (a_set d) (part_rest s (d + 1) ∙ c) ∙ b))

  -- both are
  pub lists_both : d < length s → get_or s d 0 ≡ 9 → (f g : Option Set) (n r : Set) → f ≡ a_set d (take d s) → g ≡ a_set d (take (length s - (d + 1)) (drop (d + 1) s)) → f ≡ Some n → g ≡ Some r
      → Some (Sm t n r) ≡ sets_line d t (split_on 9 s)
  lists_both l z f g n r w v x y =
      let a : a_set d (take d s) ≡ Some n = sym w ∙ x in
      let b : a_set d (drop (d + 1) s) ≡ Some r = ap (a_set d) (sym (part_rest s (d + 1))) ∙ sym v ∙ y in
      let o : suc d ≡ d + 1 = omega arith in
      let e : s ≡ take d s ++ 9 ∷ drop (d + 1) s = rw (z, o) at (split_at s d 0 (omega arith)) in
      let h : split_on 9 s ≡ take d s ∷ drop (d + 1) s ∷ [] =
      ap (split_on 9) e ∙ split_join 9 (take d s) (drop (d + 1) s ∷ []) (rw (set_tabless d (take d s) n a, set_tabless d (drop (d + 1) s) r b)) in
      rw (h, a, b)

-- what is left of a line behind its task
module _ (d t : ℕ) (s : List ℕ) (at : ℕ) where
  -- nothing
  pub lists_gone : length s ≤ at → None ≡ sets_line d t (parts_from 9 s (at + 1))
  lists_gone h = let k : length s < at + 1 = omega arith in rw (parts_none 9 s (at + 1) k)

  -- some fields
  pub lists_rest : (r : Option Step) → r ≡ sets_line d t (split_on 9 (take (length s - (at + 1)) (drop (at + 1) s))) → at < length s → r ≡ sets_line d t (parts_from 9 s (at + 1))
  lists_rest r e h = let k : at + 1 ≤ length s = omega arith in rw (le-ltb _ _ k) (rw (part_rest s (at + 1)) at e)
