-- A line read: its word, and the fields behind it.
use Prim.Native.Nat.{ℕ, ◌+◌, ◌-◌, ◌≤◌, ◌<◌}
use mathlib.Core.Path.{◌≡◌, refl, sym, ap, ◌∙◌}
use mathlib.Core.List.{List}
use native.Mathlib.Omega.{arith}
use lib.ListN.{length, take}
use Rattle.std.specs.Prelude.{Option, Some, None, option_and_then}
use Rattle.std.proofs.lemmas.Option.{some_pair_parts}
use Rattle.text.specs.Parts.{parts_from, first_at}
use Rattle.text.specs.Fields.{got_at}
use Rattle.text.proofs.Parts.{parts_cut, parts_none, parts_all}
use Rattle.text.proofs.Fields.{behind_parts, behind_ends}
use Rattle.row.specs.Kinds.{form_of, kind_in}
use Rattle.row.specs.Row.{read_form, with_field, at_end, row_in, read_row, field_behind}
use Rattle.row.specs.declared.Form.{Form}
use Rattle.row.specs.declared.Row.{Row}

-- a field taken from the parts is the field behind the place where they start
with_behind : (f : Option Form) (s : List ℕ) (at : ℕ) (k : ℕ → List (List ℕ) → Option Row)
    → with_field f (parts_from 9 s (at + 1)) k ≡ option_and_then (λ t. k t.0 (parts_from 9 s (t.1 + 1))) (field_behind f s at)
unfolding field_behind
with_behind None s at k = refl
with_behind (Some f) s at k = behind_parts (read_form f) s at (λ p b. rw (p, b)) (λ p e l q b. rw (q, b) (same (read_form f p) e))
  where
    same : (n : Option ℕ) (e : ℕ) → option_and_then (λ v. k v (parts_from 9 s (e + 1))) n ≡ option_and_then (λ t. k t.0 (parts_from 9 s (t.1 + 1))) (got_at n e)
    same (Some v) e = refl
    same None e = refl

-- where a field ends is within the line
pub field_ends : (f : Option Form) (s : List ℕ) (at : ℕ) (g : Option (ℕ × ℕ)) → g ≡ field_behind f s at → at ≤ length s → (v e : ℕ) → g ≡ Some (v, e) → e ≤ length s
unfolding field_behind
field_ends None s at g q h v e u = let z : at ≡ e = (some_pair_parts _ _ _ _ (sym q ∙ u)).1 in omega arith
field_ends (Some f) s at g q h v e u = behind_ends (read_form f) s at g q v e u

same_then : {A B : Type 0} (f g : A → Option B) → ((x : A) → f x ≡ g x) → (o : Option A) → option_and_then f o ≡ option_and_then g o
same_then f g h (Some x) = h x
same_then f g h None = refl

-- what a line says: its word, its three fields, its end
abbrev on_third : List ℕ → ℕ → ℕ → ℕ → ℕ × ℕ → Option Row
on_third s k a b t = at_end (parts_from 9 s (t.1 + 1)) (record { kind = k; a = a; b = b; c = t.0 })

abbrev on_second : List ℕ → ℕ → ℕ → ℕ × ℕ → Option Row
on_second s k a t = option_and_then (on_third s k a t.0) (field_behind (form_of k 2) s t.1)

abbrev on_first : List ℕ → ℕ → ℕ × ℕ → Option Row
on_first s k t = option_and_then (on_second s k t.0) (field_behind (form_of k 1) s t.1)

module _ (s : List ℕ) (w : ℕ) (fw : w ≡ first_at s 0 9) (x : Option ℕ) (ex : x ≡ kind_in (take w s)) where
  opened : read_row s ≡ option_and_then (λ k. option_and_then (on_first s k) (field_behind (form_of k 0) s w)) x
  unfolding read_row
  opened =
      let n : w - 0 ≡ w = omega arith in
      ap row_in (sym (parts_all 9 s) ∙ parts_cut 9 s 0 (omega arith)) ∙ rw (← fw, n, ← ex)
      (same_then _ _ (λ k. with_behind (form_of k 0) s w _
      ∙ same_then _ _ (λ a. with_behind (form_of k 1) s a.1 _
      ∙ same_then _ _ (λ b. with_behind (form_of k 2) s b.1 _) _) _) _)

  pub row_unknown : x ≡ None → None ≡ read_row s
  row_unknown u = rw (opened, u)

  module _ (k : ℕ) (u : x ≡ Some k) (f₀ : Option Form) (p₀ : f₀ ≡ form_of k 0) (g₀ : Option (ℕ × ℕ)) (q₀ : g₀ ≡ field_behind f₀ s w) where
    first : read_row s ≡ option_and_then (on_first s k) g₀
    first = rw (opened, u, ← p₀, ← q₀)

    pub row_first : g₀ ≡ None → None ≡ read_row s
    row_first e = rw (first, e)

    module _ (a p : ℕ) (u₀ : g₀ ≡ Some (a, p)) (f₁ : Option Form) (p₁ : f₁ ≡ form_of k 1) (g₁ : Option (ℕ × ℕ)) (q₁ : g₁ ≡ field_behind f₁ s p) where
      second : read_row s ≡ option_and_then (on_second s k a) g₁
      second = rw (first, u₀, ← p₁, ← q₁)

      pub row_second : g₁ ≡ None → None ≡ read_row s
      row_second e = rw (second, e)

      module _ (b q : ℕ) (u₁ : g₁ ≡ Some (b, q)) (f₂ : Option Form) (p₂ : f₂ ≡ form_of k 2) (g₂ : Option (ℕ × ℕ)) (q₂ : g₂ ≡ field_behind f₂ s q) where
        third : read_row s ≡ option_and_then (on_third s k a b) g₂
        third = rw (second, u₁, ← p₂, ← q₂)

        pub row_third : g₂ ≡ None → None ≡ read_row s
        row_third e = rw (third, e)

        module _ (c e : ℕ) (u₂ : g₂ ≡ Some (c, e)) where
          pub row_long : e < length s → None ≡ read_row s
          row_long h = let m : e + 1 ≤ length s = omega arith in rw (third, u₂, parts_cut 9 s (e + 1) m)

          pub row_whole : length s ≤ e → Some (record { kind = k; a = a; b = b; c = c }) ≡ read_row s
          row_whole h = let m : length s < e + 1 = omega arith in rw (third, u₂, parts_none 9 s (e + 1) m)
