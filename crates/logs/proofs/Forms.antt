-- The forms of a field: each reads only texts free of tabs, so what is left of a line is its only field where it reads at all.
use Prim.Native.Nat.{ℕ}
use mathlib.Core.Path.{◌≡◌, refl, sym, ap, ◌∙◌}
use mathlib.Core.List.{List, [], ◌∷◌}
use mathlib.Core.Bool.{true}
use native.Mathlib.Omega.{arith}
use Rattle.std.specs.Prelude.{Option, Some, None}
use Rattle.text.specs.Parts.{split_on, join_on, free}
use Rattle.text.specs.Words.{same_list}
use Rattle.text.specs.Fields.{most_digits, ether_word}
use Rattle.text.specs.declared.Set.{Set}
use Rattle.text.proofs.Picks.{cases}
use Rattle.text.proofs.Parts.{join_split, split_join}
use Rattle.text.proofs.Words.{same_list_lem}
use Rattle.text.proofs.Numbers.{digits_read, digits_free}
use Rattle.text.proofs.Sets.{set_text_read, set_text_free}
use Rattle.logs.specs.Lines.{a_number, a_set, a_place, only}

-- a field reads or does not
pub on_number_lem : {P : Type 0} (n : Option ℕ) → ((v : ℕ) → n ≡ Some v → P) → (n ≡ None → P) → P
on_number_lem (Some v) f g = f v refl
on_number_lem None f g = g refl

-- no text with a tab in it reads
abbrev pub Tabless : (List ℕ → Option ℕ) → Type 0
Tabless form = (p : List ℕ) (v : ℕ) → form p ≡ Some v → free 9 p ≡ true

pub number_tabless : Tabless a_number
number_tabless p v u = rw (← (digits_read most_digits p v u).0) (digits_free 9 v (omega arith))

pub set_tabless : (d : ℕ) (p : List ℕ) (v : Set) → a_set d p ≡ Some v → free 9 p ≡ true
set_tabless d p v u = rw (← (set_text_read d p v u).0) (set_text_free 9 d v (omega arith))

pub place_tabless : Tabless a_place
unfolding ether_word
place_tabless p v u =
    cases (same_list p ether_word) (λ e. rw (same_list_lem p ether_word e)) (λ e. number_tabless p v (rw e at u))

-- a text that is cut into one field is that field
pub only_whole : (form : List ℕ → Option ℕ) → Tabless form → (s : List ℕ) → only form (split_on 9 s) ≡ form s
only_whole form t s =
    on_number_lem (form s)
    (λ v u. let h = t s v u in let e : split_on 9 s ≡ s ∷ [] = split_join 9 s [] (rw h) in rw e)
    (λ u. bad (split_on 9 s) refl u ∙ sym u)
  where
    bad : (ps : List (List ℕ)) → split_on 9 s ≡ ps → form s ≡ None → only form ps ≡ None
    bad [] e u = refl
    bad (p ∷ []) e u = ap form (sym (ap (join_on 9) e) ∙ join_split 9 s) ∙ u
    bad (p ∷ q ∷ ps) e u = refl
