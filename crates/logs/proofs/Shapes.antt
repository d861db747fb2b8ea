-- The shapes of a line that says a step: a word of the nine, and behind it as many fields as the step asks for, each of good form.
use Prim.Native.Nat.{ℕ, ◌+◌}
use mathlib.Core.Path.{◌≡◌, refl, ap, ◌∙◌}
use mathlib.Core.List.{List, [], ◌∷◌}
use mathlib.Core.Bool.{Bool, true, false}
use lib.ListN.{length}
use lib.Dec.{ltb, eqb}
use Rattle.std.specs.Prelude.{Option, Some, None}
use Rattle.std.proofs.lemmas.Option.{none-some, option_and_then_some}
use Rattle.text.specs.Parts.{pick, split_on, join_on}
use Rattle.text.specs.Words.{word_in}
use Rattle.text.specs.declared.Set.{Set}
use Rattle.text.proofs.Picks.{passed}
use Rattle.text.proofs.Parts.{join_split}
use Rattle.model.specs.Tables.{target_of}
use Rattle.model.specs.declared.ActStep.TheVariants.{Fa}
use Rattle.model.specs.declared.Step.{Step}
use Rattle.model.specs.declared.Step.TheVariants.{Sm, OfAct}
use Rattle.logs.specs.Lines.{longest_line, step_words, a_number, a_set, a_place, given, only, headed, one_number, two_numbers, sets_line, manager_line, leaving_line, one_of, two_of, step_of, on_word, step_in, read_step}
use Rattle.logs.proofs.Lists.{on_sets}

-- a line that is no step says none
pub no_step_lem : {x : Step} → None ≡ Some x → ⊥
no_step_lem e = none-some _ e

-- what holds of both of two steps holds of either
pub either : (P : Step → Type 0) (b : Bool) (x y : Step) → P x → P y → P (pick b x y)
either P true x y h k = h
either P false x y h k = k

on_pick : {P : Type 0} (b : Bool) (l m : Option Step) (x : Step) → pick b l m ≡ Some x → (l ≡ Some x → P) → (m ≡ Some x → P) → P
on_pick true l m x u f g = f u
on_pick false l m x u f g = g u

-- a line that says a step has a field of good form wherever one is asked for, and no field more
on_head_lem : {P : Type 0} (form : List ℕ → Option ℕ) (ps : List (List ℕ)) (go : ℕ → List (List ℕ) → Option Step) (x : Step) → headed form ps go ≡ Some x
    → ((p : List ℕ) (v : ℕ) (qs : List (List ℕ)) → ps ≡ p ∷ qs → form p ≡ Some v → go v qs ≡ Some x → P) → P
on_head_lem form [] go x u f = absurd (no_step_lem u)
on_head_lem form (p ∷ ps) go x u f = option_and_then_some (λ v. go v ps) (form p) x u (λ v e w. f p v ps refl e w)

on_only : {P : Type 0} (form : List ℕ → Option ℕ) (ps : List (List ℕ)) (go : ℕ → Option Step) (x : Step) → given (only form ps) go ≡ Some x
    → ((p : List ℕ) (v : ℕ) → ps ≡ p ∷ [] → form p ≡ Some v → go v ≡ Some x → P) → P
on_only form [] go x u f = absurd (no_step_lem u)
on_only form (p ∷ []) go x u f = option_and_then_some go (form p) x u (λ v e w. f p v refl e w)
on_only form (p ∷ q ∷ ps) go x u f = absurd (no_step_lem u)

on_lists : {P : Type 0} (d t : ℕ) (ps : List (List ℕ)) (x : Step) → sets_line d t ps ≡ Some x
    → ((p q : List ℕ) (n r : Set) → ps ≡ p ∷ q ∷ [] → a_set d p ≡ Some n → a_set d q ≡ Some r → Some (Sm t n r) ≡ Some x → P) → P
on_lists d t [] x u f = absurd (no_step_lem u)
on_lists d t (p ∷ []) x u f = absurd (no_step_lem u)
on_lists d t (p ∷ q ∷ []) x u f =
    on_sets t (a_set d p) (a_set d q) (λ n r a b. f p q n r refl a b (rw (a, b) at u)) (λ e. absurd (no_step_lem (e ∙ u)))
on_lists d t (p ∷ q ∷ o ∷ ps) x u f = absurd (no_step_lem u)

-- what holds of a line and its step, shape by shape, where sets have d digits
pub record Shapes (d : ℕ) (P : List ℕ → Step → Type 0) : Type 0 where
  pub one : (w p : List ℕ) (k a : ℕ) → word_in step_words w ≡ Some k → a_number p ≡ Some a → P (join_on 9 (w ∷ p ∷ [])) (one_of k a)
  pub two : (w p q : List ℕ) (k a b : ℕ) → word_in step_words w ≡ Some k → a_number p ≡ Some a → a_number q ≡ Some b → P (join_on 9 (w ∷ p ∷ q ∷ [])) (two_of k a b)
  pub manager : (w p q s : List ℕ) (k t : ℕ) (n r : Set) → word_in step_words w ≡ Some k → a_number p ≡ Some t → a_set d q ≡ Some n → a_set d s ≡ Some r → P (join_on 9 (w ∷ p ∷ q ∷ s ∷ [])) (Sm t n r)
  pub leaving : (w p q : List ℕ) (k a c : ℕ) → word_in step_words w ≡ Some k → a_number p ≡ Some a → a_place q ≡ Some c → P (join_on 9 (w ∷ p ∷ q ∷ [])) (OfAct a (Fa (target_of c)))

module _ {d : ℕ} {P : List ℕ → Step → Type 0} (f : Shapes d P) (x : Step) where
  -- behind a word
  module _ (w : List ℕ) (k : ℕ) (i : word_in step_words w ≡ Some k) (ps : List (List ℕ)) where
    said : {qs : List (List ℕ)} {y : Step} → ps ≡ qs → Some y ≡ Some x → P (join_on 9 (w ∷ qs)) y → P (join_on 9 (w ∷ ps)) x
    said {y = y} e u h = let q : y ≡ x = cc in rw (e, ← q) h

    one_shape : one_number ps (one_of k) ≡ Some x → P (join_on 9 (w ∷ ps)) x
    one_shape u =
        on_only a_number ps (λ a. Some (one_of k a)) x u λ p a j e z.
        said j z (f.one w p k a i e)

    two_shape : two_numbers ps (two_of k) ≡ Some x → P (join_on 9 (w ∷ ps)) x
    two_shape u =
        on_head_lem a_number ps (λ a qs. one_number qs (two_of k a)) x u λ p a qs j e v.
        on_only a_number qs (λ b. Some (two_of k a b)) x v λ q b g h z.
        said (j ∙ ap (λ l. p ∷ l) g) z (f.two w p q k a b i e h)

    manager_shape : manager_line d ps ≡ Some x → P (join_on 9 (w ∷ ps)) x
    manager_shape u =
        on_head_lem a_number ps (λ t qs. sets_line d t qs) x u λ p t qs a e v.
        on_lists d t qs x v λ q s n r b g h z.
        said (a ∙ ap (λ l. p ∷ l) b) z (f.manager w p q s k t n r i e g h)

    leaving_shape : leaving_line ps ≡ Some x → P (join_on 9 (w ∷ ps)) x
    leaving_shape u =
        on_head_lem a_number ps (λ a qs. given (only a_place qs) (λ c. Some (OfAct a (Fa (target_of c))))) x u λ p a qs j e v.
        on_only a_place qs (λ c. Some (OfAct a (Fa (target_of c)))) x v λ q c g h z.
        said (j ∙ ap (λ l. p ∷ l) g) z (f.leaving w p q k a c i e h)

    word_shape : step_of d k ps ≡ Some x → P (join_on 9 (w ∷ ps)) x
    word_shape u =
        on_pick (eqb k 2) _ _ x u manager_shape λ u.
        on_pick (eqb k 3) _ _ x u two_shape λ u.
        on_pick (eqb k 5) _ _ x u two_shape λ u.
        on_pick (eqb k 7) _ _ x u leaving_shape one_shape

  parts_shape : (ps : List (List ℕ)) → step_in d ps ≡ Some x → P (join_on 9 ps) x
  parts_shape [] u = absurd (no_step_lem u)
  parts_shape (w ∷ ps) u = go (word_in step_words w) refl u
    where
      go : (r : Option ℕ) → word_in step_words w ≡ r → on_word d r ps ≡ Some x → P (join_on 9 (w ∷ ps)) x
      go None e u = absurd (no_step_lem u)
      go (Some k) e u = word_shape w k e ps u

  -- holds of every line that reads as a step
  pub shaped : (s : List ℕ) → read_step d s ≡ Some x → P s x
  unfolding read_step
  shaped s u = rw join_split at (parts_shape (split_on 9 s) (passed (ltb longest_line (length s + 1)) no_step_lem u).1)
