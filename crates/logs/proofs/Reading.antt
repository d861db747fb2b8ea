-- What a line says by its word, its length and its first letters, one law for each exit.
use Prim.Native.Nat.{ℕ, ◌+◌, ◌-◌, ◌≤◌, ◌<◌}
use mathlib.Core.Path.{◌≡◌, sym, ap, ◌∙◌}
use mathlib.Core.List.{List, [], ◌∷◌, ◌++◌}
use mathlib.Core.Bool.{Bool, true, false, not}
use native.Mathlib.Omega.{arith}
use lib.ListN.{length, get_or, take, drop, length-take, take-append-drop}
use borrow.Author.Tests.{lt-ltb, le-ltb, eq-eqb, ne_eqb, not-true, not-false}
use Rattle.std.specs.Prelude.{Option, Some, None}
use Rattle.text.specs.Parts.{first_at, split_on, parts_from}
use Rattle.text.specs.Words.{same_list, word_in}
use Rattle.text.proofs.Picks.{false_true}
use Rattle.text.proofs.Words.{same_list_lem}
use Rattle.model.specs.declared.Step.{Step}
use Rattle.model.specs.declared.Step.TheVariants.{Wait}
use Rattle.logs.specs.Lines.{step_words, a_number, only, given, step_of, on_word, step_in, read_step, read_line}
use Rattle.logs.proofs.Words.{letters, wait, begins, short, waiting}

-- what a line says by the two letters of its word and by its fields
module _ (d : ℕ) (s : List ℕ) (h : 2 < length s) (x y : ℕ) (e : get_or s 0 0 ≡ x) (f : get_or s 1 0 ≡ y) (ps : List (List ℕ)) where
  said : (v : Option ℕ) → v ≡ word_in step_words (x ∷ y ∷ []) → on_word d v ps ≡ on_word d (word_in step_words (take 2 s)) ps
  said v q = rw (q, letters (word_in step_words (x ∷ y ∷ [])) step_words s (rw (e, f)) h)

  pub says_none : None ≡ word_in step_words (x ∷ y ∷ []) → None ≡ on_word d (word_in step_words (take 2 s)) ps
  says_none q = said None q

  pub says : (k : ℕ) → Some k ≡ word_in step_words (x ∷ y ∷ []) → (r : Option Step) → r ≡ step_of d k ps → r ≡ on_word d (word_in step_words (take 2 s)) ps
  says k q r p = p ∙ said (Some k) q

-- a line without its newline
module _ (d : ℕ) (s : List ℕ) where
  pub step_long : 63 ≤ length s → None ≡ read_step d s
  unfolding read_step
  step_long h = let k : 63 < length s + 1 = omega arith in rw (lt-ltb _ _ k)

  module _ (h : length s < 63) where
    step_in_lem : read_step d s ≡ step_in d (split_on 9 s)
    unfolding read_step
    step_in_lem = let k : length s + 1 ≤ 63 = omega arith in rw (le-ltb _ _ k)

    module _ (n : get_or s 2 0 ≡ 9 → ⊥) where
      two : (x y : ℕ) (q : List ℕ) → s ≡ x ∷ y ∷ 9 ∷ q → ⊥
      two x y q e = n (rw e)

      -- other letters, or too few for `wait` and a tab
      pub step_other : (t : Bool) → t ≡ same_list (wait ++ 9 ∷ []) (take 5 s) → not t ≡ true → None ≡ read_step d s
      step_other t e u =
          rw step_in_lem
          (begins d s (λ q f. false_true (sym (not-true t u) ∙ e ∙ rw f)) two)

    -- `wait` and a tab
    pub step_wait : (t : Bool) → t ≡ same_list (wait ++ 9 ∷ []) (take 5 s) → not t ≡ false
        → (r : Option Step) → r ≡ given (only a_number (parts_from 9 s 5)) (λ a. Some (Wait a)) → r ≡ read_step d s
    step_wait t e u r p =
        let w : take 5 s ≡ wait ++ 9 ∷ [] = sym (same_list_lem (wait ++ 9 ∷ []) (take 5 s) (sym e ∙ not-false t u)) in
        let l : 5 ≤ length s = omega (arith, ap length w, length-take 5 s) in
        let q : wait ++ 9 ∷ drop 5 s ≡ s = rw w at (take-append-drop 5 s) in
        rw (le-ltb _ _ l) at p ∙ sym (waiting d (drop 5 s)) ∙ ap (λ z. step_in d (split_on 9 z)) q ∙ sym step_in_lem

  -- too few bytes for two letters and a tab
  pub step_few : length s < 3 → None ≡ read_step d s
  step_few l = rw (step_in_lem (omega arith)) (begins d s (λ q e. omega (arith, ap length e)) (λ x y q e. omega (arith, ap length e)))

-- two letters and a tab
pub step_two : (d : ℕ) (s : List ℕ) → length s < 63 → 3 ≤ length s → get_or s 2 0 ≡ 9 → (r : Option Step) → r ≡ on_word d (word_in step_words (take 2 s)) (parts_from 9 s 3) → r ≡ read_step d s
step_two d [] h l e r p = absurd (omega arith)
step_two d (x ∷ []) h l e r p = absurd (omega arith)
step_two d (x ∷ y ∷ []) h l e r p = absurd (omega arith)
step_two d (x ∷ y ∷ z ∷ t) h l e r p =
    rw (le-ltb _ _ l) at p ∙ sym (short d x y t) ∙ ap (λ c. step_in d (split_on 9 (x ∷ y ∷ c ∷ t))) (sym e) ∙ sym (step_in_lem d (x ∷ y ∷ z ∷ t) h)

-- a line with it
module _ (d : ℕ) (s : List ℕ) (e : ℕ) (f : e ≡ first_at s 0 10) where
  pub line_none : (e + 1 ≡ length s → ⊥) → None ≡ read_line d s
  unfolding read_line
  line_none h = rw (← f, ne_eqb _ _ h)

  pub line_one : e + 1 ≡ length s → (r : Option Step) → r ≡ read_step d (take e s) → r ≡ read_line d s
  unfolding read_line
  line_one h r p = let m : length s - 1 ≡ e = omega arith in rw (← f, eq-eqb _ _ h, m) p
