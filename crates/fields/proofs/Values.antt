-- What a field of a form says, and how its value is written: one law for each exit over what the calls ensure.
use Prim.Native.Nat.{ℕ}
use mathlib.Core.Path.{◌≡◌, sym, ◌∙◌}
use mathlib.Core.List.{List}
use mathlib.Core.Bool.{Bool, true, false}
use borrow.Author.Tests.{eq-eqb, ne_eqb}
use Rattle.std.specs.Prelude.{Option, Some}
use Rattle.text.specs.Number.{read_number, digits}
use Rattle.text.specs.Set.{read_set, set_text}
use Rattle.text.specs.Words.{same_list}
use Rattle.text.specs.Fields.{ether_word}
use Rattle.text.specs.Put.{Put}
use Rattle.text.specs.declared.Set.{Set}
use Rattle.logs.specs.Lines.{set_digits}
use Rattle.fields.specs.Forms.{a_yes, a_holder, a_set, a_place, most_digits, no_number, manager_word, word_or, yes_of, set_of, read_form, word_text, form_text}

-- a word or a number
module _ (word p : List ℕ) (b : Bool) (e : b ≡ same_list p word) where
  -- it is the word
  pub word_same : b ≡ true → Some no_number ≡ word_or word p
  unfolding word_or
  word_same y = let t = sym e ∙ y in rw t

  -- it is a number, or bad form
  pub word_other : b ≡ false → (n : Option ℕ) → n ≡ read_number most_digits p → n ≡ word_or word p
  unfolding word_or
  word_other y n q = let t = sym e ∙ y in rw t q

-- what a field of a form says
module _ (form : ℕ) (p : List ℕ) (n : Option ℕ) where
  -- who holds
  pub read_holder : form ≡ a_holder → n ≡ word_or manager_word p → n ≡ read_form form p
  unfolding read_form
  read_holder a e = rw a e

  -- where an activity is
  pub read_place : form ≡ a_place → n ≡ word_or ether_word p → n ≡ read_form form p
  unfolding read_form
  read_place a e = rw a e

  -- a set
  pub read_set_lem : form ≡ a_set → (f : Option Set) → f ≡ read_set set_digits p → n ≡ set_of f → n ≡ read_form form p
  unfolding read_form
  read_set_lem a f q e = rw a (rw q at e)

  -- yes or no
  pub read_yes : form ≡ a_yes → (m : Option ℕ) → m ≡ read_number 1 p → n ≡ yes_of m → n ≡ read_form form p
  unfolding read_form
  read_yes a m q e = rw a (rw q at e)

  -- a number
  pub read_number_lem : (form ≡ a_holder → ⊥) → (form ≡ a_place → ⊥) → (form ≡ a_set → ⊥) → (form ≡ a_yes → ⊥) → n ≡ read_number most_digits p → n ≡ read_form form p
  unfolding read_form
  read_number_lem a b c d e = rw (ne_eqb _ _ a, ne_eqb _ _ b, ne_eqb _ _ c, ne_eqb _ _ d) e

-- how a value is written
module _ (buf : List ℕ) (at v r : ℕ) (after : List ℕ) where
  -- as the word
  pub word_put : (word : List ℕ) → v ≡ no_number → Put buf at word r after → Put buf at (word_text word v) r after
  unfolding word_text
  word_put word e z = rw (eq-eqb _ _ e) z

  -- as a number
  pub number_put : (word : List ℕ) → (v ≡ no_number → ⊥) → Put buf at (digits v) r after → Put buf at (word_text word v) r after
  unfolding word_text
  number_put word e z = rw (ne_eqb _ _ e) z

  module _ (form : ℕ) where
    -- who holds
    pub put_holder : form ≡ a_holder → Put buf at (word_text manager_word v) r after → Put buf at (form_text form v) r after
    unfolding form_text
    put_holder a z = rw a z

    -- where an activity is
    pub put_place : form ≡ a_place → Put buf at (word_text ether_word v) r after → Put buf at (form_text form v) r after
    unfolding form_text
    put_place a z = rw a z

    -- a set
    pub put_set : form ≡ a_set → Put buf at (set_text set_digits (record { low = v; high = 0 })) r after → Put buf at (form_text form v) r after
    unfolding form_text
    put_set a z = rw a z

    -- any other
    pub put_number : (form ≡ a_holder → ⊥) → (form ≡ a_place → ⊥) → (form ≡ a_set → ⊥) → Put buf at (digits v) r after → Put buf at (form_text form v) r after
    unfolding form_text
    put_number a b c z = rw (ne_eqb _ _ a, ne_eqb _ _ b, ne_eqb _ _ c) z
