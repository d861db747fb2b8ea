-- Fields that are looked for at a place, each with the tab before it: where the first stands, the others are looked for behind it.
use Prim.Native.Nat.{ℕ, ◌+◌, ◌-◌, ◌≤◌, ◌<◌}
use mathlib.Core.Path.{◌≡◌, sym, ap, ◌∙◌}
use mathlib.Core.List.{List, [], ◌∷◌, ◌++◌, append-nil}
use native.Mathlib.Omega.{arith}
use native.Mathlib.Nat.{mod-eq_of_lt}
use lib.ListN.{length, get_or}
use borrow.Author.Tests.{lt-ltb, le-ltb, eq-eqb, ne_eqb}
use Rattle.text.specs.Digits.{pad}
use Rattle.text.specs.Number.{width_of, digits}
use Rattle.text.specs.Set.{set_text}
use Rattle.text.specs.Standing.{past}
use Rattle.text.proofs.Picks.{order}
use Rattle.text.proofs.Numbers.{width_within, width_bound, length_digits}
use Rattle.text.proofs.Standing.{past_append, past_within, past_short}
use Rattle.fields.specs.Forms.{a_set, form_text}
use Rattle.fields.specs.Fields.{fields_text}
use Rattle.fields.proofs.Forms.{set_long}
use Rattle.fields.proofs.Parts.{text_append}

-- a number below ten is written as its digit
pub one_digit : (v : ℕ) → v < 10 → digits v ≡ (48 + v) ∷ []
unfolding digits
one_digit v h =
    let w : width_of v ≡ 1 = omega (arith, width_within v, width_bound v 1 h (omega arith)) in
    rw (w, mod-eq_of_lt h, lt-ltb _ _ h)

-- a byte and others behind it
module _ (s : List ℕ) (at b : ℕ) (t : List ℕ) where
  -- another byte stands there, or none
  other_byte : (at < length s → get_or s at 0 ≡ b → ⊥) → length s ≡ past s at (b ∷ t)
  unfolding past
  other_byte h = order at (length s) (λ l. rw (lt-ltb _ _ l, ne_eqb _ _ (h l))) (λ l. rw (le-ltb _ _ l))

  -- the byte stands there
  pub same_byte : at < length s → get_or s at 0 ≡ b → past s at (b ∷ t) ≡ past s (at + 1) t
  unfolding past
  same_byte l h = rw (lt-ltb _ _ l, eq-eqb _ _ h)

-- a field: the tab, and a text
module _ (s : List ℕ) (at : ℕ) where
  -- fewer than two bytes are left: no number stands there, and no set
  pub number_few : (v : ℕ) → at ≤ length s → length s - at < 2 → length s ≡ past s at (9 ∷ digits v)
  number_few v l h = past_short s at (9 ∷ digits v) l (omega (arith, length_digits v, width_within v))

  pub set_few : (v : ℕ) → at ≤ length s → length s - at < 2 → length s ≡ past s at (9 ∷ form_text a_set v)
  set_few v l h = past_short s at (9 ∷ form_text a_set v) l (omega (arith, set_long v))

  -- no tab stands there
  pub no_tab : (t : List ℕ) → (get_or s at 0 ≡ 9 → ⊥) → length s ≡ past s at (9 ∷ t)
  no_tab t h = other_byte s at 9 t (λ l. h)

  -- a tab stands there
  module _ (h : 2 ≤ length s - at) (e : get_or s at 0 ≡ 9) where
    -- the text is looked for behind it
    pub behind_tab : (t : List ℕ) (r : ℕ) → r ≡ past s (at + 1) t → r ≡ past s at (9 ∷ t)
    behind_tab t r q = q ∙ sym (same_byte s at 9 t (omega arith) e)

    -- another byte than the one digit stands behind it
    pub other_digit : (v : ℕ) → v < 10 → (get_or s (at + 1) 0 ≡ 48 + v → ⊥) → length s ≡ past s at (9 ∷ digits v)
    other_digit v l q = behind_tab (digits v) (length s) (rw (one_digit v l) (other_byte s (at + 1) (48 + v) [] (λ k. q)))

    -- the one digit stands behind it
    pub same_digit : (v : ℕ) → v < 10 → get_or s (at + 1) 0 ≡ 48 + v → at + 2 ≡ past s at (9 ∷ digits v)
    unfolding past
    same_digit v l q =
        let m : at + 2 ≡ at + 1 + 1 = omega arith in
        behind_tab (digits v) (at + 2) (rw (one_digit v l) (m ∙ sym (same_byte s (at + 1) (48 + v) [] (omega arith) q)))

    -- the digits of a set stand behind it, or do not
    pub set_behind : (v r : ℕ) → r ≡ past s (at + 1) (pad 16 16 v) → r ≡ past s at (9 ∷ form_text a_set v)
    unfolding form_text set_text
    set_behind v r q = behind_tab (pad 16 16 v) r q

-- fields one after another
module _ (s : List ℕ) (at : ℕ) where
  -- the place behind any stands inside or is the end
  pub past_inside : (t : List ℕ) (r : ℕ) → r ≡ past s at t → at ≤ length s → r ≤ length s
  past_inside t r e h = rw e (past_within s at t h)

  -- the first, and the others behind it
  pub past_first : (f v : ℕ) (fs vs : List ℕ) (p r : ℕ) → p ≡ past s at (9 ∷ form_text f v) → r ≡ past s p (fields_text fs vs) → r ≡ past s at (fields_text (f ∷ fs) (v ∷ vs))
  unfolding fields_text
  past_first f v fs vs p r e h = rw e at h ∙ sym (past_append s at (9 ∷ form_text f v) (fields_text fs vs))

  -- the last
  pub past_last_lem : (f v r : ℕ) → r ≡ past s at (9 ∷ form_text f v) → r ≡ past s at (fields_text (f ∷ []) (v ∷ []))
  unfolding fields_text
  past_last_lem f v r e = rw append-nil e

  -- those of one description, and those of another behind them
  pub past_both : (fs vs gs ws : List ℕ) → length fs ≡ length vs → (p r : ℕ) → p ≡ past s at (fields_text fs vs) → r ≡ past s p (fields_text gs ws) → r ≡ past s at (fields_text (fs ++ gs) (vs ++ ws))
  past_both fs vs gs ws l p r e h = rw e at h ∙ sym (ap (past s at) (text_append fs vs gs ws l) ∙ past_append s at (fields_text fs vs) (fields_text gs ws))
