-- One field: what is written of a value reads back as it, and what reads as a value is what is written of it; and how long that is.
use Prim.Native.Nat.{ℕ, ◌≤◌, ◌<◌}
use mathlib.Core.Path.{◌≡◌, refl, sym, ap}
use mathlib.Core.List.{List}
use mathlib.Core.Bool.{true, false}
use native.Mathlib.Omega.{arith}
use lib.ListN.{length}
use lib.Dec.{eqb}
use borrow.Author.Tests.{lt-ltb, le-leb, ne_eqb, ltb-true, leb-true, eqb-true, eqb-false}
use Rattle.text.specs.Parts.{free}
use Rattle.text.specs.Digits.{value_of}
use Rattle.text.specs.Number.{read_number, digits}
use Rattle.text.specs.Words.{same_list}
use Rattle.text.specs.Fields.{most_digits, ether_value, ether_word}
use Rattle.text.proofs.Picks.{cases, order}
use Rattle.std.proofs.lemmas.Option.{none-some}
use Rattle.text.proofs.Numbers.{width_within, width_bound, length_digits, digits_free, read_digits, digits_read, number_below}
use Rattle.text.proofs.Words.{same_self, same_list_lem, word_read, word_written}
use Rattle.row.specs.Kinds.{kind_words, mode_words}
use Rattle.row.specs.declared.Form.{Form}
use Rattle.row.specs.declared.Form.TheVariants as form
use Rattle.row.specs.Row.{read_form, value_text, form_ok}
use Rattle.row.proofs.Tables.{free_high, word_free, word_within}
use Rattle.std.specs.Prelude.{Option, Some, None}

-- a number is read where it has at most ten digits
number_reads : (v : ℕ) → v < ether_value → read_number most_digits (digits v) ≡ Some v
number_reads v h = let w = width_bound v 10 h (omega arith) in read_digits 10 v w (omega arith)

-- no number has more than twenty digits
digits_within : (v : ℕ) → length (digits v) ≤ 20
digits_within v = rw length_digits (width_within v).1

-- no number is written `ether`
not_ether : (v : ℕ) → v < ether_value → same_list (digits v) ether_word ≡ false
unfolding read_number value_of ether_word
not_ether v h =
    cases (same_list (digits v) ether_word)
    (λ e. let u : read_number most_digits ether_word ≡ Some v = rw (same_list_lem (digits v) ether_word e) at (number_reads v h) in absurd (none-some _ u))
    (λ e. e)

-- what is written of a value that the form can say is read as it
pub value_reads : (f : Form) (v : ℕ) → form_ok (Some f) v ≡ true → read_form f (value_text f v) ≡ Some v
unfolding read_form form_ok kind_words mode_words
value_reads form.Number v h = number_reads v (ltb-true v ether_value h)
value_reads form.Kind v h = word_written kind_words v refl (ltb-true v 3 h)
value_reads form.Mode v h = word_written mode_words v refl (ltb-true v 2 h)
value_reads form.Target v h =
    let l = leb-true v ether_value h in
    cases (eqb v ether_value)
    (λ i. rw (i, same_self ether_word) (ap Some (sym (eqb-true _ _ i))))
    (λ i. let m : v < ether_value = order v ether_value (λ k. k) (λ k. absurd (eqb-false v ether_value i (omega arith))) in
    rw (i, not_ether v m, number_reads v m))

-- what is read as a value is what is written of it, and the form can say it
pub value_read : (f : Form) (v : ℕ) (p : List ℕ) → read_form f p ≡ Some v → (value_text f v ≡ p) × (form_ok (Some f) v ≡ true)
unfolding read_form form_ok kind_words mode_words
value_read form.Number v p u = ((digits_read 10 p v u).0, lt-ltb _ _ (number_below 10 p v u))
value_read form.Kind v p u = let w = word_read kind_words p v u in (w.0, lt-ltb _ _ w.1)
value_read form.Mode v p u = let w = word_read mode_words p v u in (w.0, lt-ltb _ _ w.1)
value_read form.Target v p u =
    cases (same_list p ether_word)
    (λ i.
    let t : Some ether_value ≡ Some v = rw i at u in
    let q : v ≡ ether_value = cc in
    rw q (sym (same_list_lem _ _ i), refl))
    (λ i.
    let n : read_number 10 p ≡ Some v = rw i at u in
    let l : v < ether_value = number_below 10 p v n in
    let o : v ≡ ether_value → ⊥ = λ q. omega arith in
    let m : v ≤ ether_value = omega arith in
    rw (ne_eqb _ _ o, le-leb _ _ m) ((digits_read 10 p v n).0, refl))

-- no tab and no newline stands in it
pub value_free : (c : ℕ) (f : Form) (v : ℕ) → c < 48 → free c (value_text f v) ≡ true
unfolding kind_words mode_words ether_word
value_free c form.Number v h = digits_free c v h
value_free c form.Kind v h = word_free c kind_words v h refl
value_free c form.Mode v h = word_free c mode_words v h refl
value_free c form.Target v h = cases (eqb v ether_value) (λ i. rw i (free_high c ether_word h refl)) (λ i. rw i (digits_free c v h))

-- no value is longer than twenty
pub value_within : (f : Form) (v : ℕ) → length (value_text f v) ≤ 20
unfolding kind_words mode_words ether_word
value_within form.Number v = digits_within v
value_within form.Kind v = omega (arith, word_within 5 kind_words v refl)
value_within form.Mode v = omega (arith, word_within 5 mode_words v refl)
value_within form.Target v = cases (eqb v ether_value) (λ i. rw i (omega arith)) (λ i. rw i (digits_within v))

-- no value that a form can say is above `ether`
pub value_most : (f : Option Form) (v : ℕ) → form_ok f v ≡ true → v ≤ ether_value
unfolding form_ok
value_most None v h = let q = eqb-true v 0 h in omega arith
value_most (Some form.Number) v h = let q = ltb-true v ether_value h in omega arith
value_most (Some form.Kind) v h = let q = ltb-true v 3 h in omega arith
value_most (Some form.Mode) v h = let q = ltb-true v 2 h in omega arith
value_most (Some form.Target) v h = leb-true v ether_value h
