-- One field of a `state` row: what is written of a value reads back as it, and what reads as a value is what is written of it; and how long that is.
use Prim.Native.Nat.{ℕ, ◌^◌, ◌≤◌, ◌<◌}
use mathlib.Core.Path.{◌≡◌, refl, sym, ap}
use mathlib.Core.List.{List, [], ◌∷◌}
use mathlib.Core.Bool.{Bool, true, false}
use native.Mathlib.Omega.{arith}
use lib.ListN.{length}
use lib.Dec.{ltb, leb, eqb}
use borrow.Author.Tests.{lt-ltb, le-leb, ne_eqb, ltb-true, leb-true, eqb-true, eqb-false}
use Rattle.std.specs.Prelude.{Option, Some, None}
use Rattle.text.specs.declared.Set.{Set}
use Rattle.text.specs.Parts.{pick, free}
use Rattle.text.specs.Digits.{value_of}
use Rattle.text.specs.Number.{read_number, digits}
use Rattle.text.specs.Set.{read_set, set_text}
use Rattle.text.specs.Words.{same_list}
use Rattle.text.specs.Fields.{ether_word}
use Rattle.text.proofs.Picks.{cases, order, picked, false_true}
use Rattle.text.proofs.Digits.{bad_is}
use Rattle.text.proofs.Numbers.{width_within, width_bound, length_digits, digits_short, digits_free, read_digits, digits_read, number_below}
use Rattle.text.proofs.Sets.{length_set_text, set_text_free, read_set_text, set_text_read}
use Rattle.text.proofs.Words.{same_self, same_list_lem}
use Rattle.logs.specs.Lines.{set_digits}
use Rattle.fields.specs.Forms.{a_yes, a_holder, a_set, a_place, most_digits, no_number, manager_word, word_or, yes_of, set_of, read_form, word_text, form_text, form_ok}

-- a number of at most 13 digits is read as it is written
number_reads : (v : ℕ) → v < no_number → read_number most_digits (digits v) ≡ Some v
number_reads v h = let w = width_bound v 13 h (omega arith) in read_digits 13 v w (omega arith)

-- `manager` and `ether`: a word that is no number stands for the value above every number
module _ (word : List ℕ) where
  -- no number is written as that word
  not_word : read_number most_digits word ≡ None → (v : ℕ) → v < no_number → same_list (digits v) word ≡ false
  not_word bad v h =
      cases (same_list (digits v) word)
      (λ e. let u : read_number most_digits word ≡ Some v = rw (same_list_lem (digits v) word e) at (number_reads v h) in absurd (bad_is (rw bad at u)))
      (λ e. e)

  -- what is written is read as the value
  word_reads : read_number most_digits word ≡ None → (v : ℕ) → leb v no_number ≡ true → word_or word (word_text word v) ≡ Some v
  unfolding word_or word_text
  word_reads bad v h =
      let l = leb-true v no_number h in
      cases (eqb v no_number)
      (λ e. rw (e, same_self word) (ap Some (sym (eqb-true _ _ e))))
      (λ e.
      let m : v < no_number = order v no_number (λ k. k) (λ k. absurd (eqb-false v no_number e (omega arith))) in
      rw (e, not_word bad v m, number_reads v m))

  -- what is read is written so
  word_read : (p : List ℕ) (v : ℕ) → word_or word p ≡ Some v → (word_text word v ≡ p) × (leb v no_number ≡ true)
  unfolding word_or word_text
  word_read p v u =
      cases (same_list p word)
      (λ e.
      let t : Some no_number ≡ Some v = rw e at u in
      let q : v ≡ no_number = cc in
      rw q (sym (same_list_lem _ _ e), refl))
      (λ e.
      let n : read_number most_digits p ≡ Some v = rw e at u in
      let l : v < no_number = number_below 13 p v n in
      let o : v ≡ no_number → ⊥ = λ q. omega arith in
      let m : v ≤ no_number = omega arith in
      rw (ne_eqb _ _ o, le-leb _ _ m) ((digits_read 13 p v n).0, refl))

  -- what is written is no longer than a number of 13 digits
  word_short : (v : ℕ) → length word ≤ 13 → leb v no_number ≡ true → length (word_text word v) ≤ 13
  unfolding word_text
  word_short v w h =
      let l = leb-true v no_number h in
      cases (eqb v no_number) (λ e. rw e w)
      (λ e.
      let m : v < no_number = order v no_number (λ k. k) (λ k. absurd (eqb-false v no_number e (omega arith))) in
      rw e (digits_short v 13 m (omega arith)))

  -- and not empty
  word_long : (v : ℕ) → 1 ≤ length word → 1 ≤ length (word_text word v)
  unfolding word_text
  word_long v w = cases (eqb v no_number) (λ e. rw e w) (λ e. rw (e, length_digits v) (width_within v).0)

  -- no byte stands in it that stands in no number and not in the word
  word_free : (c v : ℕ) → c < 48 → free c word ≡ true → free c (word_text word v) ≡ true
  unfolding word_text
  word_free c v h w = cases (eqb v no_number) (λ e. rw e w) (λ e. rw e (digits_free c v h))

-- a set of sixteen digits, whose high half is empty, is read as it is written
set_reads : (v : ℕ) → v < 2 ^ 64 → set_of (read_set set_digits (set_text set_digits (record { low = v; high = 0 }))) ≡ Some v
set_reads v h = rw (read_set_text 16 (record { low = v; high = 0 }) (omega arith) (h, omega arith))

-- and what is read is written so
set_read : (p : List ℕ) (v : ℕ) → set_of (read_set set_digits p) ≡ Some v → (set_text set_digits (record { low = v; high = 0 }) ≡ p) × (ltb v (2 ^ 64) ≡ true)
unfolding set_text
set_read p v u = go (read_set set_digits p) refl u
  where
    go : (f : Option Set) → read_set set_digits p ≡ f → set_of f ≡ Some v → (set_text set_digits (record { low = v; high = 0 }) ≡ p) × (ltb v (2 ^ 64) ≡ true)
    go (Some n) e u =
        let t = set_text_read 16 p n e in
        let q : n.low ≡ v = cc in
        let l : v < 2 ^ 64 = rw q at t.1.0 in
        (rw q at t.0, lt-ltb _ _ l)
    go None e u = absurd (bad_is u)

-- "yes as 1": 0 and 1 are read as they are written
yes_reads : (v : ℕ) → v < 2 → yes_of (read_number 1 (digits v)) ≡ Some v
yes_reads v h = let w = width_bound v 1 (omega arith) (omega arith) in rw (read_digits 1 v w (omega arith), lt-ltb _ _ h)

-- and what is read is written so
yes_read : (p : List ℕ) (v : ℕ) → yes_of (read_number 1 p) ≡ Some v → (digits v ≡ p) × (ltb v 2 ≡ true)
yes_read p v u = go (read_number 1 p) refl u
  where
    go : (n : Option ℕ) → read_number 1 p ≡ n → yes_of n ≡ Some v → (digits v ≡ p) × (ltb v 2 ≡ true)
    go (Some w) e u =
        let t = picked (ltb w 2) bad_is u in
        let s = t.1 in
        let q : w ≡ v = cc in
        ((digits_read 1 p v (rw q at e)).0, rw q at t.0)
    go None e u = absurd (bad_is u)

-- what is written of a value that the form can say is read as it
pub form_reads : (form v : ℕ) → form_ok form v ≡ true → read_form form (form_text form v) ≡ Some v
unfolding read_form form_text form_ok read_number value_of manager_word ether_word
form_reads form v h =
    cases (eqb form a_holder) (λ a. rw a (word_reads manager_word refl v (rw a at h)))
    (λ a. cases (eqb form a_place) (λ b. rw (a, b) (word_reads ether_word refl v (rw (a, b) at h)))
    (λ b. cases (eqb form a_set) (λ c. rw (a, b, c) (set_reads v (ltb-true v _ (rw (a, b, c) at h))))
    (λ c. cases (eqb form a_yes) (λ d. rw (a, b, c, d) (yes_reads v (ltb-true v 2 (rw (a, b, c, d) at h))))
    (λ d. rw (a, b, c, d) (number_reads v (ltb-true v no_number (rw (a, b, c, d) at h)))))))

-- what is read as a value is what is written of it, and the form can say it
pub form_read : (form v : ℕ) (p : List ℕ) → read_form form p ≡ Some v → (form_text form v ≡ p) × (form_ok form v ≡ true)
unfolding read_form form_text form_ok
form_read form v p u =
    cases (eqb form a_holder) (λ a. rw a (word_read manager_word p v (rw a at u)))
    (λ a. cases (eqb form a_place) (λ b. rw (a, b) (word_read ether_word p v (rw (a, b) at u)))
    (λ b. cases (eqb form a_set) (λ c. rw (a, b, c) (set_read p v (rw (a, b, c) at u)))
    (λ c. cases (eqb form a_yes) (λ d. rw (a, b, c, d) (yes_read p v (rw (a, b, c, d) at u)))
    (λ d.
    let n : read_number 13 p ≡ Some v = rw (a, b, c, d) at u in
    rw (a, b, c, d) ((digits_read 13 p v n).0, lt-ltb _ _ (number_below 13 p v n))))))

-- no byte stands below the digits
abbrev high : List ℕ → Bool
high [] = true
high (b ∷ bs) = pick (leb 48 b) (high bs) false

-- so none below them stands in it
high_free : (c : ℕ) (w : List ℕ) → c < 48 → high w ≡ true → free c w ≡ true
high_free c [] l h = refl
high_free c (b ∷ bs) l h =
    let t = picked (leb 48 b) false_true h in
    let k = leb-true 48 b t.0 in
    let n : b ≡ c → ⊥ = λ e. omega arith in
    rw (ne_eqb _ _ n) (high_free c bs l t.1)

-- no tab and no newline stands in what is written
pub form_free : (c form v : ℕ) → c < 48 → free c (form_text form v) ≡ true
unfolding form_text manager_word ether_word
form_free c form v h =
    cases (eqb form a_holder) (λ a. rw a (word_free manager_word c v h (high_free c manager_word h refl)))
    (λ a. cases (eqb form a_place) (λ b. rw (a, b) (word_free ether_word c v h (high_free c ether_word h refl)))
    (λ b. cases (eqb form a_set) (λ d. rw (a, b, d) (set_text_free c set_digits _ h)) (λ d. rw (a, b, d) (digits_free c v h))))

-- how long a value of a form is at most
abbrev pub form_width : ℕ → ℕ
form_width form = pick (eqb form a_set) 16 (pick (eqb form a_yes) 1 13)

-- a value that the form can say is not longer
pub form_short : (form v : ℕ) → form_ok form v ≡ true → length (form_text form v) ≤ form_width form
unfolding form_text form_ok manager_word ether_word
form_short form v h =
    cases (eqb form a_holder) (λ a. let e = eqb-true form a_holder a in rw e (word_short manager_word v (omega arith) (rw e at h)))
    (λ a. cases (eqb form a_place) (λ b. let e = eqb-true form a_place b in rw e (word_short ether_word v (omega arith) (rw e at h)))
    (λ b. cases (eqb form a_set) (λ c. rw (a, b, c, length_set_text) (omega arith))
    (λ c. cases (eqb form a_yes) (λ d. rw (a, b, c, d) (let k = ltb-true v 2 (rw (a, b, c, d) at h) in digits_short v 1 (omega arith) (omega arith)))
    (λ d. rw (a, b, c, d) (digits_short v 13 (ltb-true v no_number (rw (a, b, c, d) at h)) (omega arith))))))

-- no value is written as nothing
pub form_long : (form v : ℕ) → 1 ≤ length (form_text form v)
unfolding form_text manager_word ether_word
form_long form v =
    cases (eqb form a_holder) (λ a. rw a (word_long manager_word v (omega arith)))
    (λ a. cases (eqb form a_place) (λ b. rw (a, b) (word_long ether_word v (omega arith)))
    (λ b. cases (eqb form a_set) (λ c. rw (a, b, c, length_set_text) (omega arith))
    (λ c. rw (a, b, c, length_digits v) (width_within v).0)))

-- a set has its sixteen digits
pub set_long : (v : ℕ) → length (form_text a_set v) ≡ 16
unfolding form_text
set_long v = length_set_text 16 _
