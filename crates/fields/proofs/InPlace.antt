-- Fields read in place, each with the tab before it: nothing, one digit, digits one after another, a word, a set.
use Prim.Native.Nat.{ℕ, zero, suc, ◌+◌, ◌-◌, ◌*◌, ◌^◌, ◌≤◌, ◌<◌}
use mathlib.Core.Path.{◌≡◌, refl, sym, ap, subst, subst⁻¹, ◌∙◌}
use mathlib.Core.List.{List, [], ◌∷◌, ◌++◌, append-nil}
use mathlib.Core.Bool.{true, false}
use mathlib.Core.Logic.{⊎_elim}
use native.Mathlib.Omega.{arith}
use native.Mathlib.Numerals.{add-one}
use lib.Dec.{ltb, leb, eqb}
use lib.ListN.{length, get_or, take, drop, length-append, drop_of_length-le, get_or-append}
use lib.Seq.{drop-cons}
use borrow.Author.Tests.{lt-ltb, le-ltb, le-leb, lt-leb, leb-true, eq-eqb, ne_eqb, ltb-true, eqb-true, eqb-false}
use Rattle.std.specs.Char.{IsNotAsciiDigit}
use Rattle.std.specs.Prelude.{Option, Some, None}
use Rattle.text.specs.Parts.{pick}
use Rattle.text.specs.Digits.{value_of, scan, pad}
use Rattle.text.specs.Number.{read_number, width_of, digits}
use Rattle.text.specs.Set.{read_set, empty_set}
use Rattle.text.specs.Standing.{is_at, past}
use Rattle.text.specs.declared.Set.{Set}
use Rattle.text.proofs.Picks.{cases, order, passed, false_true}
use Rattle.text.proofs.Digits.{bad_is, value_decimal, scan_append}
use Rattle.text.proofs.Numbers.{width_within, width_bound, length_digits, read_digits, digits_read, number_below}
use Rattle.text.proofs.Standing.{past_append, past_within}
use Rattle.logs.specs.Lines.{set_digits}
use Rattle.fields.specs.Forms.{a_number, a_set, no_number, read_form, form_text, form_ok}
use Rattle.fields.specs.Fields.{fields_text}
use Rattle.fields.specs.Reading.{stood, nothing, is_digit, spelled, number_at, yes_at, word_at, set_by, set_at, Reads}
use Rattle.fields.specs.declared.Stood.{Stood}
use Rattle.fields.proofs.Forms.{form_read}
use Rattle.fields.proofs.Standing.{one_digit, same_byte, same_digit}

-- nothing was read, whatever was looked for
none_read : (s : List ℕ) (at : ℕ) (t : List ℕ) → Reads s at t (length s)
none_read s at t = record { inside = omega arith; stands = λ h. absurd (omega arith) }

-- a text that stands at a place is read up to where it ends
pub stands_read : {s : List ℕ} {at : ℕ} {t : List ℕ} {r : ℕ} → at ≤ length s → r ≡ past s at t → Reads s at t r
stands_read {s} {at} {t} h e = record { inside = rw e (past_within s at t h); stands = λ l. sym e }

-- a number's digits and one more behind them
module _ (v d : ℕ) (some : 0 < v) (ten : d < 10) (most : v * 10 + d < no_number) where
  abbrev longer : List ℕ
  longer = digits v ++ (48 + d) ∷ []

  wide : (1 ≤ width_of v) × (width_of v ≤ 12)
  wide = ((width_within v).0, width_bound v 12 (omega arith) (omega arith))

  long : length longer ≡ width_of v + 1
  long = length-append (digits v) ((48 + d) ∷ []) ∙ rw (length_digits v)

  -- the digits are read, and the first is no zero
  few : read_number 13 (digits v) ≡ Some v
  few = read_digits 13 v (omega (arith, wide.1)) (omega (arith, wide.1))

  scanned : (scan 10 0 (digits v) ≡ Some v) × (get_or (digits v) 0 0 ≡ 48 → ⊥)
  unfolding read_number
  scanned =
      let a = passed (eqb (length (digits v)) 0) bad_is few in
      let b = passed (ltb 13 (length (digits v))) bad_is a.1 in
      let c = passed (ltb 19 (length (digits v))) bad_is b.1 in
      cases (eqb (length (digits v)) 1)
      (λ o.
      let w : width_of v ≡ 1 = sym (length_digits v) ∙ eqb-true _ 1 o in
      let below : v < 10 = order v 10 (λ m. m) (λ m. absurd (narrow m w)) in
      (rw o at c.1, λ z. let g : 48 + v ≡ 48 = sym (ap (λ l. get_or l 0 0) (one_digit v below)) ∙ z in omega arith))
      (λ o. let g = passed (eqb (get_or (digits v) 0 0) 48) bad_is (rw o at c.1) in (g.1, eqb-false _ 48 g.0))
    where
      -- a number from ten on has more than one digit
      narrow : 10 ≤ v → width_of v ≡ 1 → ⊥
      narrow m w = absurd (omega (arith, number_below 1 (digits v) v (read_digits 1 v (omega arith) (omega arith))))

  digits_more : digits (v * 10 + d) ≡ longer
  unfolding read_number
  digits_more =
      let n0 : length longer ≡ 0 → ⊥ = λ q. omega (arith, long) in
      let n1 : length longer ≡ 1 → ⊥ = λ q. omega (arith, long, wide.0) in
      let m13 : length longer ≤ 13 = omega (arith, long, wide.1) in
      let m19 : length longer ≤ 19 = omega (arith, long, wide.1) in
      let f : get_or longer 0 0 ≡ get_or (digits v) 0 0 = get_or-append (digits v) ((48 + d) ∷ []) 0 0 (omega (arith, length_digits v, wide.0)) in
      let n48 : get_or longer 0 0 ≡ 48 → ⊥ = λ q. scanned.1 (sym f ∙ q) in
      let g : 48 + d - 48 ≡ d = omega arith in
      let u : scan 10 0 longer ≡ Some (v * 10 + d) = scan_append 10 0 v (digits v) ((48 + d) ∷ []) scanned.0 ∙ rw (value_decimal (48 + d) (omega arith) (omega arith), g, lt-ltb d 10 ten) in
      let r : read_number 13 longer ≡ Some (v * 10 + d) = rw (ne_eqb _ _ n0, le-ltb _ _ m13, le-ltb _ _ m19, ne_eqb _ _ n1, ne_eqb _ _ n48) u in
      (digits_read 13 longer (v * 10 + d) r).0

-- digits read one after another, up to a place
record Spelt (s : List ℕ) (at v i : ℕ) : Type 0 where
  inside : i ≤ length s
  some : 0 < v
  below : v < no_number
  stands : i ≡ past s at (9 ∷ digits v)

spelt_one : (s : List ℕ) (at : ℕ) → 2 ≤ length s - at → get_or s at 0 ≡ 9 → 48 ≤ get_or s (at + 1) 0 → get_or s (at + 1) 0 ≤ 57 → (get_or s (at + 1) 0 - 48 ≡ 0 → ⊥) → Spelt s at (get_or s (at + 1) 0 - 48) (at + 2)
spelt_one s at h e l m n = record {
  inside = omega arith;
  some = omega (arith, n);
  below = omega arith;
  stands = same_digit s at h e (get_or s (at + 1) 0 - 48) (omega arith) (omega arith);
}

module _ {s : List ℕ} {at v i : ℕ} (W : Spelt s at v i) where
  spelt_more : i < length s → 48 ≤ get_or s i 0 → get_or s i 0 ≤ 57 → v * 10 + (get_or s i 0 - 48) < no_number → Spelt s at (v * 10 + (get_or s i 0 - 48)) (i + 1)
  unfolding past
  spelt_more h k l m =
      let d = get_or s i 0 - 48 in
      let q : get_or s i 0 ≡ 48 + d = omega arith in
      record {
        inside = omega arith;
        some = omega (arith, W.some);
        below = m;
        stands = sym (ap (λ t. past s at (9 ∷ t)) (digits_more v d W.some (omega arith) m) ∙ past_append s at (9 ∷ digits v) ((48 + d) ∷ []) ∙ rw (← W.stands) (same_byte s i (48 + d) [] h q));
      }

  spelt_read : at ≤ length s → Reads s at (9 ∷ digits v) i
  spelt_read h = stands_read h W.stands

-- which bytes are digits
is_digit_lem : (b : ℕ) → 48 ≤ b → b ≤ 57 → is_digit b ≡ true
is_digit_lem b h l = let m : b < 58 = omega arith in rw (le-ltb b 48 h, lt-ltb b 58 m)

below_digit : (b : ℕ) → b < 48 → is_digit b ≡ false
below_digit b h = rw (lt-ltb b 48 h)

above_digit : (b : ℕ) → 57 < b → is_digit b ≡ false
above_digit b h = let l : 48 ≤ b = omega arith in let m : 58 ≤ b = omega arith in rw (le-ltb b 48 l, le-ltb b 58 m)

-- A number: each answer of the code is the one that the definition names.
module _ (s : List ℕ) (at : ℕ) where
  abbrev first : ℕ
  first = get_or s (at + 1) 0

  pub number_few : at ≤ length s → length s - at < 2 → nothing s ≡ number_at s at
  unfolding number_at
  number_few l h = let n : length s ≤ at + 1 = omega arith in cases (is_at s at 9) (λ y. rw (y, le-ltb _ _ n)) (λ y. rw y)

  pub number_other : 2 ≤ length s - at → (get_or s at 0 ≡ 9 → ⊥) → nothing s ≡ number_at s at
  unfolding number_at
  number_other h n = let l : at < length s = omega arith in rw (lt-ltb _ _ l, ne_eqb _ _ n)

  module _ (h : 2 ≤ length s - at) (e : get_or s at 0 ≡ 9) where
    inside : (ltb at (length s) ≡ true) × (ltb (at + 1) (length s) ≡ true)
    inside = (lt-ltb at (length s) (omega arith), lt-ltb (at + 1) (length s) (omega arith))

    number_low : first < 48 → nothing s ≡ number_at s at
    unfolding number_at
    number_low l = rw (inside.0, inside.1, eq-eqb _ _ e, lt-ltb first 48 l)

    number_high : 57 < first → nothing s ≡ number_at s at
    unfolding number_at
    number_high l = let a : 48 ≤ first = omega arith in let b : 58 ≤ first = omega arith in rw (inside.0, inside.1, eq-eqb _ _ e, le-ltb first 48 a, le-ltb first 58 b)

    pub number_letter : IsNotAsciiDigit first → nothing s ≡ number_at s at
    number_letter = ⊎_elim number_low number_high

    module _ (a : 48 ≤ first) (b : first ≤ 57) where
      pub number_zero : first - 48 ≡ 0 → stood 0 (at + 2) ≡ number_at s at
      unfolding number_at
      number_zero z = let q : first ≡ 48 = omega arith in rw (inside.0, inside.1, eq-eqb _ _ e, is_digit_lem first a b, eq-eqb first 48 q)

      number_digits : (first - 48 ≡ 0 → ⊥) → spelled (first - 48) (at + 2) (drop (at + 2) s) ≡ number_at s at
      unfolding number_at
      number_digits z = let q : first ≡ 48 → ⊥ = λ q. z (omega arith) in rw (inside.0, inside.1, eq-eqb _ _ e, is_digit_lem first a b, ne_eqb first 48 q)

-- the digits up to a place are spelled, and those behind it are left
pub record Spelling (s : List ℕ) (at v i : ℕ) : Type 0 where
  pub inside : i ≤ length s
  pub below : v < no_number
  pub same : spelled v i (drop i s) ≡ number_at s at

pub spelling_one : (s : List ℕ) (at : ℕ) → 2 ≤ length s - at → get_or s at 0 ≡ 9 → 48 ≤ get_or s (at + 1) 0 → get_or s (at + 1) 0 ≤ 57 → (get_or s (at + 1) 0 - 48 ≡ 0 → ⊥) → Spelling s at (get_or s (at + 1) 0 - 48) (at + 2)
spelling_one s at h e a b z = record { inside = omega arith; below = omega arith; same = number_digits s at h e a b z }

-- one more byte
module _ (s : List ℕ) (i v : ℕ) (h : i < length s) where
  spelled_none : is_digit (get_or s i 0) ≡ false → spelled v i (drop i s) ≡ stood v i
  unfolding spelled
  spelled_none d = rw (drop-cons s i 0 h, d)

  spelled_over : is_digit (get_or s i 0) ≡ true → no_number ≤ v * 10 + (get_or s i 0 - 48) → spelled v i (drop i s) ≡ stood v i
  unfolding spelled
  spelled_over d o = rw (drop-cons s i 0 h, d, le-ltb _ no_number o)

  spelled_more : is_digit (get_or s i 0) ≡ true → v * 10 + (get_or s i 0 - 48) < no_number → spelled v i (drop i s) ≡ spelled (v * 10 + (get_or s i 0 - 48)) (i + 1) (drop (i + 1) s)
  unfolding spelled
  spelled_more d o = rw (drop-cons s i 0 h, d, lt-ltb _ no_number o, add-one i)

module _ {s : List ℕ} {at v i : ℕ} (W : Spelling s at v i) where
  pub spelling_end : length s ≤ i → stood v i ≡ number_at s at
  unfolding spelled
  spelling_end h = rw (drop_of_length-le s h) at W.same

  module _ (h : i < length s) where
    spelling_low : get_or s i 0 < 48 → stood v i ≡ number_at s at
    spelling_low l = sym (spelled_none s i v h (below_digit _ l)) ∙ W.same

    spelling_high : 57 < get_or s i 0 → stood v i ≡ number_at s at
    spelling_high l = sym (spelled_none s i v h (above_digit _ l)) ∙ W.same

    pub spelling_letter : IsNotAsciiDigit (get_or s i 0) → stood v i ≡ number_at s at
    spelling_letter = ⊎_elim spelling_low spelling_high

    module _ (a : 48 ≤ get_or s i 0) (b : get_or s i 0 ≤ 57) where
      pub spelling_over : no_number ≤ v * 10 + (get_or s i 0 - 48) → stood v i ≡ number_at s at
      spelling_over o = sym (spelled_over s i v h (is_digit_lem _ a b) o) ∙ W.same

      pub spelling_more : v * 10 + (get_or s i 0 - 48) < no_number → Spelling s at (v * 10 + (get_or s i 0 - 48)) (i + 1)
      spelling_more m = record { inside = omega arith; below = m; same = sym (spelled_more s i v h (is_digit_lem _ a b) m) ∙ W.same }

-- what is read as a number stands there
module _ (s : List ℕ) (at : ℕ) (l : at ≤ length s) where
  abbrev IsRead : Stood → Type 0
  IsRead r = Reads s at (9 ∷ digits r.value) r.end × (r.value < no_number)

  spelled_read : (n i v : ℕ) → n ≡ length s - i → Spelt s at v i → IsRead (spelled v i (drop i s))
  unfolding spelled
  spelled_read zero i v e W = let h : length s ≤ i = omega arith in rw (drop_of_length-le s h) (spelt_read W l, W.below)
  spelled_read (suc n) i v e W =
      let h : i < length s = omega arith in
      let stops : spelled v i (drop i s) ≡ stood v i → IsRead (spelled v i (drop i s)) = λ q. subst⁻¹ IsRead q (spelt_read W l, W.below) in
      cases (is_digit (get_or s i 0))
      (λ d.
      let q = digit_is (get_or s i 0) d in
      order (v * 10 + (get_or s i 0 - 48)) no_number
      (λ m. subst⁻¹ IsRead (spelled_more s i v h d m) (spelled_read n (i + 1) (v * 10 + (get_or s i 0 - 48)) (omega arith) (spelt_more W h q.0 q.1 m)))
      (λ m. stops (spelled_over s i v h d m)))
      (λ d. stops (spelled_none s i v h d))
    where
      digit_is : (b : ℕ) → is_digit b ≡ true → (48 ≤ b) × (b ≤ 57)
      digit_is b d = order b 48 (λ k. absurd (false_true (sym (below_digit b k) ∙ d))) (λ k. order 57 b (λ m. absurd (false_true (sym (above_digit b m) ∙ d))) (λ m. (k, m)))

  number_none : nothing s ≡ number_at s at → IsRead (number_at s at)
  number_none q = subst IsRead q (none_read s at _, omega arith)

  pub number_is : IsRead (number_at s at)
  number_is =
      order (length s - at) 2 (λ h. number_none (number_few s at l h))
      (λ h. cases (eqb (get_or s at 0) 9)
      (λ y.
      let e = eqb-true _ 9 y in
      order (get_or s (at + 1) 0) 48 (λ a. number_none (number_low s at h e a))
      (λ a. order 57 (get_or s (at + 1) 0) (λ b. number_none (number_high s at h e b))
      (λ b. cases (eqb (get_or s (at + 1) 0 - 48) 0)
      (λ z. let q = eqb-true _ 0 z in subst IsRead (number_zero s at h e a b q) (stands_read l (same_digit s at h e 0 (omega arith) (omega arith)), omega arith))
      (λ z. let q = eqb-false _ 0 z in subst IsRead (number_digits s at h e a b q) (spelled_read _ (at + 2) _ refl (spelt_one s at h e a b q))))))
      (λ y. number_none (number_other s at h (eqb-false _ 9 y))))

-- 0 or 1
module _ (s : List ℕ) (at : ℕ) where
  pub yes_few : at ≤ length s → length s - at < 2 → nothing s ≡ yes_at s at
  unfolding yes_at
  yes_few l h = let n : length s ≤ at + 1 = omega arith in cases (is_at s at 9) (λ y. rw (y, le-ltb _ _ n)) (λ y. rw y)

  pub yes_other : 2 ≤ length s - at → (get_or s at 0 ≡ 9 → ⊥) → nothing s ≡ yes_at s at
  unfolding yes_at
  yes_other h n = let l : at < length s = omega arith in rw (lt-ltb _ _ l, ne_eqb _ _ n)

  module _ (h : 2 ≤ length s - at) (e : get_or s at 0 ≡ 9) where
    here : is_at s at 9 ≡ true
    here = rw (lt-ltb at (length s) (omega arith), eq-eqb _ _ e)

    behind_here : ltb (at + 1) (length s) ≡ true
    behind_here = lt-ltb (at + 1) (length s) (omega arith)

    pub yes_no : get_or s (at + 1) 0 ≡ 48 → stood 0 (at + 2) ≡ yes_at s at
    unfolding yes_at
    yes_no q = rw (here, behind_here, q)

    pub yes_yes : get_or s (at + 1) 0 ≡ 49 → stood 1 (at + 2) ≡ yes_at s at
    unfolding yes_at
    yes_yes q = rw (here, behind_here, q)

    pub yes_neither : (get_or s (at + 1) 0 ≡ 48 → ⊥) → (get_or s (at + 1) 0 ≡ 49 → ⊥) → nothing s ≡ yes_at s at
    unfolding yes_at
    yes_neither n m = rw (here, behind_here, ne_eqb _ _ n, ne_eqb _ _ m)

  -- stands there
  pub yes_is : at ≤ length s → Reads s at (9 ∷ digits (yes_at s at).value) (yes_at s at).end × ((yes_at s at).value < 2)
  yes_is l =
      order (length s - at) 2 (λ h. none (yes_few l h))
      (λ h. cases (eqb (get_or s at 0) 9)
      (λ y.
      let e = eqb-true _ 9 y in
      cases (eqb (get_or s (at + 1) 0) 48)
      (λ a. let q = eqb-true _ 48 a in subst Y (yes_no h e q) (stands_read l (same_digit s at h e 0 (omega arith) q), omega arith))
      (λ a. cases (eqb (get_or s (at + 1) 0) 49)
      (λ b. let q = eqb-true _ 49 b in subst Y (yes_yes h e q) (stands_read l (same_digit s at h e 1 (omega arith) q), omega arith))
      (λ b. none (yes_neither h e (eqb-false _ 48 a) (eqb-false _ 49 b)))))
      (λ y. none (yes_other h (eqb-false _ 9 y))))
    where
      Y : Stood → Type 0
      Y r = Reads s at (9 ∷ digits r.value) r.end × (r.value < 2)

      none : nothing s ≡ yes_at s at → Y (yes_at s at)
      none q = subst Y q (none_read s at _, omega arith)

-- a word, or a number
module _ (s word : List ℕ) (at : ℕ) where
  pub word_there : {p : ℕ} → p ≡ past s at word → p < length s → stood no_number p ≡ word_at word s at
  unfolding word_at
  word_there e h = rw (← e, lt-ltb _ _ h)

  pub word_gone : {p : ℕ} → p ≡ past s at word → length s ≤ p → number_at s at ≡ word_at word s at
  unfolding word_at
  word_gone e h = rw (← e, le-ltb _ _ h)

  pub word_is : at ≤ length s → Reads s at (pick (eqb (word_at word s at).value no_number) word (9 ∷ digits (word_at word s at).value)) (word_at word s at).end
  word_is l =
      order (past s at word) (length s)
      (λ h. subst W (word_there refl h) (stands_read l refl))
      (λ h. let R = number_is s at l in let n : (number_at s at).value ≡ no_number → ⊥ = λ e. omega (arith, R.1) in subst W (word_gone refl h) (rw (ne_eqb (number_at s at).value no_number n) R.0))
    where
      W : Stood → Type 0
      W r = Reads s at (pick (eqb r.value no_number) word (9 ∷ digits r.value)) r.end

-- the bytes from a place on stand there
bytes_stand : (s : List ℕ) (at k : ℕ) → at + k ≤ length s → at + k ≡ past s at (take k (drop at s))
unfolding past
bytes_stand s at zero h = omega arith
bytes_stand s at (suc k) h =
    let t = take k (drop (at + 1) s) in
    let z : at + suc k ≡ at + 1 + k = omega arith in
    let q : take (suc k) (drop at s) ≡ get_or s at 0 ∷ t = rw (drop-cons s at 0 (omega arith), add-one at) in
    z ∙ bytes_stand s (at + 1) k (omega arith) ∙ sym (same_byte s at (get_or s at 0) t (omega arith) refl) ∙ ap (past s at) (sym q)

-- a text that stands inside is what stands there
past_bytes : (s : List ℕ) (at : ℕ) (t : List ℕ) → past s at t < length s → (past s at t ≡ at + length t) × (take (length t) (drop at s) ≡ t)
unfolding past
past_bytes s at [] h = (omega arith, refl)
past_bytes s at (b ∷ t) h =
    cases (is_at s at b)
    (λ y.
    let q = at_byte s at b y in
    let r = past_bytes s (at + 1) t (rw y at h) in
    (rw y (r.0 ∙ omega arith), rw (drop-cons s at 0 q.0, q.1) (ap (b ∷◌) (rw (add-one at) at r.1))))
    (λ y. let z : length s < length s = rw y at h in absurd (omega arith))
  where
    at_byte : (s : List ℕ) (at b : ℕ) → is_at s at b ≡ true → (at < length s) × (get_or s at 0 ≡ b)
    at_byte s at b y = order at (length s) (λ l. (l, eqb-true _ _ (rw (lt-ltb _ _ l) at y))) (λ l. absurd (false_true (rw (le-ltb _ _ l) at y)))

-- zeros are read as the empty set
zeros_read : {l : List ℕ} → l ≡ pad 16 16 0 → read_set set_digits l ≡ Some empty_set
unfolding read_set value_of
zeros_read q = rw q refl

-- a set
module _ (s : List ℕ) (at : ℕ) where
  pub set_few : length s - at < 17 → nothing s ≡ set_at s at
  unfolding set_at
  set_few h = let l : length s < at + 1 + 16 = omega arith in rw (lt-leb _ _ l)

  pub set_other : (get_or s at 0 ≡ 9 → ⊥) → nothing s ≡ set_at s at
  unfolding set_at
  set_other n =
      cases (leb (at + 1 + 16) (length s))
      (λ y. let l : at < length s = omega (arith, leb-true (at + 1 + 16) (length s) y) in rw (y, lt-ltb _ _ l, ne_eqb _ _ n))
      (λ y. rw y)

  module _ (h : 17 ≤ length s - at) (t : get_or s at 0 ≡ 9) where
    set_by_lem : set_by s (at + 1 + 16) (read_set set_digits (take 16 (drop (at + 1) s))) ≡ set_at s at
    unfolding set_at
    set_by_lem = let l : at + 1 + 16 ≤ length s = omega arith in rw (le-leb _ _ l, lt-ltb at (length s) (omega arith), eq-eqb _ _ t)

    module _ {f : Option Set} {e : ℕ} (j : e ≡ at + 1 + 16) (r : f ≡ read_set set_digits (take (e - (at + 1)) (drop (at + 1) s))) where
      part_set : read_set set_digits (take 16 (drop (at + 1) s)) ≡ f
      part_set = let m : e - (at + 1) ≡ 16 = omega arith in sym (rw m at r)

      pub set_bad : f ≡ None → nothing s ≡ set_at s at
      set_bad q = ap (set_by s (at + 1 + 16)) (sym (part_set ∙ q)) ∙ set_by_lem

      pub set_taken : (n : Set) → f ≡ Some n → stood n.low e ≡ set_at s at
      set_taken n q = ap (stood n.low) j ∙ ap (set_by s (at + 1 + 16)) (sym (part_set ∙ q)) ∙ set_by_lem

  pub set_empty : {p : ℕ} → p ≡ past s at (9 ∷ pad 16 16 0) → p < length s → stood 0 p ≡ set_at s at
  set_empty {p} e h =
      let b = past_bytes s at (9 ∷ pad 16 16 0) (rw (← e) h) in
      let w : p ≡ at + 17 = e ∙ b.0 in
      let d : drop at s ≡ get_or s at 0 ∷ drop (at + 1) s = rw (add-one at) (drop-cons s at 0 (omega arith)) in
      let z : get_or s at 0 ∷ take 16 (drop (at + 1) s) ≡ 9 ∷ pad 16 16 0 = sym (ap (take 17) d) ∙ b.1 in
      let t : get_or s at 0 ≡ 9 = ap (λ l. get_or l 0 0) z in
      let r : Some empty_set ≡ read_set set_digits (take (p - (at + 1)) (drop (at + 1) s)) = let m : p - (at + 1) ≡ 16 = omega arith in rw m (sym (zeros_read (ap (drop 1) z))) in
      set_taken (omega arith) t {e = p} (omega arith) r empty_set refl

-- the text of what is read
set_same : (s : List ℕ) (at : ℕ) (n : Set) → Some n ≡ read_set set_digits (take (at + 17 - (at + 1)) (drop (at + 1) s)) → (form_text a_set n.low ≡ take 16 (drop (at + 1) s)) × (n.low < 2 ^ 64)
unfolding read_form form_ok
set_same s at n r =
    let m : at + 17 - (at + 1) ≡ 16 = omega arith in
    let u : read_set set_digits (take 16 (drop (at + 1) s)) ≡ Some n = sym (rw m at r) in
    let g = form_read a_set n.low (take 16 (drop (at + 1) s)) (rw u) in
    (g.0, ltb-true n.low (2 ^ 64) g.1)

-- what is read as a set stands there
module _ (s : List ℕ) (at : ℕ) (l : at ≤ length s) where
  abbrev IsSet : Stood → Type 0
  IsSet r = Reads s at (9 ∷ form_text a_set r.value) r.end × (r.value < 2 ^ 64)

  set_none : nothing s ≡ set_at s at → IsSet (set_at s at)
  set_none q = subst IsSet q (none_read s at _, omega arith)

  pub set_is : IsSet (set_at s at)
  set_is =
      order (length s - at) 17 (λ h. set_none (set_few s at h))
      (λ h. cases (eqb (get_or s at 0) 9)
      (λ y. let t = eqb-true _ 9 y in by h t (read_set set_digits (take (at + 17 - (at + 1)) (drop (at + 1) s))) refl)
      (λ y. set_none (set_other s at (eqb-false _ 9 y))))
    where
      set_text_lem : 17 ≤ length s - at → get_or s at 0 ≡ 9 → (n : Set) → Some n ≡ read_set set_digits (take (at + 17 - (at + 1)) (drop (at + 1) s)) → IsSet (stood n.low (at + 17))
      set_text_lem h t n r =
          let g = set_same s at n r in
          let z : at + 17 ≡ at + 1 + 16 = omega arith in
          (stands_read l (rw g.0 (z ∙ bytes_stand s (at + 1) 16 (omega arith) ∙ sym (same_byte s at 9 _ (omega arith) t))), g.1)

      by : 17 ≤ length s - at → get_or s at 0 ≡ 9 → (f : Option Set) → f ≡ read_set set_digits (take (at + 17 - (at + 1)) (drop (at + 1) s)) → IsSet (set_at s at)
      by h t (Some n) r = subst IsSet (set_taken s at h t {e = at + 17} (omega arith) r n refl) (set_text_lem h t n r)
      by h t None r = set_none (set_bad s at h t {e = at + 17} (omega arith) r refl)

-- nothing stands at the end, nor behind it
past_end : (s : List ℕ) (at : ℕ) (t : List ℕ) → length s ≤ at → length s ≤ past s at t
unfolding past
past_end s at [] h = h
past_end s at (b ∷ t) h = rw (le-ltb _ _ h) (omega arith)

-- where a text ends inside, it begins inside
pub reads_inside : {s : List ℕ} {at : ℕ} {t : List ℕ} {end : ℕ} → Reads s at t end → end < length s → at < length s
reads_inside {s} {at} {t} R h = order at (length s) (λ l. l) (λ l. absurd (omega (arith, R.stands h, past_end s at t l)))

-- a text, and another behind it
pub reads_more : {s : List ℕ} {at : ℕ} {a b : List ℕ} {mid end : ℕ} → Reads s at a mid → Reads s mid b end → Reads s at (a ++ b) end
reads_more {s} {at} {a} {b} P Q = record {
  inside = Q.inside;
  stands = λ h. past_append s at a b ∙ ap (λ p. past s p b) (P.stands (reads_inside Q h)) ∙ Q.stands h;
}

-- fields one after another, and the last
pub fields_more : {s : List ℕ} {at b e : ℕ} (f v : ℕ) (fs vs : List ℕ) → Reads s at (9 ∷ form_text f v) b → Reads s b (fields_text fs vs) e → Reads s at (fields_text (f ∷ fs) (v ∷ vs)) e
unfolding fields_text
fields_more f v fs vs P Q = reads_more P Q

pub fields_last : {s : List ℕ} {at e : ℕ} (f v : ℕ) → Reads s at (9 ∷ form_text f v) e → Reads s at (fields_text (f ∷ []) (v ∷ [])) e
unfolding fields_text
fields_last f v P = rw append-nil P

-- a number, as its form has it
pub number_form : {s : List ℕ} {at e : ℕ} (v : ℕ) → Reads s at (9 ∷ digits v) e → Reads s at (9 ∷ form_text a_number v) e
unfolding form_text
number_form v R = R
