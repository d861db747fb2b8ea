-- The members of a set: those of its two halves, and tests of each.
use Prim.Native.Nat.{ℕ, zero, suc, ◌+◌, ◌-◌, ◌%◌, ◌^◌, ◌≤◌, ◌<◌}
use mathlib.Core.Path.{◌≡◌, refl, sym, ap, ◌∙◌}
use mathlib.Core.Bool.{Bool, true, false}
use native.Mathlib.Omega.{arith}
use lib.Dec.{ltb, leb}
use borrow.Author.Tests.{lt-ltb, le-ltb, le-leb, ltb-true, leb-true}
use Rattle.text.specs.Parts.{pick}
use Rattle.text.specs.Set.{half_room, set_room, empty_set, bit, member, each_of, each_member, is_between, between, bits_between}
use Rattle.text.specs.declared.Set.{Set}
use Rattle.text.proofs.Picks.{cases, order, picked, false_true}
use Rattle.text.proofs.Bits.{low_clear, clear_low, high_clear, clear_high}

-- whether i is a member
module _ (n : Set) (i : ℕ) (r : Bool) where
  -- a bit of the low half says so
  pub has_low : i < 64 → r ≡ bit n.low i → r ≡ member n i
  unfolding member
  has_low h e = rw (lt-ltb _ _ h) e

  -- a bit of the high half
  pub has_high : 64 ≤ i → i < 128 → r ≡ bit n.high (i - 64) → r ≡ member n i
  unfolding member
  has_high h l e = rw (le-ltb _ _ h, lt-ltb _ _ l) e

pub member_low : (n : Set) (i : ℕ) → i < 64 → member n i ≡ bit n.low i
member_low n i h = sym (has_low n i _ h refl)

pub member_high : (n : Set) (i : ℕ) → 64 ≤ i → i < 128 → member n i ≡ bit n.high (i - 64)
member_high n i h l = sym (has_high n i _ h l refl)

-- no set has room for it
pub member_none : (n : Set) (i : ℕ) → 64 ≤ i → 128 ≤ i → false ≡ member n i
unfolding member
member_none n i h l = rw (le-ltb _ _ h, le-ltb _ _ l)

-- the empty set has no member
member_empty : (i : ℕ) → member empty_set i ≡ false
member_empty i =
    let z : (j : ℕ) → bit 0 j ≡ false = λ j. clear_high 0 0 j (omega arith) (omega arith) in
    order i 64 (λ h. member_low empty_set i h ∙ z i) (λ h. order i 128 (λ l. member_high empty_set i h l ∙ z (i - 64)) (λ l. sym (member_none empty_set i h l)))

-- two tests are the same where each holds if the other does
same_test : (a b : Bool) → (a ≡ true → b ≡ true) → (b ≡ true → a ≡ true) → a ≡ b
same_test true b f g = sym (f refl)
same_test false b f g = cases b (λ e. g e ∙ sym e) (λ e. sym e)

-- what is tested of each holds of each
pub each_of_at : (k : ℕ) (p q : ℕ → Bool) → each_of k p q ≡ true → (i : ℕ) → i < k → p i ≡ true → q i ≡ true
unfolding each_of
each_of_at zero p q h i l u = absurd (omega arith)
each_of_at (suc k) p q h i l u =
    cases (p k)
    (λ e.
    let t = picked (q k) false_true (rw e at h) in
    order i k (λ m. each_of_at k p q t.1 i m u) (λ m. let z : i ≡ k = omega arith in rw z t.0))
    (λ e. order i k (λ m. each_of_at k p q (rw e at h) i m u) (λ m. let z : i ≡ k = omega arith in absurd (false_true (sym e ∙ rw z at u))))

-- and what holds of each is so tested
pub each_of_mk : (k : ℕ) (p q : ℕ → Bool) → ((i : ℕ) → i < k → p i ≡ true → q i ≡ true) → each_of k p q ≡ true
unfolding each_of
each_of_mk zero p q f = refl
each_of_mk (suc k) p q f =
    let r = each_of_mk k p q (λ i l u. f i (omega arith) u) in
    cases (p k) (λ e. rw (e, f k (omega arith) e, r)) (λ e. rw (e, r))

-- so anything holds of each member of the empty set
pub each_of_none : (q : ℕ → Bool) → each_member empty_set q ≡ true
each_of_none q = each_of_mk set_room (member empty_set) q (λ i l u. absurd (false_true (sym (member_empty i) ∙ u)))

-- two tests that agree on each number agree on what they say of each
pub each_of_same : (k : ℕ) (p q r : ℕ → Bool) → ((i : ℕ) → q i ≡ r i) → each_of k p q ≡ each_of k p r
unfolding each_of
each_of_same zero p q r f = refl
each_of_same (suc k) p q r f = rw (f k, each_of_same k p q r f)

-- a number between two
pub between_at : (from to i : ℕ) → is_between from to i ≡ true → (from ≤ i) × (i < to)
between_at from to i h = let t = picked (leb from i) false_true h in (leb-true from i t.0, ltb-true i to t.1)

pub between_mk : (from to i : ℕ) → from ≤ i → i < to → is_between from to i ≡ true
between_mk from to i h l = rw (le-leb _ _ h, lt-ltb _ _ l)

-- a test that can not hold
never : (b : Bool) → (b ≡ true → ⊥) → false ≡ b
never b f = cases b (λ e. absurd (f e)) (λ e. sym e)

-- whether the bits of a half that are set stand between two places
module _ (n from to : ℕ) where
  unset : bits_between n from to ≡ true → (i : ℕ) → i < 64 → ((from ≤ i) × (i < to) → ⊥) → bit n i ≡ false
  unset w i l ne =
      cases (bit n i) (λ u. absurd (ne (between_at from to i (each_of_at half_room (bit n) (is_between from to) w i l u)))) (λ u. u)

  -- none is set
  pub bits_none : n ≡ 0 → true ≡ bits_between n from to
  bits_none z =
      sym (each_of_mk half_room (bit n) (is_between from to) (λ i l u. absurd (false_true (sym (clear_high n 0 i (rw z (omega arith)) (omega arith)) ∙ u))))

  -- one is set, and none could be
  pub bits_past : n < 2 ^ 64 → (n ≡ 0 → ⊥) → 64 ≤ from → false ≡ bits_between n from to
  bits_past fits ne h =
      never _ (λ w. let l : n < 1 = high_clear n 0 64 (omega arith) fits (λ i a b. unset w i b (λ o. omega (arith, o.0))) in ne (omega arith))

  module _ (p : ℕ) (e : p ≡ 2 ^ from) where
    -- one is set below
    pub bits_below : from < 64 → (n % p ≡ 0 → ⊥) → false ≡ bits_between n from to
    bits_below h ne = never _ (λ w. ne (rw e (low_clear n from (λ i l. unset w i (omega arith) (λ o. omega (arith, o.0))))))

    module _ (z : n % p ≡ 0) where
      from_on : (i : ℕ) → bit n i ≡ true → from ≤ i
      from_on i u = order i from (λ g. absurd (false_true (sym (clear_low n from i (rw e at z) g) ∙ u))) (λ g. g)

      -- none is set below, and none can be behind
      pub bits_all : 64 ≤ to → true ≡ bits_between n from to
      bits_all h = sym (each_of_mk half_room (bit n) (is_between from to) (λ i l u. between_mk from to i (from_on i u) (omega arith)))

      -- none is set below, and what is set behind shows in the number
      pub bits_behind : n < 2 ^ 64 → to < 64 → (q : ℕ) → q ≡ 2 ^ to → ltb n q ≡ bits_between n from to
      bits_behind fits h q f =
          same_test (ltb n q) (bits_between n from to)
          (λ u.
          let l : n < 2 ^ to = rw f at (ltb-true n q u) in
          each_of_mk half_room (bit n) (is_between from to) (λ i m v.
          between_mk from to i (from_on i v) (order i to (λ g. g) (λ g. absurd (false_true (sym (clear_high n to i l g) ∙ v))))))
          (λ w. rw f (lt-ltb n (2 ^ to) (high_clear n to 64 (omega arith) fits (λ i a b. unset w i b (λ o. omega (arith, o.1))))))

-- the members of a set stand between two places where those of both halves do
halves_between : (n : Set) (from to : ℕ) → between n from to ≡ pick (bits_between n.low from to) (bits_between n.high (from - 64) (to - 64)) false
halves_between n from to = same_test _ _ both whole
  where
    both : between n from to ≡ true → pick (bits_between n.low from to) (bits_between n.high (from - 64) (to - 64)) false ≡ true
    both w =
        let at : (i : ℕ) → i < 128 → member n i ≡ true → (from ≤ i) × (i < to) = λ i l u. between_at from to i (each_of_at set_room (member n) (is_between from to) w i l u) in
        let low : bits_between n.low from to ≡ true =
        each_of_mk half_room (bit n.low) (is_between from to) (λ i l u.
        let a = at i (omega arith) (member_low n i l ∙ u) in
        between_mk from to i a.0 a.1) in
        let high : bits_between n.high (from - 64) (to - 64) ≡ true =
        each_of_mk half_room (bit n.high) (is_between (from - 64) (to - 64)) (λ j l u.
        let e : j + 64 - 64 ≡ j = omega arith in
        let a = at (j + 64) (omega arith) (member_high n (j + 64) (omega arith) (omega arith) ∙ ap (bit n.high) e ∙ u) in
        between_mk (from - 64) (to - 64) j (omega (arith, a.0)) (omega (arith, a.1))) in
        rw (low, high)

    whole : pick (bits_between n.low from to) (bits_between n.high (from - 64) (to - 64)) false ≡ true → between n from to ≡ true
    whole w =
        let t = picked (bits_between n.low from to) false_true w in
        each_of_mk set_room (member n) (is_between from to) (λ i l u.
        order i 64
        (λ m. each_of_at half_room (bit n.low) (is_between from to) t.0 i m (sym (member_low n i m) ∙ u))
        (λ m.
        let a = between_at (from - 64) (to - 64) (i - 64) (each_of_at half_room (bit n.high) (is_between (from - 64) (to - 64)) t.1 (i - 64) (omega arith) (sym (member_high n i m l) ∙ u)) in
        between_mk from to i (omega (arith, a.0)) (omega (arith, a.1))))

module _ (n : Set) (from to : ℕ) (b : Bool) (e : b ≡ bits_between n.low from to) where
  -- a member of the low half does not
  pub between_not : b ≡ false → b ≡ between n from to
  between_not u = let f = sym e ∙ u in rw (halves_between n from to, f, u)

  -- those of the low half do, and so the high half decides
  pub between_rest : b ≡ true → (f t : ℕ) → f ≡ from - 64 → t ≡ to - 64 → (r : Bool) → r ≡ bits_between n.high f t → r ≡ between n from to
  between_rest u f t p q r h = let g = sym e ∙ u in rw (halves_between n from to, g, ← p, ← q) h
