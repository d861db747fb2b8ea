-- The values that the fields of an accepted row have: each field's limit, and that a line says and 32 bits keep what is within it.
use Prim.Native.Nat.{ℕ, zero, suc, ◌+◌, ◌*◌, ◌≤◌, ◌<◌, min}
use mathlib.Core.Path.{◌≡◌, refl, sym, ◌∙◌}
use mathlib.Core.List.{List, [], ◌∷◌, ◌++◌}
use mathlib.Core.Bool.{Bool, true, false}
use native.Mathlib.Omega.{arith}
use lib.ListN.{get_or}
use lib.Dec.{ltb, leb, eqb}
use borrow.Author.Tests.{lt-ltb, le-leb, eq-eqb, ne_eqb, ltb-true, leb-true, eqb-true}
use Rattle.text.specs.Fields.{ether_value}
use Rattle.text.proofs.Picks.{cases, order, picked, false_true}
use Rattle.model.specs.Tests.{◌and◌, ◌or◌, each}
use Rattle.model.specs.Limits.{most_tasks, most_acts, most_codels, most_ticks}
use Rattle.row.specs.Kinds.{stored_kinds, end_kind, most_of, form_of}
use Rattle.row.specs.Row.{form_ok, row_ok}
use Rattle.std.specs.Prelude.{Option, Some, None}
use Rattle.row.specs.declared.Form.{Form}
use Rattle.row.specs.declared.Form.TheVariants as form
use Rattle.row.specs.declared.Row.{Row}
use Rattle.table.specs.Tables.{ether_slot, narrowed, widened, shown, slot_of, field_of, row_of}
use Rattle.table.specs.Worded.{is_number, cap_of, value_at, Worded}
use Rattle.table.proofs.Tests.{both, each_at}

-- by the stored kinds
pub at_kind : (P : ℕ → Type 0) → P 0 → P 1 → P 2 → P 3 → P 4 → (k : ℕ) → k < stored_kinds → P k
at_kind P a b c d e zero h = a
at_kind P a b c d e (suc zero) h = b
at_kind P a b c d e (suc (suc zero)) h = c
at_kind P a b c d e (suc (suc (suc zero))) h = d
at_kind P a b c d e (suc (suc (suc (suc zero)))) h = e
at_kind P a b c d e (suc (suc (suc (suc (suc k))))) h = absurd (omega arith)

-- a row by its numbers
abbrev pub row_by : ℕ → ℕ → ℕ → ℕ → Row
row_by k a b c = record { kind = k; a = a; b = b; c = c }

-- by a row's kind
pub by_kind : (P : Row → Type 0) → ((a b c : ℕ) → P (row_by 0 a b c)) → ((a b c : ℕ) → P (row_by 1 a b c)) → ((a b c : ℕ) → P (row_by 2 a b c))
    → ((a b c : ℕ) → P (row_by 3 a b c)) → ((a b c : ℕ) → P (row_by 4 a b c)) → (r : Row) → r.kind < stored_kinds → P r
by_kind P p₀ p₁ p₂ p₃ p₄ r =
    let a = r.a in
    let b = r.b in
    let c = r.c in
    at_kind (λ k. P (row_by k a b c)) (p₀ a b c) (p₁ a b c) (p₂ a b c) (p₃ a b c) (p₄ a b c) r.kind

-- by the three fields
pub three : (P : ℕ → Type 0) → P 0 → P 1 → P 2 → (j : ℕ) → j < 3 → P j
three P a b c zero h = a
three P a b c (suc zero) h = b
three P a b c (suc (suc zero)) h = c
three P a b c (suc (suc (suc j))) h = absurd (omega arith)

-- a form that may say `ether`
abbrev pub is_target : Option Form → Bool
is_target None = false
is_target (Some form.Number) = false
is_target (Some form.Kind) = false
is_target (Some form.Mode) = false
is_target (Some form.Target) = true

-- what the values of each field of each kind stay below there, `ether` apart
unfoldable pub limit_of : ℕ → ℕ → ℕ
limit_of k j = get_or (task ++ act ++ codel ++ edge ++ mutex) (k * 3 + j) 0
  where
    task : List ℕ
    task = suc most_ticks ∷ suc most_ticks ∷ 1 ∷ []

    act : List ℕ
    act = most_tasks ∷ 1 ∷ 1 ∷ []

    codel : List ℕ
    codel = most_acts ∷ 3 ∷ suc most_ticks ∷ []

    edge : List ℕ
    edge = most_codels ∷ most_codels ∷ 2 ∷ []

    mutex : List ℕ
    mutex = most_codels ∷ most_codels ∷ 1 ∷ []

-- a value is within its field's limit
unfoldable pub within : ℕ → ℕ → ℕ → Bool
within k j v = ltb v (limit_of k j) or (is_target (form_of k j) and eqb v ether_value)

-- the limits as the forms have them
caps : (k : ℕ) → k < stored_kinds → (j : ℕ) → j < 3 → limit_of k j ≤ cap_of (form_of k j)
unfolding limit_of form_of each
caps k h j l =
    leb-true _ _ (each_at 3 (λ i. leb (limit_of k i) (cap_of (form_of k i)))
    (each_at stored_kinds (λ m. each 3 (λ i. leb (limit_of m i) (cap_of (form_of m i)))) refl k h) j l)

-- below its form's cap a value is kept by 32 bits, and can be said
kept_number : (v : ℕ) → v < suc most_ticks → widened (narrowed v) ≡ v
unfolding widened narrowed
kept_number v h =
    let e : min v ether_slot ≡ v = omega arith in
    let n : v ≡ ether_slot → ⊥ = λ z. omega arith in
    rw (e, ne_eqb _ _ n)

kept_below : (f : Option Form) (v : ℕ) → v < cap_of f → shown f (narrowed v) ≡ v
unfolding shown narrowed
kept_below None v h = omega arith
kept_below (Some form.Number) v h = kept_number v h
kept_below (Some form.Kind) v h = omega arith
kept_below (Some form.Mode) v h = omega arith
kept_below (Some form.Target) v h = kept_number v h

said_below : (f : Option Form) (v : ℕ) → v < cap_of f → form_ok f v ≡ true
unfolding form_ok
said_below None v h = eq-eqb v 0 (omega arith)
said_below (Some form.Number) v h = lt-ltb v ether_value (omega arith)
said_below (Some form.Kind) v h = lt-ltb v 3 h
said_below (Some form.Mode) v h = lt-ltb v 2 h
said_below (Some form.Target) v h = le-leb v ether_value (omega arith)

-- it is then below it, or is `ether` in a field that may say so
pub by_limit : {P : Type 0} (k j v : ℕ) → within k j v ≡ true
    → (v < limit_of k j → P) → (is_target (form_of k j) ≡ true → v ≡ ether_value → P) → P
unfolding within
by_limit k j v h f g =
    cases (ltb v (limit_of k j))
    (λ e. f (ltb-true _ _ e))
    (λ e.
    let t : is_target (form_of k j) and eqb v ether_value ≡ true = rw e at h in
    let b = both (is_target (form_of k j)) t in
    g b.0 (eqb-true _ _ b.1))

-- in a field that may not name `ether` it is below it
pub below_limit : (k j v : ℕ) → is_target (form_of k j) ≡ false → within k j v ≡ true → v < limit_of k j
below_limit k j v n h = by_limit k j v h (λ b. b) (λ f e. absurd (false_true (sym n ∙ f)))

-- `ether` is kept and can be said where a form may say it
kept_ether : (f : Option Form) → is_target f ≡ true → shown f (narrowed ether_value) ≡ ether_value
unfolding shown narrowed widened
kept_ether None h = absurd (false_true h)
kept_ether (Some form.Number) h = absurd (false_true h)
kept_ether (Some form.Kind) h = absurd (false_true h)
kept_ether (Some form.Mode) h = absurd (false_true h)
kept_ether (Some form.Target) h = refl

said_ether : (f : Option Form) → is_target f ≡ true → form_ok f ether_value ≡ true
unfolding form_ok
said_ether None h = absurd (false_true h)
said_ether (Some form.Number) h = absurd (false_true h)
said_ether (Some form.Kind) h = absurd (false_true h)
said_ether (Some form.Mode) h = absurd (false_true h)
said_ether (Some form.Target) h = refl

module _ (k : ℕ) (h : k < stored_kinds) (j : ℕ) (l : j < 3) (v : ℕ) (w : within k j v ≡ true) where
  -- 32 bits keep it
  pub kept : shown (form_of k j) (narrowed v) ≡ v
  kept = let c = caps k h j l in by_limit k j v w (λ b. kept_below (form_of k j) v (omega arith)) (λ f e. rw e (kept_ether (form_of k j) f))

  -- and a line can say it
  said : form_ok (form_of k j) v ≡ true
  said = let c = caps k h j l in by_limit k j v w (λ b. said_below (form_of k j) v (omega arith)) (λ f e. rw e (said_ether (form_of k j) f))

  -- a number is at most the most ticks
  pub number_low : form_of k j ≡ Some form.Number → v ≤ most_ticks
  number_low f =
      let c = caps k h j l in
      let m : cap_of (form_of k j) ≡ suc most_ticks = rw f in
      by_limit k j v w (λ b. omega arith) (λ g e. absurd (false_true (rw f at g)))

-- a row within its limits
abbrev pub Limited : Row → Type 0
Limited r = (j : ℕ) → j < 3 → within r.kind j (value_at r j) ≡ true

-- each field of a row that a line can say
pub ok_fields : (r : Row) → row_ok r ≡ true → (j : ℕ) → j < 3 → form_ok (form_of r.kind j) (value_at r j) ≡ true
unfolding row_ok
ok_fields r h =
    let a = picked (leb r.kind end_kind) false_true h in
    let b = picked (form_ok (form_of r.kind 0) r.a) false_true a.1 in
    let c = picked (form_ok (form_of r.kind 1) r.b) false_true b.1 in
    three (λ j. form_ok (form_of r.kind j) (value_at r j) ≡ true) b.0 c.0 c.1

-- a row within its limits can be said
pub ok_limited : (r : Row) → r.kind < stored_kinds → Limited r → row_ok r ≡ true
unfolding row_ok
ok_limited r h w =
    let k : r.kind ≤ end_kind = omega arith in
    rw (
      le-leb _ _ k,
      said r.kind h 0 (omega arith) r.a (w 0 (omega arith)),
      said r.kind h 1 (omega arith) r.b (w 1 (omega arith)),
      said r.kind h 2 (omega arith) r.c (w 2 (omega arith)),
    )

-- what a field without number can say, and what is shown of one, is below its form's cap
said_cap : (f : Option Form) (v : ℕ) → is_number f ≡ false → form_ok f v ≡ true → v < cap_of f
unfolding form_ok
said_cap None v n e = let z = eqb-true v 0 e in omega arith
said_cap (Some form.Number) v n e = absurd (false_true (sym n))
said_cap (Some form.Kind) v n e = ltb-true v 3 e
said_cap (Some form.Mode) v n e = ltb-true v 2 e
said_cap (Some form.Target) v n e = absurd (false_true (sym n))

shown_cap : (f : Option Form) (v : ℕ) → is_number f ≡ false → (0 < cap_of f) × (shown f v < cap_of f)
unfolding shown
shown_cap None v n = (omega arith, omega arith)
shown_cap (Some form.Number) v n = absurd (false_true (sym n))
shown_cap (Some form.Kind) v n = (omega arith, omega arith)
shown_cap (Some form.Mode) v n = (omega arith, omega arith)
shown_cap (Some form.Target) v n = absurd (false_true (sym n))

-- a row that a line can say, but for the `end` row, is so worded
pub ok_worded : (r : Row) → (r.kind ≡ end_kind → ⊥) → row_ok r ≡ true → Worded r
unfolding row_ok
ok_worded r ne k =
    let most : r.kind ≤ end_kind = leb-true _ _ (picked (leb r.kind end_kind) false_true k).0 in
    let h : r.kind < stored_kinds = order r.kind stored_kinds (λ l. l) (λ l. absurd (ne (omega arith))) in
    record {
      kind = h;
      words = λ j l n. said_cap (form_of r.kind j) (value_at r j) n (ok_fields r k j l);
    }

-- and so is a row of a table
pub row_worded : (rows : List ℕ) (k i : ℕ) → k < stored_kinds → Worded (row_of rows k i)
unfolding field_of
row_worded rows k i h =
    record {
      kind = h;
      words = three
          (λ j. is_number (form_of k j) ≡ false → value_at (row_of rows k i) j < cap_of (form_of k j))
          (field 0 (omega arith)) (field 1 (omega arith)) (field 2 (omega arith));
    }
  where
    field : (j : ℕ) → j < 3 → is_number (form_of k j) ≡ false → field_of rows k i j < cap_of (form_of k j)
    field j l n =
        let t = shown_cap (form_of k j) (get_or rows (slot_of k i + j) 0) n in
        cases (ltb i (most_of k)) (λ e. rw e t.1) (λ e. rw e t.0)
