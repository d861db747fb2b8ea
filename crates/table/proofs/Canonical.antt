-- Canonical tables: those that are made of their rows.
use Prim.Native.Nat.{ℕ, zero, suc, ◌+◌, ◌-◌, ◌*◌, ◌/◌, ◌%◌, ◌≤◌, ◌<◌}
use mathlib.Core.Path.{◌≡◌, sym, ap, ◌∙◌}
use mathlib.Core.List.{List}
use mathlib.Core.Bool.{true}
use mathlib.Core.Logic.{◌↔◌}
use native.Mathlib.Omega.{arith}
use native.Mathlib.Nat.{div-add-mod, mod-lt, zero-lt-suc}
use lib.ListN.{length, get_or, get_or-replicate}
use lib.Seq.{ext_get_or}
use lib.Dec.{ltb, leb, eqb}
use borrow.Author.Tests.{lt-ltb, le-ltb, le-leb, eq-eqb, ltb-true, leb-true, eqb-true, eqb-false}
use Rattle.text.specs.Parts.{pick}
use Rattle.text.proofs.Picks.{cases, order}
use Rattle.row.specs.Kinds.{stored_kinds, most_of, form_of}
use Rattle.std.specs.Prelude.{Option, Some, None}
use Rattle.row.specs.declared.Form.{Form}
use Rattle.row.specs.declared.Form.TheVariants as form
use Rattle.row.specs.declared.Row.{Row}
use Rattle.model.specs.Tests.{each}
use Rattle.table.specs.Tables.{slots, empty_table, base_of, slot_of, ether_slot, narrowed, widened, shown, field_of, stored_ok, number_ok, canonical, add_row}
use Rattle.table.specs.Checks.{accepts, rows_of, check_table}
use Rattle.table.specs.declared.Table.{Table}
use Rattle.table.proofs.Tests.{both, each_at, each_all}
use Rattle.table.proofs.Fields.{three}
use Rattle.table.proofs.Accepted.{Sized, Follows}
use Rattle.table.proofs.Stored.{place_of, base_first, base_next, base_last, stretch, empty_sized, added_sized, stored_field, other_field, stored_number, other_number, count_same, count_other}
use Rattle.table.proofs.Grown.{same_counts, same_grown}
use Rattle.table.proofs.Built.{Built, done, more, built_all, table_whole}

-- a stored number is what is stored of what it says exactly where its field can say it
wide_kept : (x : ℕ) → leb x ether_slot ≡ true → narrowed (widened x) ≡ x
unfolding narrowed widened
wide_kept x h =
    let z = leb-true x ether_slot h in
    cases (eqb x ether_slot) (λ g. let q = eqb-true x ether_slot g in rw g (omega arith)) (λ g. rw g (omega arith))

kept_wide : (x : ℕ) → narrowed (widened x) ≡ x → leb x ether_slot ≡ true
unfolding narrowed widened
kept_wide x h =
    cases (eqb x ether_slot)
    (λ g. let q = eqb-true x ether_slot g in le-leb x ether_slot (omega arith))
    (λ g. let z = rw g at h in le-leb x ether_slot (omega arith))

stored_kept : (f : Option Form) (x : ℕ) → stored_ok f x ≡ true → narrowed (shown f x) ≡ x
unfolding stored_ok narrowed shown
stored_kept None x h = let z = eqb-true x 0 h in omega arith
stored_kept (Some form.Number) x h = wide_kept x h
stored_kept (Some form.Kind) x h = let z = ltb-true x 3 h in omega arith
stored_kept (Some form.Mode) x h = let z = ltb-true x 2 h in omega arith
stored_kept (Some form.Target) x h = wide_kept x h

kept_stored : (f : Option Form) (x : ℕ) → narrowed (shown f x) ≡ x → stored_ok f x ≡ true
unfolding stored_ok narrowed shown
kept_stored None x h = eq-eqb x 0 (omega arith)
kept_stored (Some form.Number) x h = kept_wide x h
kept_stored (Some form.Kind) x h = lt-ltb x 3 (omega arith)
kept_stored (Some form.Mode) x h = lt-ltb x 2 (omega arith)
kept_stored (Some form.Target) x h = kept_wide x h

-- number j of row i of kind k
abbrev number_at : Table → ℕ → ℕ → ℕ → ℕ
number_at t k i j = get_or t.rows (slot_of k i + j) 0

-- what stands there in a table that is made of its rows
abbrev expected : Table → ℕ → ℕ → ℕ → ℕ
expected t k i j = pick (ltb i (get_or t.counts k 0)) (narrowed (field_of t.rows k i j)) 0

record Settled (t : Table) : Type 0 where
  sized : Sized t
  numbers : (k i j : ℕ) → k < stored_kinds → i < most_of k → j < 3 → number_at t k i j ≡ expected t k i j

settled_empty : Settled empty_table
settled_empty =
    record {
      sized = empty_sized;
      numbers = λ k i j h l m.
          let b = stretch k h in
          rw (get_or-replicate {A = ℕ} slots (slot_of k i + j) 0 0 (omega arith), get_or-replicate {A = ℕ} stored_kinds k 0 0 h, le-ltb i 0 (omega arith));
    }

-- a row that is accepted behind the rows of such a table
module _ {t : Table} {r : Row} (f : Follows t r) where
  -- any other row is there as it was
  still : (k i : ℕ) → (k ≡ r.kind → i ≡ place_of t r → ⊥) → ltb i (get_or (add_row t r).counts k 0) ≡ ltb i (get_or t.counts k 0)
  still k i ne =
      cases (eqb k r.kind)
      (λ e.
      let q = eqb-true k r.kind e in
      let n = ne q in
      rw (q, count_same f)
      (order i (place_of t r)
      (λ l. let m : i < place_of t r + 1 = omega arith in rw (lt-ltb _ _ l, lt-ltb _ _ m))
      (λ l. let m : place_of t r + 1 ≤ i = order i (place_of t r + 1) (λ z. absurd (n (omega arith))) (λ z. z) in rw (le-ltb _ _ l, le-ltb _ _ m))))
      (λ e. rw (count_other f k (eqb-false k r.kind e)))

  own_number : (j : ℕ) → j < 3 → number_at (add_row t r) r.kind (place_of t r) j ≡ expected (add_row t r) r.kind (place_of t r) j
  own_number j m =
      let c : place_of t r < get_or (add_row t r).counts r.kind 0 = omega (arith, count_same f) in
      rw (lt-ltb _ _ c, stored_field f j m) (stored_number f j m)

  settled_added : Settled t → Settled (add_row t r)
  settled_added s = record { sized = added_sized f; numbers = numbers }
    where
      other : (k i j : ℕ) → k < stored_kinds → i < most_of k → j < 3 → (k ≡ r.kind → i ≡ place_of t r → ⊥)
          → number_at (add_row t r) k i j ≡ expected (add_row t r) k i j
      other k i j h l m ne = rw (other_number f k i j l m ne, other_field f k i j m ne, still k i ne) (s.numbers k i j h l m)

      numbers : (k i j : ℕ) → k < stored_kinds → i < most_of k → j < 3 → number_at (add_row t r) k i j ≡ expected (add_row t r) k i j
      numbers k i j h l m =
          cases (eqb k r.kind)
          (λ e. cases (eqb i (place_of t r))
          (λ d. rw (eqb-true k r.kind e, eqb-true i (place_of t r) d) (own_number j m))
          (λ d. other k i j h l m (λ p q. eqb-false i (place_of t r) d q)))
          (λ e. other k i j h l m (λ p q. eqb-false k r.kind e p))

settled_built : {t u : Table} {rs : List Row} → Built t rs u → Settled t → Settled u
settled_built done s = s
settled_built (more f b) s = settled_built b (settled_added f s)

-- such a table is canonical
settled_canonical : (t : Table) → Settled t → canonical t ≡ true
unfolding canonical number_ok field_of
settled_canonical t s =
    rw (eq-eqb _ _ s.sized.counted.kinds, eq-eqb _ _ s.sized.size)
    (each_all stored_kinds (λ k. each (most_of k) (λ i. each 3 (number_ok t k i))) (λ k h.
    each_all (most_of k) (λ i. each 3 (number_ok t k i)) (λ i l.
    each_all 3 (number_ok t k i) (λ j m.
    let n = s.numbers k i j h l m in
    cases (ltb i (get_or t.counts k 0))
    (λ e. rw e (kept_stored (form_of k j) (number_at t k i j) (sym (rw (e, lt-ltb _ _ l) at n))))
    (λ e. rw e (eq-eqb _ 0 (rw e at n)))))))

-- each number stands in the row of a kind: among the rows of the first n kinds
by_row : (P : ℕ → Type 0) → ((k i j : ℕ) → k < stored_kinds → i < most_of k → j < 3 → P (slot_of k i + j))
    → (n : ℕ) → n ≤ stored_kinds → (q j : ℕ) → q < base_of n → j < 3 → P (3 * q + j)
by_row P f zero m q j h l = absurd (omega (arith, base_first))
by_row P f (suc n) m q j h l =
    order q (base_of n)
    (λ a. by_row P f n (omega arith) q j a l)
    (λ a.
    let e : base_of n + (q - base_of n) ≡ q = omega arith in
    rw e at (f n (q - base_of n) j m (omega (arith, base_next n)) l))

by_place : (P : ℕ → Type 0) → ((k i j : ℕ) → k < stored_kinds → i < most_of k → j < 3 → P (slot_of k i + j))
    → (p : ℕ) → p < slots → P p
by_place P f p h =
    let e = div-add-mod p 3 in
    let l = mod-lt p (zero-lt-suc 2) in
    rw e at (by_row P f stored_kinds (omega arith) (p / 3) (p % 3) (omega (arith, base_last)) l)

-- a canonical table is the one that its rows make
module _ (t u : Table) (e : rows_of t ≡ rows_of u) (s : Settled u) (c : canonical t ≡ true) where
  record Parts : Type 0 where
    counts : length t.counts ≡ stored_kinds
    rows : length t.rows ≡ slots
    numbers : (k i j : ℕ) → k < stored_kinds → i < most_of k → j < 3 → number_ok t k i j ≡ true

  parts : Parts
  unfolding canonical
  parts =
      let a = both (eqb (length t.counts) stored_kinds) c in
      let b = both (eqb (length t.rows) slots) a.1 in
      record {
        counts = eqb-true _ _ a.0;
        rows = eqb-true _ _ b.0;
        numbers = λ k i j h l m. each_at 3 _ (each_at (most_of k) _ (each_at stored_kinds _ b.1 k h) i l) j m;
      }

  same_field : (k i j : ℕ) → k < stored_kinds → i < get_or t.counts k 0 → j < 3 → field_of u.rows k i j ≡ field_of t.rows k i j
  same_field k i j h l =
      let r = (same_grown t u e).rows k i h l in
      three (λ j. field_of u.rows k i j ≡ field_of t.rows k i j)
      (ap (λ (x : Row). x.a) r) (ap (λ (x : Row). x.b) r) (ap (λ (x : Row). x.c) r) j

  same_number : (k i j : ℕ) → k < stored_kinds → i < most_of k → j < 3 → number_at u k i j ≡ number_at t k i j
  unfolding number_ok field_of
  same_number k i j h l m =
      let n = s.numbers k i j h l m in
      let ok = parts.numbers k i j h l m in
      rw (n, ← same_counts t u e k h)
      (cases (ltb i (get_or t.counts k 0))
      (λ b.
      let kept = stored_kept (form_of k j) (number_at t k i j) (rw b at ok) in
      rw (b, same_field k i j h (ltb-true _ _ b) m, lt-ltb _ _ l) kept)
      (λ b. rw b (sym (eqb-true _ _ (rw b at ok)))))

  same_table : u ≡ t
  same_table =
      let counts : u.counts ≡ t.counts =
      ext_get_or 0 u.counts t.counts (s.sized.counted.kinds ∙ sym parts.counts)
      (λ k h. sym (same_counts t u e k (omega (arith, s.sized.counted.kinds)))) in
      let rows : u.rows ≡ t.rows =
      ext_get_or 0 u.rows t.rows (s.sized.size ∙ sym parts.rows)
      (λ p h. by_place (λ p. get_or u.rows p 0 ≡ get_or t.rows p 0) same_number p (omega (arith, s.sized.size))) in
      rw (counts, rows)

-- an accepted table is the one that its rows make exactly where it is canonical
pub canonical_same : (t u : Table) → check_table t ≡ accepts u → u ≡ t ↔ canonical t ≡ true
canonical_same t u e =
    let b = (table_whole t u e).built in
    let s = settled_built b settled_empty in
    (λ q. rw q at (settled_canonical u s), λ c. same_table t u (sym (built_all b)) s c)
