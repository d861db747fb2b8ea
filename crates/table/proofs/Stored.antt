-- What is stored of an accepted row is what it says, and nothing else changes.
use Prim.Native.Nat.{ℕ, zero, suc, ◌+◌, ◌≤◌, ◌<◌}
use mathlib.Core.Path.{◌≡◌, refl, ap, ◌∙◌}
use mathlib.Core.List.{List, [], ◌∷◌}
use native.Mathlib.Omega.{arith}
use lib.ListN.{length, get_or, set, length-set, length-replicate, get_or-replicate}
use lib.Seq.{sets, get_or-set_same, get_or-set_other, length-sets}
use lib.Dec.{ltb, eqb}
use borrow.Author.Tests.{lt-ltb, ltb-true, eqb-true, eqb-false}
use Rattle.text.proofs.Picks.{cases, order}
use Rattle.row.specs.Kinds.{RowKind, kinds, none, stored_kinds, most_of}
use Rattle.row.specs.declared.Row.{Row}
use Rattle.table.specs.Tables.{room_in, most_rows, slots, empty_table, base_of, slot_of, narrowed, field_of, row_of, add_row}
use Rattle.table.specs.declared.Table.{Table}
use Rattle.table.specs.Worded.{value_at}
use Rattle.table.proofs.Fields.{three, kept}
use Rattle.table.proofs.Accepted.{Sized, Follows, accepted}

-- a run of stores leaves every other place
sets_other : (vs l : List ℕ) (i k : ℕ) → ((j : ℕ) → j < length vs → k ≡ i + j → ⊥) → get_or (sets l i vs) k 0 ≡ get_or l k 0
sets_other [] l i k h = refl
sets_other (v ∷ vs) l i k h =
    sets_other vs (set l i v) (suc i) k (λ j b e. h (suc j) (omega arith) (omega arith))
    ∙ get_or-set_other l i k v 0 (λ e. h 0 (omega arith) (omega arith))

-- and each value stands in its place
sets_same : (vs l : List ℕ) (i j : ℕ) → j < length vs → i + length vs ≤ length l → get_or (sets l i vs) (i + j) 0 ≡ get_or vs j 0
sets_same [] l i j h b = absurd (omega arith)
sets_same (v ∷ vs) l i zero h b =
    let e : i + 0 ≡ i = omega arith in
    rw e (sets_other vs (set l i v) (suc i) i (λ j k q. omega arith) ∙ get_or-set_same l i v 0 (omega arith))
sets_same (v ∷ vs) l i (suc j) h b =
    let e : i + suc j ≡ suc i + j = omega arith in
    rw e (sets_same vs (set l i v) (suc i) j (omega arith) (omega (arith, length-set l i v)))

-- the rows of a kind begin where those of the kind before end, and the last end with the rows
room_next : (xs : List RowKind) (k : ℕ) → room_in xs (suc k) ≡ room_in xs k + (get_or xs k none).most
room_next [] zero = refl
room_next [] (suc k) = refl
room_next (x ∷ xs) zero = omega arith
room_next (x ∷ xs) (suc k) = omega (arith, room_next xs k)

pub base_first : base_of 0 ≡ 0
unfolding base_of
base_first = refl

pub base_next : (k : ℕ) → base_of (suc k) ≡ base_of k + most_of k
unfolding base_of most_of
base_next k = room_next kinds k

pub base_last : base_of stored_kinds ≡ most_rows
unfolding base_of
base_last = refl

-- the places by kind, as the code lists them
abbrev bases_from : ℕ → List RowKind → ℕ → List ℕ
bases_from b xs zero = []
bases_from b [] (suc n) = []
bases_from b (x ∷ xs) (suc n) = b ∷ bases_from (b + x.most) xs n

pub base_listed : (k : ℕ) → k < stored_kinds → get_or (bases_from 0 kinds stored_kinds) k 0 ≡ base_of k
unfolding base_of
base_listed k h = at kinds 0 stored_kinds k h (omega arith) ∙ omega arith
  where
    at : (xs : List RowKind) (b n i : ℕ) → i < n → n ≤ length xs → get_or (bases_from b xs n) i 0 ≡ b + room_in xs i
    at xs b zero i l m = absurd (omega arith)
    at [] b (suc n) i l m = absurd (omega arith)
    at (x ∷ xs) b (suc n) zero l m = omega arith
    at (x ∷ xs) b (suc n) (suc i) l m = at xs (b + x.most) n i (omega arith) (omega arith) ∙ omega arith

-- so each kind has its own stretch of them
stretches : (k m : ℕ) → k < m → base_of k + most_of k ≤ base_of m
stretches k zero l = absurd (omega arith)
stretches k (suc m) l =
    order k m
    (λ a. omega (arith, stretches k m a, base_next m))
    (λ a. let e : k ≡ m = omega arith in rw e (omega (arith, base_next m)))

pub stretch : (k : ℕ) → k < stored_kinds → base_of k + most_of k ≤ most_rows
stretch k h = omega (arith, stretches k stored_kinds h, base_last)

apart : (k i m n : ℕ) → i < most_of k → n < most_of m → (k ≡ m → i ≡ n → ⊥) → base_of k + i ≡ base_of m + n → ⊥
apart k i m n a b ne e =
    order k m
    (λ c. omega (arith, stretches k m c))
    (λ c. order m k
    (λ d. omega (arith, stretches m k d))
    (λ d. let q : k ≡ m = omega arith in ne q (omega (arith, ap base_of q))))

-- the empty table is one that is being built
pub empty_sized : Sized empty_table
empty_sized =
    record {
      size = length-replicate {A = ℕ} slots 0;
      counted = record { kinds = refl; most = λ k h. rw (get_or-replicate {A = ℕ} stored_kinds k 0 0 h) (omega arith) };
    }

-- how many rows of its kind stand before it
abbrev pub place_of : Table → Row → ℕ
place_of t r = get_or t.counts r.kind 0

-- the numbers of a row as they are stored
abbrev numbers : Row → List ℕ
numbers r = narrowed r.a ∷ narrowed r.b ∷ narrowed r.c ∷ []

-- an accepted row, stored behind the rows of t
module _ {t : Table} {r : Row} (f : Follows t r) where
  pub stored_number : (j : ℕ) → j < 3 → get_or (add_row t r).rows (slot_of r.kind (place_of t r) + j) 0 ≡ narrowed (value_at r j)
  unfolding add_row
  stored_number j h =
      let c = (accepted f).room in
      let b = stretch r.kind f.worded.kind in
      sets_same (numbers r) t.rows (slot_of r.kind (place_of t r)) j h (omega (arith, f.sized.size))
      ∙ three (λ i. get_or (numbers r) i 0 ≡ narrowed (value_at r i)) refl refl refl j h

  pub stored_field : (j : ℕ) → j < 3 → field_of (add_row t r).rows r.kind (place_of t r) j ≡ value_at r j
  unfolding field_of
  stored_field j h =
      let a = accepted f in
      rw (lt-ltb _ _ a.room, stored_number j h) (kept r.kind f.worded.kind j h (value_at r j) (a.limited j h))

  -- what is stored of the row is what it says
  pub stored : row_of (add_row t r).rows r.kind (place_of t r) ≡ r
  stored = rw (stored_field 0 (omega arith), stored_field 1 (omega arith), stored_field 2 (omega arith))

  pub other_number : (k i j : ℕ) → i < most_of k → j < 3 → (k ≡ r.kind → i ≡ place_of t r → ⊥)
      → get_or (add_row t r).rows (slot_of k i + j) 0 ≡ get_or t.rows (slot_of k i + j) 0
  unfolding add_row
  other_number k i j b l ne =
      let a = apart k i r.kind (place_of t r) b (accepted f).room ne in
      sets_other (numbers r) t.rows (slot_of r.kind (place_of t r)) (slot_of k i + j) (λ m d q. a (omega arith))

  pub other_field : (k i j : ℕ) → j < 3 → (k ≡ r.kind → i ≡ place_of t r → ⊥) → field_of (add_row t r).rows k i j ≡ field_of t.rows k i j
  unfolding field_of
  other_field k i j l ne = cases (ltb i (most_of k)) (λ e. rw (e, other_number k i j (ltb-true _ _ e) l ne)) (λ e. rw e)

  -- no other row changes
  pub others : (k i : ℕ) → (k ≡ r.kind → i ≡ place_of t r → ⊥) → row_of (add_row t r).rows k i ≡ row_of t.rows k i
  others k i ne = rw (other_field k i 0 (omega arith) ne, other_field k i 1 (omega arith) ne, other_field k i 2 (omega arith) ne)

  -- there is one row more of its kind
  pub count_same : get_or (add_row t r).counts r.kind 0 ≡ place_of t r + 1
  unfolding add_row
  count_same = get_or-set_same t.counts r.kind (place_of t r + 1) 0 (omega (arith, f.sized.counted.kinds, f.worded.kind))

  -- and of no other
  pub count_other : (k : ℕ) → (k ≡ r.kind → ⊥) → get_or (add_row t r).counts k 0 ≡ get_or t.counts k 0
  unfolding add_row
  count_other k ne = get_or-set_other t.counts r.kind k (place_of t r + 1) 0 ne

  -- the table is still being built
  pub added_sized : Sized (add_row t r)
  unfolding add_row
  added_sized =
      record {
        size = length-sets t.rows (slot_of r.kind (place_of t r)) (numbers r) ∙ f.sized.size;
        counted = record {
          kinds = length-set t.counts r.kind (place_of t r + 1) ∙ f.sized.counted.kinds;
          most = λ k h.
              cases (eqb k r.kind)
              (λ e. rw (eqb-true k r.kind e) (omega (arith, count_same, (accepted f).room)))
              (λ e. rw (count_other k (eqb-false k r.kind e)) (f.sized.counted.most k h));
        };
      }
