-- The marks beside the rows: they agree with the empty table, stay so with each accepted row, and answer what else walks the rows.
use Prim.Native.Nat.{ℕ, ◌≤◌, ◌<◌}
use mathlib.Core.Path.{◌≡◌, refl, sym, ap, ◌∙◌}
use mathlib.Core.List.{List}
use mathlib.Core.Bool.{Bool, true, false, not}
use native.Mathlib.Omega.{arith}
use native.Mathlib.Numerals.{add-one}
use lib.ListN.{length, get_or, set, replicate, length-set, length-replicate, get_or-replicate}
use lib.Seq.{get_or-set_same, get_or-set_other}
use lib.Dec.{ltb, leb, eqb}
use borrow.Author.Tests.{eq-eqb, ne_eqb, lt-ltb, le-ltb, le-leb, lt-leb, eqb-true, eqb-false}
use Rattle.text.specs.Parts.{pick}
use Rattle.text.proofs.Picks.{cases, order}
use Rattle.row.specs.Kinds.{form_of}
use Rattle.row.specs.declared.Row.{Row}
use Rattle.model.specs.Tests.{◌and◌, ◌or◌, each, some, need}
use Rattle.model.specs.Limits.{most_tasks, most_acts, most_codels}
use Rattle.model.specs.Tables.{is_kind}
use Rattle.model.specs.Tables as model
use Rattle.model.specs.Rows.{has_act, has_start, leaves, last_fault}
use Rattle.table.specs.Tables.{empty_table, row_of, add_row, table_of}
use Rattle.table.specs.Checks.{row_fault}
use Rattle.table.specs.Marks.{task_mark, kind_mark, codel_mark, no_mark, marks_length, mark_of, marked, Marked, Building}
use Rattle.table.specs.declared.Table.{Table}
use Rattle.table.proofs.Tests.{both, agree, each_same, some_same, each_not}
use Rattle.table.specs.Worded.{Worded}
use Rattle.table.proofs.Fields.{row_by, limit_of, below_limit, Limited}
use Rattle.table.proofs.Accepted.{Sized, Follows, accepted}
use Rattle.table.proofs.RowsOf.{some_row}
use Rattle.table.proofs.Stored.{empty_sized, added_sized, place_of, stored, others, count_same, count_other}

unmarked : (i : ℕ) → i < marks_length → marked (replicate marks_length 0) i ≡ false
unmarked i h = rw (get_or-replicate {A = ℕ} marks_length i 0 0 h)

-- the empty table has no marks
pub marked_empty : Marked (table_of empty_table) (replicate marks_length 0)
unfolding table_of some
marked_empty =
    record {
      size = length-replicate {A = ℕ} marks_length 0;
      tasks = λ t h. unmarked (task_mark t) (omega arith);
      kinds = λ z a h l. unmarked (kind_mark z a) (omega arith);
      codels = λ c h. unmarked (codel_mark c) (omega arith);
    }

or_true : (b : Bool) → b or true ≡ true
or_true true = refl
or_true false = refl

pub or_false : (b : Bool) → b or false ≡ b
or_false true = refl
or_false false = refl

-- a mark after one is set
pub marks_set : (marks : List ℕ) (m i : ℕ) → (m ≡ i → m < length marks) → marked (set marks m 1) i ≡ marked marks i or eqb m i
marks_set marks m i h =
    cases (eqb m i)
    (λ e. let q = eqb-true m i e in rw (← q, get_or-set_same marks m 1 0 (h q), eq-eqb m m refl) (sym (or_true (marked marks m))))
    (λ e. rw (get_or-set_other marks m i 1 0 (λ q. eqb-false m i e (sym q)), e) (sym (or_false (marked marks i))))

-- a row of a kind that makes none of the marks that are asked for
record Markless (r : Row) : Type 0 where
  none : mark_of r ≡ no_mark
  act : eqb r.kind 1 ≡ false
  codel : eqb r.kind 2 ≡ false
  edge : eqb r.kind 3 ≡ false

-- by the kinds that make marks: an activity, a codel, an edge
by_mark : (P : Row → Type 0) → ((a b c : ℕ) → P (row_by 1 a b c)) → ((a b c : ℕ) → P (row_by 2 a b c)) → ((a b c : ℕ) → P (row_by 3 a b c))
    → ((r : Row) → Markless r → P r) → (r : Row) → P r
unfolding mark_of
by_mark P p₁ p₂ p₃ p r =
    cases (eqb r.kind 1)
    (λ e. at 1 (eqb-true _ _ e) (p₁ r.a r.b r.c))
    (λ e. cases (eqb r.kind 2)
    (λ f. at 2 (eqb-true _ _ f) (p₂ r.a r.b r.c))
    (λ f. cases (eqb r.kind 3)
    (λ g. at 3 (eqb-true _ _ g) (p₃ r.a r.b r.c))
    (λ g. p r (record { none = rw (e, f, g); act = e; codel = f; edge = g }))))
  where
    at : (k : ℕ) → r.kind ≡ k → P (row_by k r.a r.b r.c) → P r
    at k e q = rw (← e) at q

-- a row within its limits makes one of the marks
mark_room : (r : Row) → Limited r → mark_of r < marks_length
unfolding mark_of limit_of form_of
mark_room =
    by_mark (λ r. Limited r → mark_of r < marks_length)
    (λ a b c l. omega (arith, below_limit 1 0 a refl (l 0 (omega arith))))
    (λ a b c l.
    let n = below_limit 2 0 a refl (l 0 (omega arith)) in
    order b 2 (λ m. rw (lt-ltb _ _ m) (omega arith)) (λ m. rw (le-ltb _ _ m) (omega arith)))
    (λ a b c l. omega (arith, below_limit 3 0 a refl (l 0 (omega arith))))
    (λ r n l. omega (arith, n.none))

-- it makes mark i just where it is of kind k and q holds of it
abbrev Makes : ℕ → ℕ → (Row → Bool) → Row → Type 0
Makes i k q r = Limited r → eqb (mark_of r) i ≡ eqb r.kind k and q r

-- the mark of a codel's row is another
codel_apart : (a b i : ℕ) → (b < 2 → kind_mark b a ≡ i → ⊥) → (no_mark ≡ i → ⊥) → eqb (pick (ltb b 2) (kind_mark b a) no_mark) i ≡ false
codel_apart a b i h l = order b 2 (λ m. rw (lt-ltb _ _ m) (ne_eqb (kind_mark b a) i (h m))) (λ m. rw (le-ltb _ _ m) (ne_eqb no_mark i l))

task_mark_lem : (t : ℕ) → t < most_tasks → (r : Row) → Makes (task_mark t) 1 (λ r. eqb r.a t) r
unfolding mark_of
task_mark_lem t h =
    by_mark (Makes (task_mark t) 1 (λ r. eqb r.a t))
    (λ a b c l. refl)
    (λ a b c l. codel_apart a b t (λ m e. omega arith) (λ e. omega arith))
    (λ a b c l. ne_eqb (codel_mark a) t (λ e. omega arith))
    (λ r n l. rw (n.none, n.act) (ne_eqb no_mark t (λ e. omega arith)))

kind_mark_lem : (z x : ℕ) → z < 2 → x < most_acts → (r : Row) → Makes (kind_mark z x) 2 (λ r. eqb r.a x and eqb r.b z) r
unfolding mark_of limit_of form_of
kind_mark_lem z x h m =
    by_mark (Makes i 2 (λ r. eqb r.a x and eqb r.b z))
    (λ a b c l. let n = below_limit 1 0 a refl (l 0 (omega arith)) in ne_eqb a i (λ e. omega arith))
    (λ a b c l.
    let n = below_limit 2 0 a refl (l 0 (omega arith)) in
    agree (eqb (pick (ltb b 2) (kind_mark b a) no_mark) i) (eqb a x and eqb b z)
    (λ e. order b 2
    (λ o.
    let d : kind_mark b a ≡ i = eqb-true _ _ (rw (lt-ltb _ _ o) at e) in
    rw (eq-eqb a x (omega arith), eq-eqb b z (omega arith)))
    (λ o. let d : no_mark ≡ i = eqb-true _ _ (rw (le-ltb _ _ o) at e) in absurd (omega arith)))
    (λ e. let d = both (eqb a x) e in rw (eqb-true a x d.0, eqb-true b z d.1, lt-ltb _ _ h) (eq-eqb i i refl)))
    (λ a b c l. ne_eqb (codel_mark a) i (λ e. omega arith))
    (λ r n l. rw (n.none, n.codel) (ne_eqb no_mark i (λ e. omega arith)))
  where
    i : ℕ
    i = kind_mark z x

codel_mark_lem : (x : ℕ) → x < most_codels → (r : Row) → Makes (codel_mark x) 3 (λ r. eqb r.a x) r
unfolding mark_of limit_of form_of
codel_mark_lem x h =
    by_mark (Makes (codel_mark x) 3 (λ r. eqb r.a x))
    (λ a b c l. let n = below_limit 1 0 a refl (l 0 (omega arith)) in ne_eqb a (codel_mark x) (λ e. omega arith))
    (λ a b c l. let n = below_limit 2 0 a refl (l 0 (omega arith)) in codel_apart a b (codel_mark x) (λ m e. omega arith) (λ e. omega arith))
    (λ a b c l.
    agree (eqb (codel_mark a) (codel_mark x)) (eqb a x)
    (λ e. let d = eqb-true (codel_mark a) (codel_mark x) e in eq-eqb a x (omega arith))
    (λ e. rw (eqb-true a x e) (eq-eqb (codel_mark x) (codel_mark x) refl)))
    (λ r n l. rw (n.none, n.edge) (ne_eqb no_mark (codel_mark x) (λ e. omega arith)))

module _ {t : Table} {r : Row} (f : Follows t r) where
  -- a test of some row of a kind, after an accepted row
  some_added : (k : ℕ) (q : Row → Bool) → some_row (add_row t r) k q ≡ some_row t k q or (eqb r.kind k and q r)
  unfolding some
  some_added k q =
      let old : (n : ℕ) → ((i : ℕ) → i < n → k ≡ r.kind → i ≡ place_of t r → ⊥)
      → some n (λ i. q (row_of (add_row t r).rows k i)) ≡ some n (λ i. q (row_of t.rows k i)) =
      λ n ne. some_same (λ i. q (row_of (add_row t r).rows k i)) (λ i. q (row_of t.rows k i)) n (λ i l. ap q (others f k i (ne i l))) in
      cases (eqb r.kind k)
      (λ e.
      let z : r.kind ≡ k = eqb-true _ _ e in
      let o = rw (← z) at (old (place_of t r) (λ i l p x. omega arith)) in
      rw (e, ← z, count_same f, add-one, stored f, o))
      (λ e.
      let ne : k ≡ r.kind → ⊥ = λ z. eqb-false r.kind k e (sym z) in
      rw (e, count_other f k ne, old (get_or t.counts k 0) (λ i l p x. ne p)) (sym (or_false (some_row t k q))))

  -- the marks stay in agreement
  pub marked_added : (marks : List ℕ) → Marked (table_of t) marks → Marked (table_of (add_row t r)) (set marks (mark_of r) 1)
  unfolding table_of
  marked_added marks m =
      record {
        size = length-set marks (mark_of r) 1 ∙ m.size;
        tasks = λ x h. still (task_mark x) 1 (λ q. eqb q.a x) (m.tasks x h) (task_mark_lem x h r);
        kinds = λ z x h j.
            still (kind_mark z x) 2 (λ q. eqb q.a x and eqb q.b z) (m.kinds z x h j) (kind_mark_lem z x h j r);
        codels = λ x h. still (codel_mark x) 3 (λ q. eqb q.a x) (m.codels x h) (codel_mark_lem x h r);
      }
    where
      still : (i k : ℕ) (q : Row → Bool) → marked marks i ≡ some_row t k q → Makes i k q r
          → marked (set marks (mark_of r) 1) i ≡ some_row (add_row t r) k q
      still i k q now makes =
          let l = (accepted f).limited in
          marks_set marks (mark_of r) i (λ e. rw m.size (mark_room r l)) ∙ rw (now, makes l) (sym (some_added k q))

-- the empty table is being built
pub building_empty : Building empty_table (replicate marks_length 0)
building_empty = record { size = empty_sized.size; counted = empty_sized.counted; noted = marked_empty }

-- a table that is being built with its marks is one that is being built
pub building_sized : {t : Table} {marks : List ℕ} → Building t marks → Sized t
building_sized b = record { size = b.size; counted = b.counted }

-- and stays so with each accepted row
pub building_added : (t : Table) (r : Row) (marks : List ℕ) → Building t marks → Worded r → row_fault t r ≡ 0
    → Building (add_row t r) (set marks (mark_of r) 1)
building_added t r marks b w e =
    let f : Follows t r = record { sized = building_sized b; worded = w; fine = e } in
    let s = added_sized f in
    record { size = s.size; counted = s.counted; noted = marked_added f marks b.noted }

module _ (K : model.Table) (marks : List ℕ) (m : Marked K marks) where
  -- 7, "after the last row", by marks
  pub last_by_marks : K.ntasks ≤ most_tasks → K.nacts ≤ most_acts → K.ncodels ≤ most_codels
      → last_fault K ≡ need (leb 1 K.ntasks and each K.ntasks (λ t. marked marks (task_mark t))
      and each K.nacts (λ a. marked marks (kind_mark 0 a)) and each K.ncodels (λ c. marked marks (codel_mark c))) 7 0
  unfolding last_fault
  last_by_marks a b c =
      rw (
        each_same (λ t. marked marks (task_mark t)) (has_act K) K.ntasks (λ t h. m.tasks t (omega arith)),
        each_same (λ x. marked marks (kind_mark 0 x)) (has_start K) K.nacts (λ x h. m.kinds 0 x (omega arith) (omega arith)),
        each_same (λ x. marked marks (codel_mark x)) (leaves K) K.ncodels (λ x h. m.codels x (omega arith)),
      )

  -- 5 of a codel, "second start or stop of an activity", by marks
  pub alone_by_marks : (z a : ℕ) → a < most_acts
      → leb 2 z or each K.ncodels (λ c. not (is_kind K a z c)) ≡ leb 2 z or not (marked marks (kind_mark z a))
  alone_by_marks z a h =
      order z 2
      (λ l. rw (lt-leb _ _ l, m.kinds z a l h, each_not K.ncodels (is_kind K a z)))
      (λ l. rw (le-leb _ _ l))
