-- How long a table's text can be: so much a row by its kind, and there are only so many rows.
use Prim.Native.Nat.{ℕ, zero, suc, ◌+◌, ◌*◌, ◌^◌, ◌≤◌, ◌<◌}
use mathlib.Core.Path.{◌≡◌, refl}
use mathlib.Core.List.{List, [], ◌∷◌}
use mathlib.Core.Bool.{true, false}
use native.Mathlib.Omega.{arith}
use native.Mathlib.Nat.{mul-le-mul_left}
use lib.ListN.{length, get_or, length-append}
use lib.Dec.{eqb}
use borrow.Author.Tests.{ne_eqb}
use Rattle.text.specs.Parts.{pick}
use Rattle.text.specs.Number.{digits}
use Rattle.text.specs.Fields.{ether_value, ether_word}
use Rattle.text.proofs.Numbers.{digits_short}
use Rattle.text.proofs.Picks.{order}
use Rattle.row.specs.Kinds.{stored_kinds, kind_words, mode_words, word_of, most_of, form_of}
use Rattle.row.specs.Row.{row_line, row_text}
use Rattle.row.specs.declared.Row.{Row}
use Rattle.row.proofs.Tables.{word_within}
use Rattle.model.specs.Tests.{sum}
use Rattle.model.proofs.Sums.{sum_le}
use Rattle.table.specs.Tables.{most_rows, add_row}
use Rattle.table.specs.Checks.{accepts, rows_of, check_table, Passes}
use Rattle.table.specs.Texts.{longest, end_row, text_of, table_text}
use Rattle.table.specs.declared.Table.{Table}
use Rattle.table.proofs.Fields.{by_kind, is_target, limit_of, within, by_limit, below_limit, Limited}
use Rattle.table.proofs.Accepted.{Sized, Follows, accepted}
use Rattle.table.proofs.Stored.{empty_sized, count_same, count_other}
use Rattle.table.proofs.RowsOf.{rows_count}
use Rattle.table.proofs.Totals.{few_counted}
use Rattle.table.proofs.Built.{Built, done, more, built_sized, built_all, table_whole, fine_accepts}

-- the most bytes of a row, its newline among them
unfoldable wide_of : ℕ → ℕ
wide_of k = get_or (27 ∷ 7 ∷ 26 ∷ 21 ∷ 14 ∷ []) k 0

-- a number within its limit, a target
number_short : (k j v w : ℕ) → is_target (form_of k j) ≡ false → limit_of k j ≤ 10 ^ w → 1 ≤ w → within k j v ≡ true → length (digits v) ≤ w
number_short k j v w n b l h = let m = below_limit k j v n h in digits_short v w (omega arith) l

target_short : (b : ℕ) → within 3 1 b ≡ true → length (pick (eqb b ether_value) ether_word (digits b)) ≤ 5
unfolding limit_of ether_word
target_short b h =
    by_limit 3 1 b h
    (λ l. let n : b ≡ ether_value → ⊥ = λ e. omega arith in rw (ne_eqb _ _ n) (digits_short b 5 (omega arith) (omega arith)))
    (λ f e. rw e (omega arith))

-- a row within its limits is no longer
row_short : (r : Row) → r.kind < stored_kinds → Limited r → length (row_text r) ≤ wide_of r.kind
unfolding row_line word_of kind_words mode_words form_of limit_of wide_of
row_short =
    by_kind (λ r. Limited r → length (row_text r) ≤ wide_of r.kind)
    (λ a b c l.
    let p = number_short 0 0 a 10 refl (omega arith) (omega arith) (l 0 (omega arith)) in
    let q = number_short 0 1 b 10 refl (omega arith) (omega arith) (l 1 (omega arith)) in
    simp length-append (omega arith))
    (λ a b c l. let p = number_short 1 0 a 2 refl (omega arith) (omega arith) (l 0 (omega arith)) in simp length-append (omega arith))
    (λ a b c l.
    let p = number_short 2 0 a 2 refl (omega arith) (omega arith) (l 0 (omega arith)) in
    let q = word_within 5 kind_words b refl in
    let r = number_short 2 2 c 10 refl (omega arith) (omega arith) (l 2 (omega arith)) in
    simp length-append (omega arith))
    (λ a b c l.
    let p = number_short 3 0 a 3 refl (omega arith) (omega arith) (l 0 (omega arith)) in
    let q = target_short b (l 1 (omega arith)) in
    let r = word_within 5 mode_words c refl in
    simp length-append (omega arith))
    (λ a b c l.
    let p = number_short 4 0 a 3 refl (omega arith) (omega arith) (l 0 (omega arith)) in
    let q = number_short 4 1 b 3 refl (omega arith) (omega arith) (l 1 (omega arith)) in
    simp length-append (omega arith))

-- nor is the `end` row
end_short : (n : ℕ) → n < 10000 → length (row_text (end_row n)) ≤ 9
unfolding row_line word_of form_of
end_short n h = let p = digits_short n 4 h (omega arith) in simp length-append (omega arith)

-- so many bytes for so many rows of each kind
weight : List ℕ → ℕ
weight counts = sum stored_kinds (λ k. wide_of k * get_or counts k 0)

-- one row more of kind m
module _ (old new : List ℕ) (m : ℕ) (same : get_or new m 0 ≡ get_or old m 0 + 1) (other : (k : ℕ) → (k ≡ m → ⊥) → get_or new k 0 ≡ get_or old k 0) where
  before : (n : ℕ) → n ≤ m → sum n (λ k. wide_of k * get_or new k 0) ≡ sum n (λ k. wide_of k * get_or old k 0)
  unfolding sum
  before zero h = refl
  before (suc n) h = rw (before n (omega arith), other n (λ e. omega arith))

  weighed : (n : ℕ) → m < n → sum n (λ k. wide_of k * get_or new k 0) ≡ sum n (λ k. wide_of k * get_or old k 0) + wide_of m
  unfolding sum
  weighed zero h = absurd (omega arith)
  weighed (suc n) h =
      order m n
      (λ l. rw (weighed n l, other n (λ e. omega arith)) (omega arith))
      (λ l. let e : n ≡ m = omega arith in rw (before n (omega arith), e, same) (omega arith))

weight_added : {t : Table} {r : Row} → Follows t r → weight (add_row t r).counts ≡ weight t.counts + wide_of r.kind
unfolding weight
weight_added {t} {r} f = weighed t.counts (add_row t r).counts r.kind (count_same f) (count_other f) stored_kinds f.worded.kind

-- the text of rows that take t to u
built_short : {t u : Table} {rs : List Row} (n : ℕ) → Built t rs u
    → length (text_of n rs) + weight t.counts ≤ weight u.counts + length (row_text (end_row n))
unfolding text_of
built_short n done = omega arith
built_short n (more {r = r} {rs = rs} f b) =
    let p = row_short r f.worded.kind (accepted f).limited in
    rw (length-append (row_text r) (text_of n rs)) (omega (arith, built_short n b, weight_added f))

-- there are only so many rows of each kind
most_weight : (t : Table) → Sized t → weight t.counts ≤ sum stored_kinds (λ k. wide_of k * most_of k)
unfolding weight
most_weight t s =
    sum_le stored_kinds (λ k. wide_of k * get_or t.counts k 0) (λ k. wide_of k * most_of k) (λ k h. mul-le-mul_left (wide_of k) (s.counted.most k h))

-- so of all kinds of an accepted table
pub few_rows : (t u : Table) → check_table t ≡ accepts u → length (rows_of t) ≤ most_rows
few_rows t u e =
    let b = (table_whole t u e).built in
    rw (← built_all b, rows_count) (few_counted u.counts (built_sized empty_sized b).counted)

-- the text of an accepted table is short enough to be read
pub text_short : (t : Table) → Passes t → length (table_text t) ≤ longest
unfolding table_text most_of wide_of sum
text_short t e =
    let q = fine_accepts (check_table t) e in
    let b = (table_whole t (check_table t).table q).built in
    let m = few_rows t (check_table t).table q in
    let w = most_weight (check_table t).table (built_sized empty_sized b) in
    omega (arith, built_short (length (rows_of t)) b, end_short (length (rows_of t)) (omega arith))
