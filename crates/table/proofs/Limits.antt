-- The numbers of a well-formed table: each row of it is within its limits.
use Prim.Native.Nat.{ℕ, ◌≤◌, ◌<◌}
use mathlib.Core.Path.{◌≡◌, sym, subst}
use mathlib.Core.List.{List}
use mathlib.Core.Bool.{true}
use native.Mathlib.Omega.{arith}
use lib.ListN.{get_or, get_or-replicate}
use Rattle.text.proofs.Picks.{order}
use Rattle.row.specs.Kinds.{stored_kinds, most_fields, most_of, form_of}
use Rattle.std.specs.Prelude.{Some}
use Rattle.row.specs.declared.Form.TheVariants as form
use Rattle.row.specs.declared.Row.{Row}
use Rattle.model.specs.Limits.{most_ticks}
use Rattle.model.specs.Rows.{wellformed}
use Rattle.table.specs.Tables.{empty_table, field_of, row_of, add_row, table_of}
use Rattle.table.specs.Checks.{rows_of, check_table}
use Rattle.table.specs.declared.Table.{Table}
use Rattle.table.proofs.Fields.{three, number_low, Limited}
use Rattle.table.proofs.Accepted.{Follows, accepted}
use Rattle.table.proofs.Stored.{empty_sized, stored}
use Rattle.table.proofs.Grown.{grown_added, added_place, same_counts, same_grown}
use Rattle.table.proofs.Built.{Built, done, more, built_sized, built_all, fine_accepts, table_whole}
use Rattle.table.proofs.Accepting.{accepted_exactly}

-- each row of a table is within its limits
abbrev AllLimited : Table → Type 0
AllLimited t = (k i : ℕ) → k < stored_kinds → i < get_or t.counts k 0 → Limited (row_of t.rows k i)

limited_empty : AllLimited empty_table
limited_empty k i h l = absurd (omega (arith, get_or-replicate {A = ℕ} stored_kinds k 0 0 h))

limited_added : {t : Table} {r : Row} → Follows t r → AllLimited t → AllLimited (add_row t r)
limited_added {t} {r} f a k i h l =
    order i (get_or t.counts k 0)
    (λ m. subst Limited (sym ((grown_added f).rows k i h m)) (a k i h m))
    (λ m.
    let p = added_place f k i m l in
    let e : row_of (add_row t r).rows k i ≡ r = rw (p.0, p.1) (stored f) in
    subst Limited (sym e) (accepted f).limited)

limited_built : {t u : Table} {rs : List Row} → Built t rs u → AllLimited t → AllLimited u
limited_built done a = a
limited_built (more f b) a = limited_built b (limited_added f a)

-- a number of a row of a well-formed table
module _ (t : Table) (w : wellformed (table_of t) ≡ true) (k i : ℕ) (h : k < stored_kinds) (l : i < get_or t.counts k 0) where
  made_of : Built empty_table (rows_of t) (check_table t).table
  made_of = (table_whole t (check_table t).table (fine_accepts (check_table t) ((accepted_exactly t).1 w))).built

  -- there is room for its row
  pub row_room : i < most_of k
  row_room = omega (arith, same_counts _ t (built_all made_of) k h, (built_sized empty_sized made_of).counted.most k h)

  -- and it is no larger than any
  pub number_most : (j : ℕ) → j < most_fields → form_of k j ≡ Some form.Number → field_of t.rows k i j ≤ most_ticks
  number_most =
      let u = (check_table t).table in
      let e = built_all made_of in
      let a : Limited (row_of t.rows k i) =
      subst Limited (sym ((same_grown u t e).rows k i h (omega (arith, same_counts u t e k h))))
      (limited_built made_of limited_empty k i h (omega (arith, same_counts u t e k h))) in
      three (λ j. form_of k j ≡ Some form.Number → field_of t.rows k i j ≤ most_ticks)
      (λ f. number_low k h 0 (omega arith) _ (a 0 (omega arith)) f)
      (λ f. number_low k h 1 (omega arith) _ (a 1 (omega arith)) f)
      (λ f. number_low k h 2 (omega arith) _ (a 2 (omega arith)) f)
