-- A text read line by line.
use Prim.Native.Nat.{ℕ, ◌+◌, ◌-◌, ◌≤◌, ◌<◌}
use mathlib.Core.Path.{◌≡◌, refl, sym, ◌∙◌}
use mathlib.Core.List.{List, [], ◌∷◌}
use mathlib.Core.Bool.{true, false}
use native.Mathlib.Omega.{arith}
use lib.ListN.{length, take, drop, drop_of_length-le}
use lib.Dec.{eqb}
use borrow.Author.Tests.{lt-ltb, le-ltb, eq-eqb, ne_eqb}
use Rattle.text.specs.Fields.{ether_value}
use Rattle.row.specs.Kinds.{end_kind}
use Rattle.row.specs.declared.Row.{Row}
use Rattle.table.specs.Tables.{empty_table, add_row}
use Rattle.table.specs.Faults.{number_of}
use Rattle.table.specs.Checks.{row_fault, Said, refused, on_fault}
use Rattle.table.specs.Worded.{Worded}
use Rattle.table.proofs.Fields.{ok_worded}
use Rattle.text.specs.Parts.{pick, parts_from, first_at}
use Rattle.text.proofs.Parts.{parts_cut, parts_none, parts_all, cut_length}
use Rattle.text.proofs.Seeking.{part_starts}
use Rattle.row.specs.Row.{read_row}
use Rattle.std.specs.Prelude.{Option, Some, None, is_some}
use Rattle.text.proofs.Picks.{false_true}
use Rattle.row.proofs.Rows.{row_read, row_bounds}
use Rattle.table.specs.Texts.{longest, is_empty, on_row, row_behind, fault_behind, at_end_row, read_lines, read_table}
use Rattle.table.specs.declared.Table.{Table}
use Rattle.table.specs.declared.fault.Fault.TheVariants as fault
use Rattle.table.specs.declared.fault.Refused.{Refused}
use Rattle.table.proofs.Answers.{stops, Is, told}

-- a line and those behind it
module _ (s : List ℕ) (at : ℕ) (h : at ≤ length s) (e : ℕ) (f : e ≡ first_at s at 10) where
  abbrev Next : List ℕ
  Next = take (e - at) (drop at s)

  cut : parts_from 10 s at ≡ Next ∷ parts_from 10 s (e + 1)
  cut = rw f (parts_cut 10 s at h)

  last : length s ≤ e → parts_from 10 s at ≡ Next ∷ []
  last l = let m : length s < e + 1 = omega arith in cut ∙ rw (parts_none 10 s (e + 1) m)

  -- it is not empty where the text ends without newline
  filled : at < length s → length s ≤ e → is_empty Next ≡ false
  filled l k = some Next (omega (arith, rw (← f) at (cut_length 10 s at h)))
    where
      some : (p : List ℕ) → 0 < length p → is_empty p ≡ false
      some [] b = absurd (omega arith)
      some (x ∷ xs) b = refl

  lines_row : (t : Table) (l : ℕ) → e < length s → read_lines t l (parts_from 10 s at)
      ≡ on_row (read_row Next)
      (λ r. pick (eqb r.kind end_kind) (at_end_row t l r.a (parts_from 10 s (e + 1)))
      (on_fault (row_fault t r) l (read_lines (add_row t r) (l + 1) (parts_from 10 s (e + 1)))))
      (refused 1 l)
  unfolding read_lines
  lines_row t l k = let m : e + 1 ≤ length s = omega arith in rw (cut, parts_cut 10 s (e + 1) m)

  behind_row : e < length s → fault_behind (parts_from 10 s at) ≡ row_behind (read_row Next)
  unfolding fault_behind
  behind_row k = let m : e + 1 ≤ length s = omega arith in rw (cut, parts_cut 10 s (e + 1) m)

-- nothing is left of the text
at_end_lem : (s : List ℕ) (at : ℕ) → at ≤ length s → length s ≤ at → parts_from 10 s at ≡ [] ∷ []
at_end_lem s at h l = rw (le-ltb _ _ h, drop_of_length-le s l)

-- what stands behind the `end` row
module _ (s : List ℕ) (at : ℕ) (h : at ≤ length s) where
  -- nothing
  pub behind_none : length s ≤ at → 0 ≡ fault_behind (parts_from 10 s at)
  unfolding fault_behind
  behind_none l = rw (at_end_lem s at h l)

  module _ (l : at < length s) (e : ℕ) (f : e ≡ first_at s at 10) where
    -- a line without newline
    pub behind_short : length s ≤ e → 1 ≡ fault_behind (parts_from 10 s at)
    unfolding fault_behind
    behind_short k = rw (last s at h e f k, filled s at h e f l k)

    module _ (k : e < length s) (x : Option Row) (q : x ≡ read_row (take (e - at) (drop at s))) where
      -- a line that is no row
      pub behind_bad : is_some x ≡ false → 1 ≡ fault_behind (parts_from 10 s at)
      behind_bad u = rw (behind_row s at h e f k, ← q) (bad x u)
        where
          bad : (y : Option Row) → is_some y ≡ false → 1 ≡ row_behind y
          bad (Some r) z = absurd (false_true (sym z))
          bad None z = refl

      -- a row
      pub behind_is : is_some x ≡ true → 2 ≡ fault_behind (parts_from 10 s at)
      behind_is u = rw (behind_row s at h e f k, ← q) (good x u)
        where
          good : (y : Option Row) → is_some y ≡ true → 2 ≡ row_behind y
          good (Some r) z = refl
          good None z = absurd (false_true z)

-- a row that a line said
pub said_small : (p : List ℕ) (x : Option Row) → x ≡ read_row p → (r : Row) → x ≡ Some r → r.b ≤ ether_value
said_small p x q r u = (row_bounds r (row_read p r (sym q ∙ u)).1).b

-- is worded as a table's rows are where it is no `end` row
pub said_worded : (p : List ℕ) (x : Option Row) → x ≡ read_row p → (r : Row) → x ≡ Some r → (r.kind ≡ end_kind → ⊥) → Worded r
said_worded p x q r u n = ok_worded r n (row_read p r (sym q ∙ u)).1

-- a text that is too long
pub read_long : (s : List ℕ) → longest < length s → (x : Refused) → Is x fault.Limit 0 → refused (number_of x.fault) x.line ≡ read_table s
unfolding read_table
read_long s h x q = told x _ _ q ∙ rw (lt-ltb _ _ h)

-- a text being read, line l of it at a place: the rows so far make t, and reading the lines left gives what reading all gives
pub record Reading (s : List ℕ) (at l : ℕ) (t : Table) : Type 0 where
  pub place : at ≤ length s
  pub first : 1 ≤ l
  pub line : l ≤ at + 1
  pub same : read_lines t l (parts_from 10 s at) ≡ read_table s

-- before the first line
pub read_start : (s : List ℕ) → length s ≤ longest → (t : Table) → t ≡ empty_table → Reading s 0 1 t
unfolding read_table
read_start s h t e = record { place = omega arith; first = omega arith; line = omega arith; same = rw (e, le-ltb _ _ h, parts_all 10 s) }

module _ {s : List ℕ} {at l : ℕ} {t : Table} (c : Reading s at l t) where
  -- 6: no line is left
  pub read_absent : length s ≤ at → (x : Refused) → Is x fault.End l → refused (number_of x.fault) x.line ≡ read_table s
  unfolding read_lines
  read_absent k x z = told x _ _ z ∙ rw (at_end_lem s at c.place k) at c.same

  module _ (b : at < length s) (e : ℕ) (f : e ≡ first_at s at 10) where
    -- 1: a line without newline
    pub read_short : length s ≤ e → (x : Refused) → Is x fault.Form l → refused (number_of x.fault) x.line ≡ read_table s
    unfolding read_lines
    read_short k x z = told x _ _ z ∙ rw (last s at c.place e f k, filled s at c.place e f b k) at c.same

    -- each turn leaves less
    pub read_less : length s - (e + 1) < length s - at
    read_less = omega (arith, part_starts s at e 10 c.place f)

    module _ (k : e < length s) (y : Option Row) (q : y ≡ read_row (take (e - at) (drop at s))) where
      -- 1: a line that is no row
      pub read_bad : y ≡ None → (x : Refused) → Is x fault.Form l → refused (number_of x.fault) x.line ≡ read_table s
      read_bad u x z = told x _ _ z ∙ rw (lines_row s at c.place e f t l k, ← q, u) at c.same

      module _ (r : Row) (u : y ≡ Some r) where
        -- the `end` row
        pub read_end : r.kind ≡ end_kind → (x : Said) → x ≡ at_end_row t l r.a (parts_from 10 s (e + 1)) → x ≡ read_table s
        read_end i x z = z ∙ rw (lines_row s at c.place e f t l k, ← q, u, eq-eqb _ _ i) at c.same

        module _ (i : r.kind ≡ end_kind → ⊥) where
          row_next : on_fault (row_fault t r) l (read_lines (add_row t r) (l + 1) (parts_from 10 s (e + 1))) ≡ read_table s
          row_next = rw (lines_row s at c.place e f t l k, ← q, u, ne_eqb _ _ i) at c.same

          -- the row is refused
          pub read_refused : (x : Refused) → number_of x.fault ≡ row_fault t r → x.line ≡ l → refused (number_of x.fault) x.line ≡ read_table s
          read_refused x d z = rw z (stops x.fault _ l _ d) ∙ row_next

          -- the row was stored
          pub read_more : row_fault t r ≡ 0 → (w : Table) → w ≡ add_row t r → Reading s (e + 1) (l + 1) w
          read_more d w p =
              record {
                place = omega arith;
                first = omega arith;
                line = omega (arith, c.line, part_starts s at e 10 c.place f);
                same = rw p (rw d at row_next);
              }
