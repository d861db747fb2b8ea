-- The marks that rows make, and what is missing after the last row.
use Prim.Native.Nat.{ℕ, ◌+◌, ◌-◌, ◌≤◌, ◌<◌}
use mathlib.Core.Path.{◌≡◌, ◌∙◌}
use mathlib.Core.List.{List}
use mathlib.Core.Bool.{Bool, true, false, not}
use native.Mathlib.Omega.{arith}
use lib.ListN.{length, get_or, take, drop}
use lib.Dec.{leb, eqb}
use borrow.Author.Tests.{lt-ltb, le-ltb, le-leb, ne_eqb}
use Rattle.text.proofs.Picks.{order}
use Rattle.row.specs.Kinds.{most_of}
use Rattle.row.specs.declared.Row.{Row}
use Rattle.model.specs.Tests.{◌and◌, each, need}
use Rattle.model.specs.Rows.{last_fault}
use Rattle.model.proofs.Asked.{no_by, yes_by}
use Rattle.table.specs.Tables.{table_of}
use Rattle.table.specs.declared.Table.{Table}
use Rattle.std.proofs.lemmas.List.{length-take, length-drop, get_or-take, get_or-drop}
use Rattle.table.specs.Marks.{kind_mark, codel_mark, no_mark, mark_of, marked, Building}
use Rattle.std.specs.List.{list_all}
use Rattle.table.proofs.Tests.{each_same, list_each}
use Rattle.table.proofs.Marks.{last_by_marks}

-- the mark that a row makes
module _ (r : Row) where
  -- an activity marks its task
  pub mark_task : r.kind ≡ 1 → r.a ≡ mark_of r
  unfolding mark_of
  mark_task a = rw a

  -- a start or a stop marks its activity's
  pub mark_kind : r.kind ≡ 2 → r.b < 2 → kind_mark r.b r.a ≡ mark_of r
  unfolding mark_of
  mark_kind a h = rw (a, lt-ltb _ _ h)

  -- another codel marks nothing
  pub mark_main : r.kind ≡ 2 → 2 ≤ r.b → no_mark ≡ mark_of r
  unfolding mark_of
  mark_main a h = rw (a, le-ltb _ _ h)

  -- an edge marks its codel
  pub mark_edge : r.kind ≡ 3 → codel_mark r.a ≡ mark_of r
  unfolding mark_of
  mark_edge a = rw a

  -- any other row marks nothing
  pub mark_none : (r.kind ≡ 1 → ⊥) → (r.kind ≡ 2 → ⊥) → (r.kind ≡ 3 → ⊥) → no_mark ≡ mark_of r
  unfolding mark_of
  mark_none a b c = rw (ne_eqb _ _ a, ne_eqb _ _ b, ne_eqb _ _ c)

-- marks that stand from a place on
pub made_from : (marks : List ℕ) (from n : ℕ) → from + n ≤ length marks
    → list_all (λ m. eqb m 1) (take (from + n - from) (drop from marks)) ≡ each n (λ i. marked marks (from + i))
made_from marks from n h =
    let z : from + n - from ≡ n = omega arith in
    let l : length (take n (drop from marks)) ≡ n = rw (length-take, length-drop) (omega arith) in
    rw (z, list_each (λ m. eqb m 1) (take n (drop from marks)), l)
    (each_same (λ i. marked (take n (drop from marks)) i) (λ i. marked marks (from + i)) n (λ i m. rw (get_or-take n (drop from marks) i 0 m, get_or-drop)))

-- what is missing after the last row
module _ (t : Table) (marks : List ℕ) (b : Building t marks) where
  abbrev Last : ℕ
  Last = last_fault (table_of t)

  abbrev Marked : ℕ → ℕ → Bool
  Marked n from = each n (λ i. marked marks (from + i))

  whole : Last ≡ need (leb 1 (get_or t.counts 0 0) and Marked (get_or t.counts 0 0) 0 and Marked (get_or t.counts 1 0) (kind_mark 0 0) and Marked (get_or t.counts 2 0) (codel_mark 0)) 7 0
  unfolding table_of most_of
  whole =
      let most = b.counted.most in
      last_by_marks (table_of t) marks b.noted (most 0 (omega arith)) (most 1 (omega arith)) (most 2 (omega arith))
      ∙ rw (each_same (λ i. marked marks (0 + i)) (λ i. marked marks i) (get_or t.counts 0 0) (λ i h. let e : 0 + i ≡ i = omega arith in rw e))

  -- there is no task
  pub last_none : get_or t.counts 0 0 ≡ 0 → 7 ≡ Last
  last_none h = rw (whole, h)

  module _ (h : get_or t.counts 0 0 ≡ 0 → ⊥) (p : Bool) (f : p ≡ Marked (get_or t.counts 0 0) 0) where
    some_tasks : leb 1 (get_or t.counts 0 0) ≡ true
    some_tasks = order 0 (get_or t.counts 0 0) (λ l. le-leb _ _ l) (λ l. absurd (h (omega arith)))

    -- a task has no activity
    pub last_task : not p ≡ true → 7 ≡ Last
    last_task k = rw (whole, some_tasks, no_by p _ f k)

    module _ (k : not p ≡ false) (q : Bool) (g : q ≡ Marked (get_or t.counts 1 0) (kind_mark 0 0)) where
      -- an activity has no start
      pub last_act : not q ≡ true → 7 ≡ Last
      last_act l = rw (whole, some_tasks, yes_by p _ f k, no_by q _ g l)

      module _ (l : not q ≡ false) (s : Bool) (d : s ≡ Marked (get_or t.counts 2 0) (codel_mark 0)) where
        -- a codel has no edge
        pub last_codel : not s ≡ true → 7 ≡ Last
        last_codel m = rw (whole, some_tasks, yes_by p _ f k, yes_by q _ g l, no_by s _ d m)

        -- nothing is missing
        pub last_fine : not s ≡ false → 0 ≡ Last
        last_fine m = rw (whole, some_tasks, yes_by p _ f k, yes_by q _ g l, yes_by s _ d m)
