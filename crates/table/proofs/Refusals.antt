-- The refusals of a row, kind by kind, and its check.
use Prim.Native.Nat.{ℕ, zero, suc, ◌≤◌, ◌<◌}
use mathlib.Core.Path.{◌≡◌, refl, sym, ◌∙◌}
use mathlib.Core.List.{List}
use mathlib.Core.Bool.{Bool, true, false, not}
use native.Mathlib.Omega.{arith}
use lib.ListN.{get_or}
use lib.Dec.{ltb, leb, eqb}
use borrow.Author.Tests.{lt-ltb, le-ltb, le-leb, lt-leb, eq-eqb, ne_eqb, eqb-true, eqb-false, leb-true}
use Rattle.text.specs.Fields.{ether_value}
use Rattle.text.proofs.Picks.{cases, order, false_true}
use Rattle.row.specs.Kinds.{most_of}
use Rattle.row.specs.declared.Row.{Row}
use Rattle.model.specs.Tests.{◌and◌, ◌or◌, each, after}
use Rattle.model.specs.Limits.{most_tasks, most_acts, most_codels, most_edges, most_mutexes, in_range}
use Rattle.model.specs.Tables.{known, target_of}
use Rattle.model.specs.Tables as model
use Rattle.model.specs.Rows.{task_fault, act_fault, codel_fault, edge_fault, mutex_fault, place_below, edge_below, target_ok}
use Rattle.model.proofs.Asked.{no_by, yes_by}
use Rattle.table.specs.Tables.{made, field_of, pair_below, table_of}
use Rattle.table.specs.Checks.{in_place, fault_at, kind_fault, row_fault}
use Rattle.table.specs.Marks.{kind_mark, marked, Building}
use Rattle.table.proofs.Marks.{alone_by_marks}

-- a row of a kind that is full, or has room
full : (n k : ℕ) (p : Bool) → p ≡ leb k n → p ≡ true → ltb n k ≡ false
full n k p e h = le-ltb n k (leb-true k n (sym e ∙ h))

roomy : (n k : ℕ) (p : Bool) → p ≡ leb k n → p ≡ false → ltb n k ≡ true
roomy n k p e h = order n k (λ l. lt-ltb n k l) (λ l. absurd (false_true (sym h ∙ e ∙ le-leb k n l)))

-- a task's refusals
module _ (n a b : ℕ) (m : Bool) (e : m ≡ leb (most_of 0) n) where
  -- 3: one row too many
  pub task_full : m ≡ true → 3 ≡ task_fault n a b
  unfolding most_of
  task_full h = rw (full n most_tasks m e h)

  module _ (room : m ≡ false) (p : Bool) (f : p ≡ in_range a) where
    -- 3: the period is out of range
    pub task_period : not p ≡ true → 3 ≡ task_fault n a b
    unfolding most_of
    task_period h = rw (roomy n most_tasks m e room, no_by p _ f h)

    module _ (y : not p ≡ false) (q : Bool) (g : q ≡ in_range b) where
      -- 3: keep is out of range
      pub task_keep : not q ≡ true → 3 ≡ task_fault n a b
      unfolding most_of
      task_keep h = rw (roomy n most_tasks m e room, yes_by p _ f y, no_by q _ g h)

      -- nothing is refused
      pub task_fine_lem : not q ≡ false → 0 ≡ task_fault n a b
      unfolding most_of
      task_fine_lem h = rw (roomy n most_tasks m e room, yes_by p _ f y, yes_by q _ g h)

module _ (counts rows : List ℕ) where
  abbrev K : model.Table
  K = table_of (made counts rows)

  -- an activity's refusals
  module _ (n x : ℕ) (o : Bool) (e : o ≡ after n (λ i. leb (field_of rows 1 i 0) x)) where
    -- 2: its task falls
    pub act_falls : not o ≡ true → 2 ≡ act_fault K n x
    unfolding table_of
    act_falls h = rw (no_by o _ e h)

    module _ (h : not o ≡ false) (m : Bool) (q : m ≡ leb (most_of 1) n) where
      -- 3: one row too many
      pub act_full : m ≡ true → 3 ≡ act_fault K n x
      unfolding table_of most_of
      act_full l = rw (yes_by o _ e h, full n most_acts m q l)

      module _ (room : m ≡ false) where
        -- 4: its task has no row
        pub act_stray : get_or counts 0 0 ≤ x → 4 ≡ act_fault K n x
        unfolding table_of most_of
        act_stray l = rw (yes_by o _ e h, roomy n most_acts m q room, le-ltb _ _ l)

        -- nothing is refused
        pub act_fine_lem : x < get_or counts 0 0 → 0 ≡ act_fault K n x
        unfolding table_of most_of
        act_fine_lem l = rw (yes_by o _ e h, roomy n most_acts m q room, lt-ltb _ _ l)

  -- a codel's refusals
  module _ (x z d : ℕ) (o : Bool) (e : o ≡ after (get_or counts 2 0) (λ i. leb (field_of rows 2 i 0) x)) where
    abbrev Codel : ℕ
    Codel = codel_fault K (get_or counts 2 0) x z d

    -- 2: its activity falls
    pub codel_falls : not o ≡ true → 2 ≡ Codel
    unfolding table_of
    codel_falls h = rw (no_by o _ e h)

    module _ (h : not o ≡ false) (m : Bool) (q : m ≡ leb (most_of 2) (get_or counts 2 0)) where
      -- 3: one row too many
      pub codel_full : m ≡ true → 3 ≡ Codel
      unfolding table_of most_of
      codel_full l = rw (yes_by o _ e h, full (get_or counts 2 0) most_codels m q l)

      module _ (room : m ≡ false) (p : Bool) (f : p ≡ in_range d) where
        -- 3: the limit is out of range
        pub codel_limit : not p ≡ true → 3 ≡ Codel
        unfolding table_of most_of
        codel_limit l = rw (yes_by o _ e h, roomy (get_or counts 2 0) most_codels m q room, no_by p _ f l)

        module _ (y : not p ≡ false) where
          -- 4: its activity has no row
          pub codel_stray : get_or counts 1 0 ≤ x → 4 ≡ Codel
          unfolding table_of most_of
          codel_stray l = rw (yes_by o _ e h, roomy (get_or counts 2 0) most_codels m q room, yes_by p _ f y, le-ltb _ _ l)

          module _ (l : x < get_or counts 1 0) (marks : List ℕ) (b : Building (made counts rows) marks) (s : Bool)
              (g : s ≡ (ltb z 2 and marked marks (kind_mark z x))) where
            alone : leb 2 z or each (get_or counts 2 0) (λ c. not (model.is_kind K x z c)) ≡ not s
            unfolding table_of most_of
            alone =
                alone_by_marks K marks b.noted z x (omega (arith, b.counted.most 1 (omega arith)))
                ∙ rw g (order z 2 (λ k. rw (lt-leb _ _ k, lt-ltb _ _ k)) (λ k. rw (le-leb _ _ k, le-ltb _ _ k)))

            -- 5: a second start or stop
            pub codel_second : s ≡ true → 5 ≡ Codel
            unfolding table_of most_of
            codel_second k = rw (yes_by o _ e h, roomy (get_or counts 2 0) most_codels m q room, yes_by p _ f y, lt-ltb _ _ l, alone, k)

            -- nothing is refused
            pub codel_fine_lem : s ≡ false → 0 ≡ Codel
            unfolding table_of most_of
            codel_fine_lem k = rw (yes_by o _ e h, roomy (get_or counts 2 0) most_codels m q room, yes_by p _ f y, lt-ltb _ _ l, alone, k)

  -- where an edge may lead
  module _ (x y z : ℕ) where
    -- to ether: not as a pause
    pub leads_ether : y ≡ ether_value → not (eqb z 1) ≡ target_ok K x (target_of y) (eqb z 1)
    leads_ether e = rw (eq-eqb _ _ e)

    module _ (ne : y ≡ ether_value → ⊥) (a b : ℕ) (p : a ≡ field_of rows 2 y 0) (q : b ≡ field_of rows 2 x 0) where
      -- to another activity: not at all
      pub leads_across : (a ≡ b → ⊥) → false ≡ target_ok K x (target_of y) (eqb z 1)
      unfolding table_of
      leads_across d = rw (ne_eqb _ _ ne, ← p, ← q, ne_eqb _ _ d)

      -- in its activity: not to a stop
      pub leads_on : a ≡ b → (v : ℕ) → v ≡ field_of rows 2 y 1 → not (eqb v 1) ≡ target_ok K x (target_of y) (eqb z 1)
      unfolding table_of
      leads_on d v g = rw (ne_eqb _ _ ne, ← p, ← q, eq-eqb _ _ d, ← g)

  -- a target among the codels
  known_is : (v : ℕ) → eqb v ether_value or ltb v (get_or counts 2 0) ≡ known K (target_of v)
  unfolding table_of
  known_is v = cases (eqb v ether_value) (λ e. rw e) (λ e. rw e)

  -- targets in their order
  place_below_lem : (u v : ℕ) → u ≤ ether_value → v ≤ ether_value → ltb u v ≡ place_below (target_of u) (target_of v)
  place_below_lem u v h l =
      cases (eqb u ether_value)
      (λ e. let a : v ≤ u = omega (arith, eqb-true u ether_value e) in rw (e, le-ltb _ _ a))
      (λ e. cases (eqb v ether_value)
      (λ f.
      let a : u < v = order u v (λ k. k) (λ k. absurd (eqb-false u ether_value e (omega (arith, eqb-true v ether_value f)))) in
      rw (e, f, lt-ltb _ _ a))
      (λ f. rw (e, f)))

  -- an edge's refusals
  module _ (x y z : ℕ) (most : y ≤ ether_value) (o : Bool)
      (e : (o ≡ after (get_or counts 3 0) (λ i. pair_below (field_of rows 3 i 0) (field_of rows 3 i 1) x y)) × (after (get_or counts 3 0) (λ i. leb (field_of rows 3 i 1) ether_value) ≡ true)) where
    abbrev Edge : ℕ
    Edge = edge_fault K (get_or counts 3 0) x (target_of y) (eqb z 1)

    pairs : (n : ℕ) → after n (λ i. leb (field_of rows 3 i 1) ether_value) ≡ true
        → after n (λ i. pair_below (field_of rows 3 i 0) (field_of rows 3 i 1) x y) ≡ after n (λ i. edge_below (K.edge i) x (target_of y))
    unfolding table_of
    pairs zero h = refl
    pairs (suc n) h = rw (place_below_lem (field_of rows 3 n 1) y (leb-true _ _ h) most)

    ordered : o ≡ after (get_or counts 3 0) (λ i. edge_below (K.edge i) x (target_of y))
    ordered = e.0 ∙ pairs (get_or counts 3 0) e.1

    -- 2: the pair does not rise
    pub edge_falls : not o ≡ true → 2 ≡ Edge
    edge_falls h = rw (no_by o _ ordered h)

    module _ (h : not o ≡ false) (m : Bool) (q : m ≡ leb (most_of 3) (get_or counts 3 0)) where
      -- 3: one row too many
      pub edge_full : m ≡ true → 3 ≡ Edge
      unfolding most_of
      edge_full l = rw (yes_by o _ ordered h, full (get_or counts 3 0) most_edges m q l)

      module _ (room : m ≡ false) (b : Bool) (d : b ≡ ltb x (get_or counts 2 0)) where
        -- 4: its codel has no row
        pub edge_stray : not b ≡ true → 4 ≡ Edge
        unfolding table_of most_of
        edge_stray l = rw (yes_by o _ ordered h, roomy (get_or counts 3 0) most_edges m q room, no_by b _ d l)

        module _ (l : not b ≡ false) (p : Bool) (f : p ≡ (eqb y ether_value or ltb y (get_or counts 2 0))) where
          -- 4: its target has no row
          pub edge_lost : not p ≡ true → 4 ≡ Edge
          unfolding table_of most_of
          edge_lost k = rw (yes_by o _ ordered h, roomy (get_or counts 3 0) most_edges m q room, yes_by b _ d l, no_by p _ (f ∙ known_is y) k)

          module _ (k : not p ≡ false) (s : Bool) (g : s ≡ target_ok K x (target_of y) (eqb z 1)) where
            -- 5: it may not lead there
            pub edge_bad : not s ≡ true → 5 ≡ Edge
            unfolding table_of most_of
            edge_bad v = rw (yes_by o _ ordered h, roomy (get_or counts 3 0) most_edges m q room, yes_by b _ d l, yes_by p _ (f ∙ known_is y) k, no_by s _ g v)

            -- nothing is refused
            pub edge_fine_lem : not s ≡ false → 0 ≡ Edge
            unfolding table_of most_of
            edge_fine_lem v = rw (yes_by o _ ordered h, roomy (get_or counts 3 0) most_edges m q room, yes_by b _ d l, yes_by p _ (f ∙ known_is y) k, yes_by s _ g v)

  -- a mutex's refusals
  module _ (x y : ℕ) where
    abbrev Mutex : ℕ
    Mutex = mutex_fault K (get_or counts 4 0) x y

    -- 2: the larger codel first
    pub mutex_turned : y < x → 2 ≡ Mutex
    mutex_turned h = rw (lt-leb _ _ h)

    module _ (a : x ≤ y) (o : Bool)
        (e : (o ≡ after (get_or counts 4 0) (λ i. pair_below (field_of rows 4 i 0) (field_of rows 4 i 1) x y)) × (after (get_or counts 4 0) (λ i. leb (field_of rows 4 i 1) ether_value) ≡ true)) where
      -- 2: the pair does not rise
      pub mutex_falls : not o ≡ true → 2 ≡ Mutex
      unfolding table_of
      mutex_falls h = rw (le-leb _ _ a, no_by o _ e.0 h)

      module _ (h : not o ≡ false) (m : Bool) (q : m ≡ leb (most_of 4) (get_or counts 4 0)) where
        -- 3: one row too many
        pub mutex_full : m ≡ true → 3 ≡ Mutex
        unfolding table_of most_of
        mutex_full l = rw (le-leb _ _ a, yes_by o _ e.0 h, full (get_or counts 4 0) most_mutexes m q l)

        module _ (room : m ≡ false) (b : Bool) (d : b ≡ ltb x (get_or counts 2 0)) where
          -- 4: its first codel has no row
          pub mutex_stray : not b ≡ true → 4 ≡ Mutex
          unfolding table_of most_of
          mutex_stray l = rw (le-leb _ _ a, yes_by o _ e.0 h, roomy (get_or counts 4 0) most_mutexes m q room, no_by b _ d l)

          module _ (l : not b ≡ false) (p : Bool) (r : p ≡ ltb y (get_or counts 2 0)) where
            -- 4: its second codel has no row
            pub mutex_lost : not p ≡ true → 4 ≡ Mutex
            unfolding table_of most_of
            mutex_lost k = rw (le-leb _ _ a, yes_by o _ e.0 h, roomy (get_or counts 4 0) most_mutexes m q room, yes_by b _ d l, no_by p _ r k)

            module _ (k : not p ≡ false) (u v : ℕ) (f : u ≡ field_of rows 1 (field_of rows 2 x 0) 0)
                (g : v ≡ field_of rows 1 (field_of rows 2 y 0) 0) where
              -- 5: inside one task
              pub mutex_inside : u ≡ v → 5 ≡ Mutex
              unfolding table_of most_of
              mutex_inside w = rw (le-leb _ _ a, yes_by o _ e.0 h, roomy (get_or counts 4 0) most_mutexes m q room, yes_by b _ d l, yes_by p _ r k, ← f, ← g, eq-eqb _ _ w)

              -- nothing is refused
              pub mutex_fine_lem : (u ≡ v → ⊥) → 0 ≡ Mutex
              unfolding table_of most_of
              mutex_fine_lem w = rw (le-leb _ _ a, yes_by o _ e.0 h, roomy (get_or counts 4 0) most_mutexes m q room, yes_by b _ d l, yes_by p _ r k, ← f, ← g, ne_eqb _ _ w)

  -- a row's refusal by its kind
  module _ (r : Row) (f : ℕ) where
    -- a task
    pub kind_task : f ≡ task_fault (get_or counts 0 0) r.a r.b → r.kind ≡ 0 → f ≡ kind_fault (made counts rows) r
    unfolding kind_fault fault_at table_of
    kind_task e k = rw k e

    -- an activity
    pub kind_act : f ≡ act_fault K (get_or counts 1 0) r.a → r.kind ≡ 1 → f ≡ kind_fault (made counts rows) r
    unfolding kind_fault fault_at table_of
    kind_act e k = rw k e

    -- a codel
    pub kind_codel : f ≡ codel_fault K (get_or counts 2 0) r.a r.b r.c → r.kind ≡ 2 → f ≡ kind_fault (made counts rows) r
    unfolding kind_fault fault_at table_of
    kind_codel e k = rw k e

    -- an edge
    pub kind_edge : f ≡ edge_fault K (get_or counts 3 0) r.a (target_of r.b) (eqb r.c 1) → r.kind ≡ 3 → f ≡ kind_fault (made counts rows) r
    unfolding kind_fault fault_at table_of
    kind_edge e k = rw k e

    -- the last is a mutex
    pub kind_mutex : f ≡ mutex_fault K (get_or counts 4 0) r.a r.b → r.kind ≡ 4 → f ≡ kind_fault (made counts rows) r
    unfolding kind_fault fault_at table_of
    kind_mutex e k = rw k e

  -- a row's check
  module _ (r : Row) (p : Bool) (g : p ≡ in_place counts r.kind) where
    -- 2: out of its place
    pub check_place : not p ≡ true → 2 ≡ row_fault (made counts rows) r
    unfolding row_fault
    check_place h = rw (no_by p _ g h)

    -- what its kind says
    pub check_own : not p ≡ false → (f : ℕ) → f ≡ kind_fault (made counts rows) r → f ≡ row_fault (made counts rows) r
    unfolding row_fault
    check_own h f e = rw (yes_by p _ g h) e
