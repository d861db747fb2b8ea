-- What a well-formed table says of the order of its rows, and of the rows that belong to each.
use Prim.Native.Nat.{ℕ, zero, suc, ◌≤◌, ◌<◌}
use mathlib.Core.Bool.{Bool, true, not}
use mathlib.Core.Path.{◌≡◌}
use mathlib.Core.Logic.{⊎_elim}
use native.Mathlib.Omega.{arith}
use lib.Dec.{T, leb, ltb, eqb, eqb→eq, ltb→lt, T_not, leb→le}
use borrow.Author.Tests.{leb-true, ltb-true, eq-eqb, eqb-true}
use Rattle.text.proofs.Picks.{order}
use Rattle.model.specs.Tests.{◌and◌, ◌or◌, each}
use Rattle.model.specs.Tables.{Table, is_kind}
use Rattle.model.specs.Rows.{place_below, has_act, has_start, leaves, last_fault, task_fine, act_fine, codel_fine, edge_fine, mutex_fine, wellformed}
use Rattle.model.proofs.Tests.{true_T, T_true, and_i, and_l, and_r, or_cases, some_at}
use Rattle.table.proofs.Tests.{both, needed, each_at}
use Rattle.table.proofs.Faults.{act_passes, codel_passes, edge_passes, mutex_passes}

-- the rows up to n do not fall
abbrev pub Rising : (ℕ → ℕ) → ℕ → Type 0
Rising f n = (i j : ℕ) → i ≤ j → j < n → f i ≤ f j

-- codel c is of that kind and activity
abbrev pub Is : Table → ℕ → ℕ → ℕ → Type 0
Is K a z c = (K.owner c ≡ a) × (K.kind c ≡ z)

-- which its test says
pub is_kind_lem : (K : Table) (a z c : ℕ) → Is K a z c → T (is_kind K a z c)
is_kind_lem K a z c p = and_i (eqb (K.owner c) a) _ (true_T _ (eq-eqb _ _ p.0)) (true_T _ (eq-eqb _ _ p.1))

pub kind_is : (K : Table) (a z c : ℕ) → T (is_kind K a z c) → Is K a z c
kind_is K a z c t = (eqb→eq _ _ (and_l (eqb (K.owner c) a) _ t), eqb→eq _ _ (and_r (eqb (K.owner c) a) _ t))

-- what the index rests on
pub record Ordered (K : Table) : Type 0 where
  pub acts : Rising K.task K.nacts
  pub edges : Rising (λ e. (K.edge e).source) K.nedges
  pub pairs : Rising (λ m. (K.mutex m).lo) K.nmutex
  pub source : (e : ℕ) → e < K.nedges → (K.edge e).source < K.ncodels
  -- one start and one stop of an activity
  pub alone : (a z c d : ℕ) → z < 2 → c < K.ncodels → d < K.ncodels → Is K a z c → Is K a z d → c ≡ d
  -- every task has an activity, and every codel an edge
  pub acting : (t : ℕ) → t < K.ntasks → (a : ℕ) × (a < K.nacts) × (K.task a ≡ t)
  pub leaving : (c : ℕ) → c < K.ncodels → (e : ℕ) × (e < K.nedges) × ((K.edge e).source ≡ c)

-- rows of which none falls below the one before
rising : (f : ℕ → ℕ) (n : ℕ) → ((i : ℕ) → suc i < n → f i ≤ f (suc i)) → Rising f n
rising f n step i zero a b = let e : i ≡ 0 = omega arith in rw e (omega arith)
rising f n step i (suc j) a b =
    order i (suc j)
    (λ l. omega (arith, step j b, rising f n step i j (omega arith) (omega arith)))
    (λ l. let e : i ≡ suc j = omega arith in rw e (omega arith))

-- the first of two pairs in order
first_rises : (a b : ℕ) (t : Bool) → (ltb a b or (eqb a b and t)) ≡ true → a ≤ b
first_rises a b t h =
    ⊎_elim (λ u. omega (arith, ltb→lt a b u)) (λ u. omega (arith, eqb→eq a b (and_l (eqb a b) t u))) (or_cases (ltb a b) (eqb a b and t) (true_T _ h))

module _ (K : Table) (wf : wellformed K ≡ true) where
  -- no row has a fault
  record Fine : Type 0 where
    pub acts : each K.nacts (act_fine K) ≡ true
    pub codels : each K.ncodels (codel_fine K) ≡ true
    pub edges : each K.nedges (edge_fine K) ≡ true
    pub pairs : each K.nmutex (mutex_fine K) ≡ true
    pub last : (leb 1 K.ntasks and each K.ntasks (has_act K) and each K.nacts (has_start K) and each K.ncodels (leaves K)) ≡ true

  fine : Fine
  unfolding wellformed last_fault
  fine =
      let tasks = both (each K.ntasks (task_fine K)) wf in
      let acts = both (each K.nacts (act_fine K)) tasks.1 in
      let codels = both (each K.ncodels (codel_fine K)) acts.1 in
      let edges = both (each K.nedges (edge_fine K)) codels.1 in
      let pairs = both (each K.nmutex (mutex_fine K)) edges.1 in
      record {
        acts = acts.0;
        codels = codels.0;
        edges = edges.0;
        pairs = pairs.0;
        last = (needed (leb 1 K.ntasks and each K.ntasks (has_act K) and each K.nacts (has_start K) and each K.ncodels (leaves K)) 6 (eqb-true _ _ pairs.1)).0;
      }

  -- no earlier codel is of the same kind and activity
  alone_below : (a z c d : ℕ) → z < 2 → c < d → d < K.ncodels → Is K a z c → Is K a z d → ⊥
  alone_below a z c d h l b p q =
      let f = (codel_passes K d (K.owner d) (K.kind d) (K.limit d) (eqb-true _ _ (each_at K.ncodels (codel_fine K) fine.codels d b))).alone in
      let g : (leb 2 z or each d (λ k. not (is_kind K a z k))) ≡ true = rw (q.0, q.1) at f in
      ⊎_elim
      (λ u. omega (arith, leb→le 2 z u))
      (λ u. T_not (is_kind K a z c) (true_T _ (each_at d (λ k. not (is_kind K a z k)) (T_true _ u) c l)) (is_kind_lem K a z c p))
      (or_cases (leb 2 z) _ (true_T _ g))

  -- a well-formed table says all this
  pub ordered : Ordered K
  ordered =
      let last = (both (leb 1 K.ntasks) fine.last).1 in
      let acting = both (each K.ntasks (has_act K)) last in
      let leaving = (both (each K.nacts (has_start K)) acting.1).1 in
      record {
        acts = rising K.task K.nacts (λ a h. leb-true _ _ (act_passes K (suc a) (K.task (suc a)) (eqb-true _ _ (each_at K.nacts (act_fine K) fine.acts (suc a) h))).order);
        edges = rising (λ e. (K.edge e).source) K.nedges (λ e h. let r = K.edge (suc e) in first_rises _ _ (place_below (K.edge e).target r.target) (edge_passes K (suc e) r.source r.target r.pause (eqb-true _ _ (each_at K.nedges (edge_fine K) fine.edges (suc e) h))).order);
        pairs = rising (λ m. (K.mutex m).lo) K.nmutex (λ m h. let r = K.mutex (suc m) in first_rises _ _ (ltb (K.mutex m).hi r.hi) (mutex_passes K (suc m) r.lo r.hi (eqb-true _ _ (each_at K.nmutex (mutex_fine K) fine.pairs (suc m) h))).order);
        source = λ e h. let r = K.edge e in ltb-true _ _ (edge_passes K e r.source r.target r.pause (eqb-true _ _ (each_at K.nedges (edge_fine K) fine.edges e h))).source;
        alone = λ a z c d h b g p q. order c d (λ l. absurd (alone_below a z c d h l g p q)) (λ l. order d c (λ k. absurd (alone_below a z d c h k b q p)) (λ k. omega arith));
        acting = λ t h. let w = some_at (λ a. eqb (K.task a) t) K.nacts (true_T _ (each_at K.ntasks (has_act K) acting.0 t h)) in (w.0, w.1, eqb→eq _ _ w.2);
        leaving = λ c h. let w = some_at (λ e. eqb (K.edge e).source c) K.nedges (true_T _ (each_at K.ncodels (leaves K) leaving c h)) in (w.0, w.1, eqb→eq _ _ w.2);
      }
