-- What a well-formed table says, by name.
use mathlib.Core.Bool.{Bool, true, false}
use mathlib.Core.Path.{◌≡◌, refl, ap, sym, subst⁻¹, subst₂}
use Prim.Native.Nat.{ℕ, zero, suc, ◌≤◌, ◌<◌, zero-le}
use native.Mathlib.Omega.{arith}
use borrow.Author.Tests.{eq-eqb}
use lib.Dec.{T, leb, ltb, eqb, leb→le, ltb→lt, eqb→eq, eqb_refl, T_not}
use Rattle.model.specs.Tests.{◌and◌, same_bool, each, after}
use Rattle.model.specs.Limits.{most_tasks, most_acts, most_codels, most_edges, most_mutexes, most_ticks, in_range}
use Rattle.model.specs.Tables.{Table, is_codel, same_place, known, is_start, edge_is, has_edge, pausable}
use Rattle.model.specs.Rows.{edge_below, target_ok, mutex_below, spans_two, has_act, has_start, leaves, last_fault, task_fine, act_fine, codel_fine, edge_fine, mutex_fine, wellformed}
use Rattle.model.specs.Sound.{at_own, may_rest}
use Rattle.model.specs.declared.Place.{Place}
use Rattle.model.specs.declared.Place.TheVariants.{Ether, Codel}
use Rattle.model.proofs.Tests.{true_T, and_i, and_l, and_r, and_both, each_at, some_at, some_mk, need_of}

-- what the proofs use of a well-formed table
pub record Formed (K : Table) : Type 0 where
  pub period : (t : ℕ) → t < K.ntasks → 1 ≤ K.period t
  pub period_high : (t : ℕ) → t < K.ntasks → K.period t ≤ most_ticks
  pub task : (a : ℕ) → a < K.nacts → K.task a < K.ntasks
  pub owner : (c : ℕ) → c < K.ncodels → K.owner c < K.nacts
  pub limit_low : (c : ℕ) → c < K.ncodels → 1 ≤ K.limit c
  pub limit_high : (c : ℕ) → c < K.ncodels → K.limit c ≤ most_ticks
  -- both codels of a mutex row exist, the smaller first, and lie in two tasks
  pub mutex : (m : ℕ) → m < K.nmutex → ((K.mutex m).lo < K.ncodels) × ((K.mutex m).hi < K.ncodels)
  pub rising : (m : ℕ) → m < K.nmutex → (K.mutex m).lo ≤ (K.mutex m).hi
  pub two_tasks : (m : ℕ) → m < K.nmutex → K.task (K.owner (K.mutex m).lo) ≡ K.task (K.owner (K.mutex m).hi) → ⊥
  -- an edge leads to ether or to a codel of the same activity, and every codel has one
  pub stays : (c : ℕ) (p : Place) (z : Bool) → T (has_edge K c p z) → T (at_own K (K.owner c) p)
  pub leaves : (c : ℕ) → c < K.ncodels → (p : Place) × (z : Bool) × T (has_edge K c p z)
  -- every activity has a start
  pub starts : (a : ℕ) → a < K.nacts → (c : ℕ) × (c < K.ncodels) × T (is_start K a c)
  -- no kind has more rows than there may be
  pub fits : (K.ntasks ≤ most_tasks) × (K.nacts ≤ most_acts) × (K.ncodels ≤ most_codels) × (K.nedges ≤ most_edges) × (K.nmutex ≤ most_mutexes)

same_place_lem : (p q : Place) → T (same_place p q) → p ≡ q
same_place_lem Ether Ether t = refl
same_place_lem Ether (Codel c) t = absurd t
same_place_lem (Codel c) Ether t = absurd t
same_place_lem (Codel c) (Codel d) t = ap Codel (sym (eqb→eq d c t))

same_place_refl : (p : Place) → T (same_place p p)
same_place_refl Ether = tt
same_place_refl (Codel c) = eqb_refl c

same_bool_refl : (b : Bool) → T (same_bool b b)
same_bool_refl true = tt
same_bool_refl false = tt

-- a pause leads to where an activity may rest
pub pause_rests : (K : Table) (c : ℕ) (p : Place) → T (has_edge K c p true) → T (may_rest K p)
unfolding has_edge edge_is pausable
pause_rests K c Ether t = tt
pause_rests K c (Codel d) t =
    let w = some_at (λ e. edge_is (K.edge e) c (Codel d) true) K.nedges t in
    let r = K.edge w.0 in
    let u = and_r (eqb r.source c) _ w.2 in
    some_mk (λ e. (K.edge e).pause and is_codel (K.edge e).target d) K.nedges w.0 w.1
    (and_i r.pause _ (paused r.pause (and_r (same_place r.target (Codel d)) _ u)) (subst⁻¹ (λ q. T (is_codel q d)) (same_place_lem r.target (Codel d) (and_l (same_place r.target (Codel d)) _ u)) (eqb_refl d)))
  where
    paused : (b : Bool) → T (same_bool b true) → T b
    paused true h = h
    paused false h = h

-- a bound on every row number bounds the number of rows
rows_fit : (n m : ℕ) → ((i : ℕ) → i < n → i < m) → n ≤ m
rows_fit zero m h = zero-le
rows_fit (suc n) m h = h n (omega arith)

module _ (K : Table) (wf : T (wellformed K)) where
  -- no row has a fault
  record Rows : Type 0 where
    pub task : (t : ℕ) → t < K.ntasks → T (task_fine K t)
    pub act : (a : ℕ) → a < K.nacts → T (act_fine K a)
    pub codel : (c : ℕ) → c < K.ncodels → T (codel_fine K c)
    pub edge : (e : ℕ) → e < K.nedges → T (edge_fine K e)
    pub mutex : (m : ℕ) → m < K.nmutex → T (mutex_fine K m)
    pub last : last_fault K ≡ 0

  rows : Rows
  unfolding wellformed
  rows =
      let task = and_both (each K.ntasks (task_fine K)) _ wf in
      let act = and_both (each K.nacts (act_fine K)) _ task.1 in
      let codel = and_both (each K.ncodels (codel_fine K)) _ act.1 in
      let edge = and_both (each K.nedges (edge_fine K)) _ codel.1 in
      let mutex = and_both (each K.nmutex (mutex_fine K)) _ edge.1 in
      record {
        task = each_at (task_fine K) K.ntasks task.0;
        act = each_at (act_fine K) K.nacts act.0;
        codel = each_at (codel_fine K) K.ncodels codel.0;
        edge = each_at (edge_fine K) K.nedges edge.0;
        mutex = each_at (mutex_fine K) K.nmutex mutex.0;
        last = eqb→eq _ _ mutex.1;
      }

  -- rule 7 at the last row
  last : T (each K.nacts (has_start K) and each K.ncodels (leaves K))
  unfolding last_fault
  last = and_r (each K.ntasks (has_act K)) _ (and_r (leb 1 K.ntasks) _ (need_of (leb 1 K.ntasks and each K.ntasks (has_act K) and each K.nacts (has_start K) and each K.ncodels (leaves K)) 7 0 tt rows.last).0)

  -- a task's row
  task_fine_lem : (t : ℕ) → t < K.ntasks → T (ltb t most_tasks and in_range (K.period t) and in_range (K.keep t))
  task_fine_lem t h = (need_of (ltb t most_tasks and in_range (K.period t) and in_range (K.keep t)) 3 0 tt (eqb→eq _ _ (rows.task t h))).0

  -- an activity's row
  act_fine_lem : (a : ℕ) → a < K.nacts → (a < most_acts) × (K.task a < K.ntasks)
  act_fine_lem a h =
      let f2 = need_of (after a (λ b. leb (K.task b) (K.task a))) 2 _ tt (eqb→eq _ _ (rows.act a h)) in
      let f3 = need_of (ltb a most_acts) 3 _ tt f2.1 in
      (ltb→lt _ _ f3.0, ltb→lt _ _ (need_of (ltb (K.task a) K.ntasks) 4 0 tt f3.1).0)

  -- a codel's row
  codel_fine_lem : (c : ℕ) → c < K.ncodels → T (in_range (K.limit c)) × (K.owner c < K.nacts) × (c < most_codels)
  codel_fine_lem c h =
      let f2 = need_of (after c (λ d. leb (K.owner d) (K.owner c))) 2 _ tt (eqb→eq _ _ (rows.codel c h)) in
      let f3 = need_of (ltb c most_codels and in_range (K.limit c)) 3 _ tt f2.1 in
      (and_r (ltb c most_codels) _ f3.0, ltb→lt _ _ (need_of (ltb (K.owner c) K.nacts) 4 _ tt f3.1).0, ltb→lt _ _ (and_l (ltb c most_codels) _ f3.0))

  -- an edge's row
  edge_fine_lem : (e : ℕ) → e < K.nedges → T (known K (K.edge e).target) × T (target_ok K (K.edge e).source (K.edge e).target (K.edge e).pause) × (e < most_edges)
  edge_fine_lem e h =
      let r = K.edge e in
      let f2 = need_of (after e (λ f. edge_below (K.edge f) r.source r.target)) 2 _ tt (eqb→eq _ _ (rows.edge e h)) in
      let f3 = need_of (ltb e most_edges) 3 _ tt f2.1 in
      let f4 = need_of (ltb r.source K.ncodels and known K r.target) 4 _ tt f3.1 in
      (and_r (ltb r.source K.ncodels) _ f4.0, (need_of (target_ok K r.source r.target r.pause) 5 0 tt f4.1).0, ltb→lt _ _ f3.0)

  -- a mutex row
  mutex_fine_lem : (m : ℕ) → m < K.nmutex → T (ltb (K.mutex m).lo K.ncodels and ltb (K.mutex m).hi K.ncodels) × T (spans_two K (K.mutex m).lo (K.mutex m).hi) × (m < most_mutexes) × ((K.mutex m).lo ≤ (K.mutex m).hi)
  mutex_fine_lem m h =
      let lo = (K.mutex m).lo in
      let hi = (K.mutex m).hi in
      let f2 = need_of (leb lo hi and after m (λ n. mutex_below (K.mutex n) lo hi)) 2 _ tt (eqb→eq _ _ (rows.mutex m h)) in
      let f3 = need_of (ltb m most_mutexes) 3 _ tt f2.1 in
      let f4 = need_of (ltb lo K.ncodels and ltb hi K.ncodels) 4 _ tt f3.1 in
      (f4.0, (need_of (spans_two K lo hi) 5 0 tt f4.1).0, ltb→lt _ _ f3.0, leb→le _ _ (and_l (leb lo hi) _ f2.0))

  own_target : (c : ℕ) (p : Place) (z : Bool) → T (known K p) → T (target_ok K c p z) → T (at_own K (K.owner c) p)
  own_target c Ether z k u = tt
  own_target c (Codel d) z k u = and_i (ltb d K.ncodels) _ k (and_l (eqb (K.owner d) (K.owner c)) _ u)

  stays : (c : ℕ) (p : Place) (z : Bool) → T (has_edge K c p z) → T (at_own K (K.owner c) p)
  unfolding has_edge edge_is
  stays c p z t =
      let w = some_at (λ e. edge_is (K.edge e) c p z) K.nedges t in
      let r = K.edge w.0 in
      let f = edge_fine_lem w.0 w.1 in
      subst₂ (λ d q. T (at_own K (K.owner d) q)) (eqb→eq _ _ (and_l (eqb r.source c) _ w.2)) (same_place_lem r.target p (and_l (same_place r.target p) _ (and_r (eqb r.source c) _ w.2))) (own_target r.source r.target r.pause f.0 f.1)

  leave : (c : ℕ) → c < K.ncodels → (p : Place) × (z : Bool) × T (has_edge K c p z)
  unfolding has_edge edge_is
  leave c h =
      let w = some_at (λ e. eqb (K.edge e).source c) K.nedges (each_at (leaves K) K.ncodels (and_r (each K.nacts (has_start K)) _ last) c h) in
      let r = K.edge w.0 in
      (r.target, r.pause, some_mk (λ e. edge_is (K.edge e) c r.target r.pause) K.nedges w.0 w.1 (and_i (eqb r.source c) _ w.2 (and_i (same_place r.target r.target) _ (same_place_refl r.target) (same_bool_refl r.pause))))

  -- a well-formed table says all this
  pub formed : Formed K
  formed = record {
    period = λ t h. leb→le 1 _ (and_l (leb 1 (K.period t)) _ (and_l (in_range (K.period t)) _ (and_r (ltb t most_tasks) _ (task_fine_lem t h))));
    period_high = λ t h. leb→le _ _ (and_r (leb 1 (K.period t)) _ (and_l (in_range (K.period t)) _ (and_r (ltb t most_tasks) _ (task_fine_lem t h))));
    task = λ a h. (act_fine_lem a h).1;
    owner = λ c h. (codel_fine_lem c h).1;
    limit_low = λ c h. leb→le 1 _ (and_l (leb 1 (K.limit c)) _ (codel_fine_lem c h).0);
    limit_high = λ c h. leb→le _ _ (and_r (leb 1 (K.limit c)) _ (codel_fine_lem c h).0);
    mutex = λ m h. let f = (mutex_fine_lem m h).0 in (ltb→lt _ _ (and_l (ltb (K.mutex m).lo K.ncodels) _ f), ltb→lt _ _ (and_r (ltb (K.mutex m).lo K.ncodels) _ f));
    rising = λ m h. (mutex_fine_lem m h).3;
    two_tasks = λ m h e. T_not (eqb (K.task (K.owner (K.mutex m).lo)) (K.task (K.owner (K.mutex m).hi))) (mutex_fine_lem m h).1 (true_T _ (eq-eqb _ _ e));
    stays = stays;
    leaves = leave;
    starts = λ a h. some_at (is_start K a) K.ncodels (each_at (has_start K) K.nacts (and_l (each K.nacts (has_start K)) _ last) a h);
    fits = (rows_fit K.ntasks most_tasks (λ t h. ltb→lt _ _ (and_l (ltb t most_tasks) _ (task_fine_lem t h))), rows_fit K.nacts most_acts (λ a h. (act_fine_lem a h).0), rows_fit K.ncodels most_codels (λ c h. (codel_fine_lem c h).2), rows_fit K.nedges most_edges (λ e h. (edge_fine_lem e h).2), rows_fit K.nmutex most_mutexes (λ m h. (mutex_fine_lem m h).2));
  }
