-- The tests behind each kind's refusals, in their order: what a row that is not refused has passed.
use Prim.Native.Nat.{ℕ}
use mathlib.Core.Path.{◌≡◌}
use mathlib.Core.Bool.{Bool, true, not}
use lib.Dec.{ltb, leb}
use Rattle.model.specs.Tests.{◌and◌, ◌or◌, each, after}
use Rattle.model.specs.Limits.{most_tasks, most_acts, most_codels, most_edges, most_mutexes, in_range}
use Rattle.model.specs.Tables.{Table, known, is_kind}
use Rattle.model.specs.Rows.{task_fault, act_fault, codel_fault, edge_fault, mutex_fault, edge_below, mutex_below, target_ok, spans_two}
use Rattle.model.specs.declared.Place.{Place}
use Rattle.table.proofs.Tests.{both, needed}

-- the tests of a task, an activity, a codel, an edge and a mutex behind the first n rows of its kind
pub record TaskPasses (n a b : ℕ) : Type 0 where
  pub room : ltb n most_tasks ≡ true
  pub period : in_range a ≡ true
  pub keep : in_range b ≡ true

pub record ActPasses (K : Table) (n t : ℕ) : Type 0 where
  pub order : after n (λ a. leb (K.task a) t) ≡ true
  pub room : ltb n most_acts ≡ true
  pub names : ltb t K.ntasks ≡ true

pub record CodelPasses (K : Table) (n a z d : ℕ) : Type 0 where
  pub order : after n (λ c. leb (K.owner c) a) ≡ true
  pub room : ltb n most_codels ≡ true
  pub limit : in_range d ≡ true
  pub names : ltb a K.nacts ≡ true
  pub alone : leb 2 z or each n (λ c. not (is_kind K a z c)) ≡ true

pub record EdgePasses (K : Table) (n c : ℕ) (p : Place) (pause : Bool) : Type 0 where
  pub order : after n (λ e. edge_below (K.edge e) c p) ≡ true
  pub room : ltb n most_edges ≡ true
  pub source : ltb c K.ncodels ≡ true
  pub target : known K p ≡ true
  pub stays : target_ok K c p pause ≡ true

pub record MutexPasses (K : Table) (n lo hi : ℕ) : Type 0 where
  pub first : leb lo hi ≡ true
  pub order : after n (λ m. mutex_below (K.mutex m) lo hi) ≡ true
  pub room : ltb n most_mutexes ≡ true
  pub lower : ltb lo K.ncodels ≡ true
  pub higher : ltb hi K.ncodels ≡ true
  pub spans : spans_two K lo hi ≡ true

-- a row of each kind that is not refused has passed them
pub task_passes : (n a b : ℕ) → task_fault n a b ≡ 0 → TaskPasses n a b
task_passes n a b h =
    let c = both (ltb n most_tasks) (needed (ltb n most_tasks and in_range a and in_range b) 2 h).0 in
    let d = both (in_range a) c.1 in
    record { room = c.0; period = d.0; keep = d.1 }

module _ (K : Table) (n : ℕ) where
  pub act_passes : (t : ℕ) → act_fault K n t ≡ 0 → ActPasses K n t
  act_passes t h =
      let a = needed (after n (λ a. leb (K.task a) t)) 1 h in
      let b = needed (ltb n most_acts) 2 a.1 in
      let c = needed (ltb t K.ntasks) 3 b.1 in
      record { order = a.0; room = b.0; names = c.0 }

  pub codel_passes : (a z limit : ℕ) → codel_fault K n a z limit ≡ 0 → CodelPasses K n a z limit
  codel_passes a z limit h =
      let b = needed (after n (λ c. leb (K.owner c) a)) 1 h in
      let c = needed (ltb n most_codels and in_range limit) 2 b.1 in
      let d = both (ltb n most_codels) c.0 in
      let e = needed (ltb a K.nacts) 3 c.1 in
      let f = needed (leb 2 z or each n (λ c. not (is_kind K a z c))) 4 e.1 in
      record { order = b.0; room = d.0; limit = d.1; names = e.0; alone = f.0 }

  pub edge_passes : (c : ℕ) (p : Place) (pause : Bool) → edge_fault K n c p pause ≡ 0 → EdgePasses K n c p pause
  edge_passes c p pause h =
      let a = needed (after n (λ e. edge_below (K.edge e) c p)) 1 h in
      let b = needed (ltb n most_edges) 2 a.1 in
      let d = needed (ltb c K.ncodels and known K p) 3 b.1 in
      let e = both (ltb c K.ncodels) d.0 in
      let f = needed (target_ok K c p pause) 4 d.1 in
      record { order = a.0; room = b.0; source = e.0; target = e.1; stays = f.0 }

  pub mutex_passes : (lo hi : ℕ) → mutex_fault K n lo hi ≡ 0 → MutexPasses K n lo hi
  mutex_passes lo hi h =
      let a = needed (leb lo hi and after n (λ m. mutex_below (K.mutex m) lo hi)) 1 h in
      let b = both (leb lo hi) a.0 in
      let c = needed (ltb n most_mutexes) 2 a.1 in
      let d = needed (ltb lo K.ncodels and ltb hi K.ncodels) 3 c.1 in
      let e = both (ltb lo K.ncodels) d.0 in
      let f = needed (spans_two K lo hi) 4 d.1 in
      record { first = b.0; order = b.1; room = c.0; lower = e.0; higher = e.1; spans = f.0 }
