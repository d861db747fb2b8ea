-- The sentences of a task's or an activity's record after each change that a step makes, and where a step may lead.
use mathlib.Core.Bool.{Bool, true, false, not, cond}
use mathlib.Core.Path.{◌≡◌, refl, ap, subst}
use mathlib.Core.Logic.{◌⊎◌, inl, inr, ⊎_elim}
use Prim.Native.Nat.{ℕ, ◌+◌, ◌≤◌, ◌<◌, zero-le}
use native.Mathlib.Omega.{arith}
use native.Mathlib.Nat.{le_refl}
use lib.Dec.{T, leb, ltb, eqb, le→leb, lt→ltb, eqb→eq, eqb_refl, T_not}
use Rattle.text.specs.Set.{member}
use Rattle.text.specs.declared.Set.{Set}
use Rattle.model.specs.Tests.{◌and◌, ◌or◌, one}
use Rattle.model.specs.Limits.{most_ticks}
use Rattle.model.specs.Tables.{Table, is_ether, is_codel, has_edge, safe}
use Rattle.model.specs.States.{by_manager, held_by, stands, runs, clear, clear_at}
use Rattle.model.specs.Rules.{entered, rested, held, one_more, misses, signalled, managed, listed, again, ea_allowed, begun, fa_allowed, closed, timed, clocked}
use Rattle.model.specs.Sound.{at_own, sets_while_managing, may_rest, at_safe, clock_ok, holder_ok}
use Rattle.model.specs.declared.Task.{Task}
use Rattle.model.specs.declared.Act.{Act}
use Rattle.model.specs.declared.State.{State}
use Rattle.model.specs.declared.Place.{Place}
use Rattle.model.specs.declared.Place.TheVariants.{Ether, Codel}
use Rattle.model.specs.declared.Holder.{Holder}
use Rattle.model.specs.declared.Holder.TheVariants.{Manager, Activity}
use Rattle.model.proofs.Tests.{T_true, true_T, T_false, yes_or_no, and_i, and_l, and_r, or_cases, imp_i, imp_e}
use Rattle.model.proofs.Formed.{Formed, pause_rests}
use Rattle.model.proofs.Soundness.{FineAct, FineTask, manager_is, executing}

-- A task's record after each change.

-- `st`: timer 0, one signal more
pub signalled_fine : (K : Table) (date t : ℕ) (x : Task) → FineTask K date t x → x.timer ≡ K.period t → 1 ≤ K.period t → FineTask K date t (signalled x)
signalled_fine K date t x f due p = record {
  timer = zero-le;
  holder = f.holder;
  waits = imp_i (not x.managing) _ (λ n. rw (T_false x.managing (T_not x.managing n)) (imp_e (not x.managing) _ f.waits n));
  counts = omega (arith, f.counts);
  missed = missed (misses x) f.missed;
  longest = f.longest;
  opened = f.opened;
}
  where
    missed : (b : Bool) → x.timer + x.missed ≤ date → 0 + one_more b x.missed ≤ date
    missed true h = omega arith
    missed false h = omega arith

-- `sm`: one signal becomes one cycle
pub managed_fine : (K : Table) (date t : ℕ) (x : Task) → FineTask K date t x → T x.signal → FineTask K date t (managed date x)
managed_fine K date t x f g =
    let s = T_true x.signal g in
    record { timer = f.timer; holder = f.holder; waits = tt; counts = omega (arith, f.counts, ap one s); missed = f.missed; longest = f.longest; opened = le_refl _ }

-- a managing task with another holder and a longest clock
pub held_fine : (K : Table) (date t : ℕ) (x : Task) (h : Holder) (k : ℕ) → FineTask K date t x → T x.managing → T (holder_ok K t h) → k ≤ most_ticks → FineTask K date t (held h k x)
held_fine K date t x h k f m o b =
    let l = f.longest in
    record { timer = f.timer; holder = o; waits = imp_i (not x.managing) _ (λ n. absurd (T_not x.managing n m)); counts = f.counts; missed = f.missed; longest = omega arith; opened = f.opened }

-- `fm`: a waiting manager
pub closed_fine : (K : Table) (date t : ℕ) (x : Task) → FineTask K date t x → T (by_manager x.holder) → FineTask K date t (closed x)
closed_fine K date t x f h = record { timer = f.timer; holder = f.holder; waits = and_i (by_manager x.holder) _ h tt; counts = f.counts; missed = omega (arith, f.missed); longest = zero-le; opened = zero-le }

-- `wait`: date and timer grow alike
pub timed_fine : (K : Table) (date t d : ℕ) (x : Task) → FineTask K date t x → x.timer + d ≤ K.period t → FineTask K (date + d) t (timed d x)
timed_fine K date t d x f r = record { timer = r; holder = f.holder; waits = f.waits; counts = omega (arith, f.counts); missed = omega (arith, f.missed); longest = f.longest; opened = omega (arith, f.opened) }

-- a task that an activity holds is managing
pub managing_of : (K : Table) (date t a : ℕ) (x : Task) → FineTask K date t x → T (held_by x.holder a) → T x.managing
managing_of K date t a x f h = ⊎_elim (λ m. m)
    (λ n. absurd (subst (λ z. T (held_by z a)) (manager_is x.holder (and_l (by_manager x.holder) _ (imp_e (not x.managing) _ f.waits n))) h))
    (yes_or_no x.managing)

-- An activity's record after each change, or its task's.
module _ (K : Table) (a : ℕ) where
  -- no clock of a sound state is above the largest limit
  pub clock_bound : Formed K → (x : Task) (y : Act) → FineAct K a x y → y.clock ≤ most_ticks
  clock_bound F x y f = ⊎_elim
      (λ e. let w = executing K a x y f e in omega (arith, w.in_time, F.limit_high w.codel w.in_k))
      (λ n. omega (arith, eqb→eq y.clock 0 (rw (T_false y.executing (T_not y.executing n)) at f.clock)))
      (yes_or_no y.executing)

  -- under another record of its task, with the same manager and the same holding
  pub fine_same : (x z : Task) (y : Act) → x.managing ≡ z.managing → held_by x.holder a ≡ held_by z.holder a → FineAct K a x y → FineAct K a z y
  fine_same x z y p q f = record { own = f.own; sets = rw (← p) f.sets; rests = rw (← q) f.rests; listed = rw (← q) f.listed; still = f.still; runs = rw (← q) f.runs; clock = f.clock }

  -- under a manager that waits, in neither set
  pub closed_act : (x : Task) (y : Act) → FineAct K a x y → (T (y.run or y.halt) → ⊥) → FineAct K a (closed x) y
  closed_act x y f none = record { own = f.own; sets = imp_i (y.run or y.halt) false none; rests = f.rests; listed = f.listed; still = f.still; runs = f.runs; clock = f.clock }

  -- under a manager that begins to manage, in the sets as given
  pub listed_fine : (date : ℕ) (x : Task) (n r : Set) (y : Act) → FineAct K a x y → held_by x.holder a ≡ false → FineAct K a (managed date x) (listed true n r a y)
  listed_fine date x n r y f e = record { own = f.own; sets = imp_i (member n a or member r a) true (λ u. tt); rests = rw e (rw e at f.rests); listed = rw e tt; still = f.still; runs = rw e tt; clock = f.clock }

  -- it holds and enters a codel of its own
  pub enter_fine : (x : Task) (y : Act) (c : ℕ) → T (held_by x.holder a) → T (not y.halt) → T (at_own K a (Codel c)) → T (sets_while_managing x y) → FineAct K a x (entered K c y)
  enter_fine x y c h n o w =
      let hold = T_true (held_by x.holder a) h in
      let out = T_false y.halt (T_not y.halt n) in
      record { own = o; sets = w; rests = rw (hold, out) tt; listed = rw hold tt; still = tt; runs = rw (hold, out) (imp_i (safe K c) _ (λ t. t)); clock = zero_clock (safe K c) }
    where
      zero_clock : (b : Bool) → T (cond b (leb 0 (K.limit c)) true)
      zero_clock true = le→leb 0 (K.limit c) zero-le
      zero_clock false = tt

  -- the manager lets it run
  pub lm_fine : (x : Task) (y : Act) → FineAct K a x y → held_by x.holder a ≡ false → T (y.run or y.halt) → FineAct K a (held (Activity a) 0 x) (again K y.halt y.place y)
  lm_fine x y f e n = go y.halt refl y.place refl
    where
      me : eqb a a ≡ true
      me = T_true (eqb a a) (eqb_refl a)

      go : (l : Bool) → y.halt ≡ l → (p : Place) → y.place ≡ p → FineAct K a (held (Activity a) 0 x) (again K l p y)
      go true i p q = record { own = f.own; sets = f.sets; rests = rw (me, i) (rw e at f.rests); listed = imp_i (eqb a a and is_ether y.place) _ (λ t. n); still = f.still; runs = rw (me, i) tt; clock = f.clock }
      go false i Ether q = record { own = f.own; sets = f.sets; rests = rw (me, i) tt; listed = imp_i (eqb a a and is_ether y.place) _ (λ t. n); still = f.still; runs = rw (me, i, q) tt; clock = f.clock }
      go false i (Codel c) q = enter_fine (held (Activity a) 0 x) y c (eqb_refl a) (rw i tt) (subst (λ p. T (at_own K a p)) q f.own) f.sets

  -- it begins to execute where it stands
  pub cx_fine : (x : Task) (y : Act) → FineAct K a x y → T (held_by x.holder a) → T (not y.halt) → T (stands K y y.place) → FineAct K a x (begun y)
  cx_fine x y f h n st = go y.place refl st
    where
      go : (p : Place) → y.place ≡ p → T (stands K y p) → FineAct K a x (begun y)
      go Ether q st = absurd st
      go (Codel c) q st =
          let hold = T_true (held_by x.holder a) h in
          let out = T_false y.halt (T_not y.halt n) in
          record { own = f.own; sets = f.sets; rests = rw (hold, out) tt; listed = rw (hold, q) tt; still = rw q tt; runs = imp_i (held_by x.holder a and not y.halt and at_safe K y.place) true (λ t. tt); clock = rw q (le→leb 0 (K.limit c) zero-le) }

  -- it is given back at a place of its own where it may rest
  pub rested_fine : (k : ℕ) (x : Task) (p : Place) → T (at_own K a p) → T (may_rest K p) → FineAct K a (held Manager k x) (rested p)
  rested_fine k x p o r = record { own = o; sets = tt; rests = and_i (may_rest K p) _ r tt; listed = tt; still = imp_i (is_ether p) true (λ t. tt); runs = tt; clock = tt }

  -- `wait`: its clock may grow by d
  pub clocked_fine : (d : ℕ) (x : Task) (y : Act) → FineAct K a x y → ((c : ℕ) → y.place ≡ Codel c → T y.executing → y.clock + d ≤ K.limit c) → FineAct K a (timed d x) (clocked d y)
  clocked_fine d x y f g = record { own = f.own; sets = f.sets; rests = f.rests; listed = f.listed; still = f.still; runs = f.runs; clock = aged_ok y.executing refl y.place refl }
    where
      aged_ok : (e : Bool) → y.executing ≡ e → (p : Place) → y.place ≡ p → T (clock_ok K (clocked d y))
      aged_ok false i p q = rw i (rw i at f.clock)
      aged_ok true i Ether q = absurd (rw (i, q) at f.clock)
      aged_ok true i (Codel c) q = rw (i, q) (le→leb _ _ (g c q (true_T y.executing i)))

-- what executes after entering a codel is thread safe
pub enter_runs : (K : Table) (d c : ℕ) → T (safe K d and eqb d c) → T (safe K c)
enter_runs K d c u = subst (λ z. T (safe K z)) (eqb→eq d c (and_r (safe K d) _ u)) (and_l (safe K d) _ u)

-- what executes after `lm` did before, or is thread safe
pub again_runs : (K : Table) (l : Bool) (p : Place) (y : Act) (c : ℕ) → T (runs (again K l p y) c) → T (runs y c) ⊎ T (safe K c)
again_runs K true p y c u = inl u
again_runs K false Ether y c u = inl u
again_runs K false (Codel d) y c u = inr (enter_runs K d c u)

-- what `cx` lets execute is clear of conflicts
pub cx_clear : (K : Table) (s : State) (p : Place) (c : ℕ) → T (clear_at K s p) → T (is_codel p c) → T (clear K s c)
cx_clear K s Ether c w u = absurd u
cx_clear K s (Codel d) c w u = subst (λ z. T (clear K s z)) (eqb→eq d c u) w

-- an allowed `ea` leads to a codel of the activity's own
pub ea_own : (K : Table) → Formed K → (a c : ℕ) (y : Act) (p : Place) → c < K.ncodels → T (at_own K a p) → T (ea_allowed K y a c p) → T (at_own K a (Codel c))
ea_own K F a c y Ether hc o w = and_i (ltb c K.ncodels) _ (lt→ltb _ _ hc) (and_l (eqb (K.owner c) a) _ w)
ea_own K F a c y (Codel d) hc o w = subst (λ b. T (at_own K b (Codel c))) (eqb→eq _ _ (and_r (ltb d K.ncodels) _ o)) (F.stays d (Codel c) false (and_r y.executing _ w))

-- an allowed `fa` leads to a place of the activity's own where it may rest
pub fa_rests : (K : Table) (F : Formed K) (d : ℕ) (p : Place) → T (fa_allowed K (Codel d) p) → T (may_rest K p) × T (at_own K (K.owner d) p)
fa_rests K F d Ether w = (tt, tt)
fa_rests K F d (Codel c) w = ⊎_elim (λ e. (pause_rests K d (Codel c) e, F.stays d (Codel c) true e)) (λ e. absurd e) (or_cases (has_edge K d (Codel c) true) false w)

-- `sm` lets nothing begin or end to execute
pub listed_runs : (z : Bool) (n r : Set) (a : ℕ) (y : Act) (c : ℕ) → runs (listed z n r a y) c ≡ runs y c
listed_runs true n r a y c = refl
listed_runs false n r a y c = refl
