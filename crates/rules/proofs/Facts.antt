-- What a sound state's rows say, also those past the counts, and that a well-formed table has the rows which a step names.
use mathlib.Core.Bool.{true, not}
use mathlib.Core.List.{List}
use mathlib.Core.Path.{◌≡◌, subst⁻¹}
use Prim.Native.Nat.{ℕ, ◌≤◌, ◌<◌}
use native.Mathlib.Omega.{arith}
use lib.Dec.{T, leb, ltb, eqb, leb→le, ltb→lt, eqb→eq}
use lib.ListN.{length, get_or, get_or-eq_default}
use Rattle.text.proofs.Picks.{order}
use Rattle.model.specs.Tests.{◌and◌, each}
use Rattle.model.specs.Limits.{most_tasks, most_acts, most_ticks, ceiling}
use Rattle.model.specs.Tables.{Table, is_ether, known}
use Rattle.model.specs.Rows.{has_act, has_start, leaves, last_fault, task_fine, act_fine, codel_fine, edge_fine, mutex_fine, wellformed}
use Rattle.model.specs.States.{no_task, no_act, task_at, act_at}
use Rattle.model.specs.Sound.{at_own}
use Rattle.model.specs.declared.State.{State}
use Rattle.model.specs.declared.Place.{Place}
use Rattle.model.specs.declared.Place.TheVariants.{Ether, Codel}
use Rattle.model.specs.declared.ActStep.{ActStep}
use Rattle.model.specs.declared.ActStep.TheVariants.{Lm, Ia, Ea, Cx, Fa}
use Rattle.model.proofs.Tests.{true_T, and_l, and_r, each_at, some_at, need_of}
use Rattle.model.proofs.Formed.{Formed, formed}
use Rattle.model.proofs.Soundness.{Sound, fine_at, task_at_lem}
use Rattle.model.proofs.Sentences.{clock_bound}
use Rattle.rules.specs.Local.{naming, task_in}
use Rattle.rules.proofs.Named.{act_there}

-- an activity's own place is known
own_known : (K : Table) (a : ℕ) (p : Place) → T (at_own K a p) → T (known K p)
own_known K a Ether t = tt
own_known K a (Codel c) t = and_l (ltb c K.ncodels) _ t

ether_known : (K : Table) (p : Place) → T (is_ether p) → T (known K p)
ether_known K Ether t = tt
ether_known K (Codel c) t = absurd t

-- what holds of each row of the table, of each one past the count and of none holds of every row
row_cases : {A : Type 0} (Q : A → Type 0) (l : List A) (d : A) (n m i : ℕ) → length l ≡ m → Q d → (i < n → Q (get_or l i d)) → (n ≤ i → i < m → Q (get_or l i d)) → Q (get_or l i d)
row_cases Q l d n m i e none row past = order i n row (λ k. order i m (past k) (λ h. subst⁻¹ Q (get_or-eq_default l d (omega arith)) none))

module _ (K : Table) (s : State) (S : Sound K s) where
  -- every activity is at ether or at a codel that has a row
  pub place_known : (a : ℕ) → T (known K (act_at s a).place)
  place_known a =
      row_cases (λ y. T (known K y.place)) s.acts no_act K.nacts most_acts a S.shape.acts tt
      (λ h. own_known K a (act_at s a).place (fine_at K s S a h).own)
      (λ l h. ether_known K (act_at s a).place (and_l (is_ether (act_at s a).place) _ (S.rest_a a l h)))

  -- missed fits, and so do timers and clocks
  pub missed_fits : (t : ℕ) → t < K.ntasks → (task_at s t).missed ≤ ceiling
  missed_fits t h = omega (arith, (task_at_lem K s S t h).missed, S.date)

module _ (K : Table) (F : Formed K) (s : State) (S : Sound K s) where
  pub timer_fits : (t : ℕ) → (task_at s t).timer ≤ most_ticks
  timer_fits t =
      row_cases (λ x. x.timer ≤ most_ticks) s.tasks no_task K.ntasks most_tasks t S.shape.tasks (omega arith)
      (λ h. omega (arith, (task_at_lem K s S t h).timer, F.period_high t h))
      (λ l h. omega (arith, eqb→eq (task_at s t).timer 0 (and_l (eqb (task_at s t).timer 0) _ (S.rest_t t l h))))

  pub clock_fits : (a : ℕ) → (act_at s a).clock ≤ most_ticks
  clock_fits a =
      let y = act_at s a in
      row_cases (λ y. y.clock ≤ most_ticks) s.acts no_act K.nacts most_acts a S.shape.acts (omega arith)
      (λ h. clock_bound K a F _ y (fine_at K s S a h))
      (λ l h. omega (arith, eqb→eq y.clock 0 (and_l (eqb y.clock 0) _ (and_r (not y.executing) _ (and_r (is_ether y.place) _ (S.rest_a a l h))))))

-- the rows of a well-formed table
module _ (K : Table) (wf : wellformed K ≡ true) where
  -- rule 7 at the last row: each task has an activity
  last : T (leb 1 K.ntasks and each K.ntasks (has_act K) and each K.nacts (has_start K) and each K.ncodels (leaves K))
  unfolding wellformed last_fault
  last =
      let act = and_r (each K.ntasks (task_fine K)) _ (true_T _ wf) in
      let codel = and_r (each K.nacts (act_fine K)) _ act in
      let edge = and_r (each K.ncodels (codel_fine K)) _ codel in
      let mutex = and_r (each K.nedges (edge_fine K)) _ edge in
      (need_of (leb 1 K.ntasks and each K.ntasks (has_act K) and each K.nacts (has_start K) and each K.ncodels (leaves K)) 7 0 tt (eqb→eq (last_fault K) 0 (and_r (each K.nmutex (mutex_fine K)) _ mutex))).0

  pub tasks_some : 0 < K.ntasks
  tasks_some = omega (arith, leb→le 1 K.ntasks (and_l (leb 1 K.ntasks) _ last))

  pub act_of_lem : (t : ℕ) → t < K.ntasks → (a : ℕ) × (a < K.nacts) × (K.task a ≡ t)
  act_of_lem t h =
      let w = some_at (λ a. eqb (K.task a) t) K.nacts (each_at (has_act K) K.ntasks (and_l (each K.ntasks (has_act K)) _ (and_r (leb 1 K.ntasks) _ last)) t h) in
      (w.0, w.1, eqb→eq _ _ w.2)

  -- the task whose record an activity's step touches has a row
  pub task_there : (a : ℕ) (k : ActStep) → naming K a k ≡ 0 → task_in K a k < K.ntasks
  unfolding naming
  task_there a (Lm t) h = ltb→lt _ _ (and_l (ltb t K.ntasks) _ (need_of (ltb t K.ntasks and ltb a K.nacts) 12 0 tt h).0)
  task_there a Ia h = (formed K (true_T _ wf)).task a (act_there K a Ia h)
  task_there a (Ea p) h = (formed K (true_T _ wf)).task a (act_there K a (Ea p) h)
  task_there a Cx h = (formed K (true_T _ wf)).task a (act_there K a Cx h)
  task_there a (Fa p) h = (formed K (true_T _ wf)).task a (act_there K a (Fa p) h)
