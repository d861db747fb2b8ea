-- What stands beside a sound state of the codels that execute says what the rules ask of the state.
use mathlib.Core.Bool.{Bool, true, false, not}
use mathlib.Core.Logic.{⊎_elim}
use mathlib.Core.Path.{◌≡◌, refl, sym, subst, subst⁻¹, ◌∙◌}
use Prim.Native.Nat.{ℕ, ◌<◌}
use native.Mathlib.Omega.{arith}
use lib.Dec.{T, ltb, eqb, ltb→lt, lt→ltb, eqb→eq, eqb_refl, T_not, not_T}
use lib.ListN.{get_or, get_or-map}
use Rattle.model.specs.Tests.{◌and◌, ◌or◌, ◌implies◌, each}
use Rattle.model.specs.Tables.{Table, is_codel}
use Rattle.model.specs.States.{no_act, act_at, runs, executes, clear, clear_at}
use Rattle.model.specs.declared.State.{State}
use Rattle.model.specs.declared.Place.{Place}
use Rattle.model.specs.declared.Place.TheVariants.{Ether, Codel}
use Rattle.model.specs.declared.ActStep.{ActStep}
use Rattle.model.specs.declared.ActStep.TheVariants.{Lm, Ia, Ea, Cx, Fa}
use Rattle.model.proofs.Tests.{same_test, and_i, and_l, and_r, or_l, or_r, or_cases, imp_i, imp_e, each_at, each_mk, some_at, some_mk}
use Rattle.model.proofs.Formed.{Formed}
use Rattle.model.proofs.Soundness.{Sound, executing_at}
use Rattle.prepared.specs.Prepared.{conflict}
use Rattle.rules.specs.Local.{clear_for}
use Rattle.conflicts.specs.Busy.{no_codel, busy_at, busy_of, busy_in, far_from, clear_by, clear_by_at, clear_for_by}

-- what is kept of one activity
pub busy_at_lem : (s : State) (a : ℕ) → get_or (busy_in s) a no_codel ≡ busy_of (act_at s a)
busy_at_lem s a = get_or-map busy_of s.acts a no_act

-- codels c and d of a mutex row conflict
row_conflict : (K : Table) (m c d : ℕ) → m < K.nmutex → T ((eqb (K.mutex m).lo c and eqb (K.mutex m).hi d) or (eqb (K.mutex m).lo d and eqb (K.mutex m).hi c)) → T (conflict K c d)
unfolding conflict
row_conflict K m c d h t = some_mk _ K.nmutex m h t

conflict_row : (K : Table) (c d : ℕ) → T (conflict K c d) → (m : ℕ) × (m < K.nmutex) × T ((eqb (K.mutex m).lo c and eqb (K.mutex m).hi d) or (eqb (K.mutex m).lo d and eqb (K.mutex m).hi c))
unfolding conflict
conflict_row K c d t = some_at _ K.nmutex t

-- an activity executes the codel that is kept of it
busy_is : (e : Bool) (p : Place) (d : ℕ) → T (e and is_codel p d) → busy_at e p ≡ d
busy_is true Ether d t = absurd t
busy_is true (Codel c) d t = eqb→eq c d t
busy_is false p d t = absurd t

busy_runs : (e : Bool) (p : Place) → busy_at e p < no_codel → T e
busy_runs true p h = tt
busy_runs false p h = absurd (omega arith)

module _ (K : Table) (F : Formed K) (s : State) (S : Sound K s) where
  pub executes_busy : (d : ℕ) → T (executes K s d) → busy_of (act_at s (K.owner d)) ≡ d
  executes_busy d t = busy_is (act_at s (K.owner d)).executing (act_at s (K.owner d)).place d t

  pub busy_executes : (a d : ℕ) → a < K.nacts → d < K.ncodels → busy_of (act_at s a) ≡ d → T (executes K s d)
  busy_executes a d h l e =
      let y = act_at s a in
      let x : T y.executing = busy_runs y.executing y.place (omega (arith, F.fits.2)) in
      let w = executing_at K s S a h x in
      let r : T (runs y w.codel) = and_i y.executing _ x (subst⁻¹ (λ p. T (is_codel p w.codel)) w.place (eqb_refl w.codel)) in
      subst (λ z. T (executes K s z)) (sym (busy_is y.executing y.place w.codel r) ∙ e) (subst⁻¹ (λ b. T (runs (act_at s b) w.codel)) w.owner r)

  -- no codel that conflicts with c executes
  pub clear_by_lem : (c : ℕ) → clear_by K (busy_in s) c ≡ clear K s c
  unfolding clear_by clear
  clear_by_lem c = same_test (clear_by K (busy_in s) c) (clear K s c)
      (λ t. each_mk _ K.nmutex (λ m l.
      let lo = (K.mutex m).lo in
      let hi = (K.mutex m).hi in
      and_i (eqb lo c implies not (executes K s hi)) _
      (imp_i (eqb lo c) _ (λ e. not_T (executes K s hi) (λ x. far t hi (F.mutex m l).1 x (row_conflict K m c hi l (or_l (eqb lo c and eqb hi hi) _ (and_i (eqb lo c) _ e (eqb_refl hi)))))))
      (imp_i (eqb hi c) _ (λ e. not_T (executes K s lo) (λ x. far t lo (F.mutex m l).0 x (row_conflict K m c lo l (or_r (eqb lo c and eqb hi lo) _ (and_i (eqb lo lo) _ (eqb_refl lo) e))))))))
      (λ t. each_mk _ K.nacts (λ a h. subst⁻¹ (λ z. T (far_from K c z)) (busy_at_lem s a)
      (imp_i (ltb (busy_of (act_at s a)) K.ncodels) _ (λ l. not_T (conflict K c (busy_of (act_at s a))) (near t (busy_of (act_at s a)) (busy_executes a (busy_of (act_at s a)) h (ltb→lt (busy_of (act_at s a)) K.ncodels l) refl))))))
    where
      far : T (each K.nacts (λ a. far_from K c (get_or (busy_in s) a no_codel))) → (d : ℕ) → d < K.ncodels → T (executes K s d) → T (conflict K c d) → ⊥
      far t d l x k =
          let u = each_at (λ a. far_from K c (get_or (busy_in s) a no_codel)) K.nacts t (K.owner d) (F.owner d l) in
          let v : T (far_from K c d) = subst (λ z. T (far_from K c z)) (busy_at_lem s (K.owner d) ∙ executes_busy d x) u in
          T_not (conflict K c d) (imp_e (ltb d K.ncodels) _ v (lt→ltb d K.ncodels l)) k

      near : T (clear K s c) → (d : ℕ) → T (executes K s d) → T (conflict K c d) → ⊥
      near t d x k =
          let w = conflict_row K c d k in
          let lo = (K.mutex w.0).lo in
          let hi = (K.mutex w.0).hi in
          let u = each_at _ K.nmutex t w.0 w.1 in
          ⊎_elim
          (λ p. T_not (executes K s hi) (imp_e (eqb lo c) _ (and_l (eqb lo c implies not (executes K s hi)) _ u) (and_l (eqb lo c) _ p)) (subst⁻¹ (λ z. T (executes K s z)) (eqb→eq hi d (and_r (eqb lo c) _ p)) x))
          (λ p. T_not (executes K s lo) (imp_e (eqb hi c) _ (and_r (eqb lo c implies not (executes K s hi)) _ u) (and_r (eqb lo d) _ p)) (subst⁻¹ (λ z. T (executes K s z)) (eqb→eq lo d (and_l (eqb lo d) _ p)) x))
          (or_cases (eqb lo c and eqb hi d) _ w.2)

  pub clear_by_at_lem : (p : Place) → clear_by_at K (busy_in s) p ≡ clear_at K s p
  clear_by_at_lem Ether = refl
  clear_by_at_lem (Codel c) = clear_by_lem c

-- what `cx` asks beside the records
pub clear_for_by_lem : (K : Table) (F : Formed K) (s : State) (S : Sound K s) (a : ℕ) (k : ActStep) → clear_for_by K (busy_in s) k (act_at s a).place ≡ clear_for K s a k
clear_for_by_lem K F s S a (Lm t) = refl
clear_for_by_lem K F s S a Ia = refl
clear_for_by_lem K F s S a (Ea p) = refl
clear_for_by_lem K F s S a Cx = clear_by_at_lem K F s S (act_at s a).place
clear_for_by_lem K F s S a (Fa p) = refl
