-- Demand 3, from the fresh state and from any sound one: there is always a step, nothing conflicts, codels end in time, few steps at a date.
use mathlib.Core.Bool.{Bool, true, false, not, cond}
use mathlib.Core.Path.{◌≡◌, ap, sym, subst, ◌∙◌}
use mathlib.Core.List.{List, [], ◌∷◌}
use Prim.Native.Nat.{ℕ, ◌+◌, ◌*◌, ◌≤◌, ◌<◌, max}
use native.Mathlib.Omega.{arith}
use lib.Dec.{T, eqb→eq, T_not}
use Rattle.model.specs.Tests.{◌and◌, accepted}
use Rattle.model.specs.Limits.{ceiling}
use Rattle.model.specs.Tables.{Table, is_codel}
use Rattle.model.specs.Rows.{wellformed}
use Rattle.model.specs.States.{fresh, task_at, act_at, executes}
use Rattle.model.specs.Rules.{refusal, next}
use Rattle.model.specs.Sound.{sound}
use Rattle.model.specs.Logs.{all_accepted, reached, is_wait, most}
use Rattle.model.specs.Weight.{weight}
use Rattle.model.specs.declared.State.{State}
use Rattle.model.specs.declared.Holder.TheVariants.{Activity}
use Rattle.model.specs.declared.Step.{Step}
use Rattle.model.proofs.Tests.{and_i, and_l, and_r, and_both}
use Rattle.model.proofs.Formed.{Formed, formed}
use Rattle.model.proofs.Soundness.{Shaped, Sound, sound_of, fresh_shaped, fresh_sound, held_is, executing_at}
use Rattle.model.proofs.StepsKeep.{step_keeps, reached_sound}
use Rattle.model.proofs.Falls.{weight_bound, step_falls}
use Rattle.model.proofs.Progress.{progress}

-- a bound on the weight after each accepted wait bounds the steps other than waits at one date
module _ (K : Table) (F : Formed K) (bound : ℕ) (waited : (s : State) → Sound K s → (x : Step) → T (is_wait x) → refusal K s x ≡ 0 → weight K (next K s x) ≤ bound) where
  pub most_bound : (xs : List Step) (s : State) (n : ℕ) → Sound K s → T (all_accepted K s xs) → n + weight K s ≤ bound → most n xs ≤ bound
  unfolding all_accepted most
  most_bound [] s n S ok h = omega arith
  most_bound (x ∷ xs) s n S ok h =
      let now = and_both (accepted (refusal K s x)) _ ok in
      let acc : refusal K s x ≡ 0 = eqb→eq _ _ now.0 in
      let S' = step_keeps K F s S x acc in
      go (is_wait x) (most_bound xs (next K s x) 0 S' now.1) (most_bound xs (next K s x) (n + 1) S' now.1) (λ w. waited s S x w acc) (λ w. step_falls K F s S x w acc)
    where
      go : (b : Bool) → (0 + weight K (next K s x) ≤ bound → most 0 xs ≤ bound) → (n + 1 + weight K (next K s x) ≤ bound → most (n + 1) xs ≤ bound)
          → (T b → weight K (next K s x) ≤ bound) → (T (not b) → weight K (next K s x) + 1 ≤ weight K s) → cond b (max n (most 0 xs)) (most (n + 1) xs) ≤ bound
      go true anew on w f = let u = anew (omega (arith, w tt)) in omega arith
      go false anew on w f = on (omega (arith, f tt))

-- what demand 3 asks of the accepted steps xs from s
pub record DemandThree (K : Table) (s : State) (xs : List Step) : Type 0 where
  -- below the ceiling some step is accepted
  pub goes_on : (reached K s xs).date < ceiling → (x : Step) × (refusal K (reached K s xs) x ≡ 0)
  -- two codels of a mutex row do not both execute
  pub conflicts : (m : ℕ) → m < K.nmutex → T (executes K (reached K s xs) (K.mutex m).lo) → T (executes K (reached K s xs) (K.mutex m).hi) → ⊥
  -- two executing activities of one task are the same
  pub alone : (a b : ℕ) → a < K.nacts → b < K.nacts → K.task a ≡ K.task b → T (act_at (reached K s xs) a).executing → T (act_at (reached K s xs) b).executing → a ≡ b
  -- an executing codel is within its limit
  pub in_time : (c : ℕ) → c < K.ncodels → T (executes K (reached K s xs) c) → (act_at (reached K s xs) (K.owner c)).clock ≤ K.limit c
  -- the steps other than waits at one date are at most 6 for each task and 6 for each activity
  pub bound : most 0 xs ≤ K.ntasks * 6 + K.nacts * 6

-- demand 3 from any sound state
pub demand_three_from : (K : Table) → T (wellformed K) → (s : State) → Shaped s → T (sound K s) → (xs : List Step) → T (all_accepted K s xs) → DemandThree K s xs
demand_three_from K wf s shape ok₀ xs ok = record {
  goes_on = progress K F end E;
  conflicts = λ m hm u v. T_not (executes K end (K.mutex m).lo and executes K end (K.mutex m).hi) (E.pairs m hm) (and_i (executes K end (K.mutex m).lo) _ u v);
  alone = λ a b ha hb e u v.
      let p : (task_at end (K.task a)).holder ≡ Activity a = held_is _ a (executing_at K end E a ha u).holds in
      let q : (task_at end (K.task b)).holder ≡ Activity b = held_is _ b (executing_at K end E b hb v).holds in
      same a b (sym p ∙ ap (λ t. (task_at end t).holder) e ∙ q);
  in_time = λ c hc u.
      let y = act_at end (K.owner c) in
      let w = executing_at K end E (K.owner c) (F.owner c hc) (and_l y.executing _ u) in
      subst (λ d. y.clock ≤ K.limit d) (eqb→eq _ _ (subst (λ p. T (is_codel p c)) w.place (and_r y.executing _ u))) w.in_time;
  bound = most_bound K F (K.ntasks * 6 + K.nacts * 6) (λ z Z x w acc. weight_bound K (next K z x)) xs s 0 S ok (omega (arith, weight_bound K s));
}
  where
    F : Formed K
    F = formed K wf

    S : Sound K s
    S = sound_of K s shape ok₀

    end : State
    end = reached K s xs

    E : Sound K (reached K s xs)
    E = reached_sound K F xs s S ok

    same : (a b : ℕ) → Activity a ≡ Activity b → a ≡ b
    same a b e = cc

-- demand 3 from the fresh state
pub demand_three : (K : Table) → T (wellformed K) → (xs : List Step) → T (all_accepted K fresh xs) → DemandThree K fresh xs
demand_three K wf = demand_three_from K wf fresh fresh_shaped (fresh_sound K)
