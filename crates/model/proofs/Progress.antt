-- Below the ceiling a sound state always allows some step.
use mathlib.Core.Bool.{Bool, true, false}
use mathlib.Core.Path.{◌≡◌, ap, subst⁻¹}
use mathlib.Core.Logic.{⊎_elim}
use Prim.Native.Nat.{ℕ, ◌+◌, ◌≤◌, ◌<◌}
use native.Mathlib.Omega.{arith}
use borrow.Author.Tests.{leb-false}
use lib.Dec.{T, leb, ltb, le→leb, ltb→lt, eqb→eq}
use Rattle.model.specs.Tests.{◌implies◌, each}
use Rattle.model.specs.Limits.{ceiling}
use Rattle.model.specs.Tables.{Table, is_ether, is_codel, known, has_edge}
use Rattle.model.specs.States.{task_at, act_at, executes}
use Rattle.model.specs.Rules.{ea_allowed, fa_allowed, urgent, room_for, refusal}
use Rattle.model.specs.Sound.{at_own}
use Rattle.model.specs.declared.Act.{Act}
use Rattle.model.specs.declared.State.{State}
use Rattle.model.specs.declared.Place.{Place}
use Rattle.model.specs.declared.Place.TheVariants.{Ether, Codel}
use Rattle.model.specs.declared.TaskStep.TheVariants.{St}
use Rattle.model.specs.declared.ActStep.TheVariants.{Ea, Fa}
use Rattle.model.specs.declared.Step.{Step}
use Rattle.model.specs.declared.Step.TheVariants.{Wait, OfTask, OfAct}
use Rattle.model.proofs.Tests.{yes_or_no, and_i, and_l, and_r, or_l, or_r, each_or}
use Rattle.model.proofs.Formed.{Formed}
use Rattle.model.proofs.Soundness.{Sound, Executing, task_at_lem, executing_at}
use Rattle.model.proofs.Accepted.{goes_wait, goes_st, goes_ea, goes_fa}
use Rattle.model.proofs.Urgent.{urgent_exact}

imp_false : (a b : Bool) → a implies b ≡ false → T a × (b ≡ false)
imp_false true b e = (tt, e)
imp_false false b e = let z : ◌≡◌ {A = ℕ} 0 1 = cc in absurd (omega arith)

codel_is : (p : Place) (c : ℕ) → T (is_codel p c) → p ≡ Codel c
codel_is Ether c t = absurd t
codel_is (Codel d) c t = ap Codel (eqb→eq d c t)

-- some step is accepted
abbrev pub Goes : Table → State → Type 0
Goes K s = (x : Step) × (refusal K s x ≡ 0)

module _ (K : Table) (F : Formed K) (s : State) (S : Sound K s) where
  -- a timer that cannot grow is due
  due_goes : (t : ℕ) → t < K.ntasks → leb ((task_at s t).timer + 1) (K.period t) ≡ false → Goes K s
  unfolding refusal
  due_goes t ht e = (OfTask t St, goes_st K s t (record { in_t = ht; due = omega (arith, leb-false ((task_at s t).timer + 1) (K.period t) e, (task_at_lem K s S t ht).timer) }))

  -- a codel that has executed for a tick is left by any edge it has
  edge_goes : (a : ℕ) (ha : a < K.nacts) (e : T (act_at s a).executing) → 1 ≤ (act_at s a).clock → (d : ℕ) → (act_at s a).place ≡ Codel d → (p : Place) (z : Bool) → T (has_edge K d p z) → Goes K s
  unfolding refusal
  edge_goes a ha e k d at p z ed = go p z ed (F.stays d p z ed)
    where
      y : Act
      y = act_at s a

      w : Executing K a (task_at s (K.task a)) y
      w = executing_at K s S a ha e

      away : (p : Place) → T (known K p) → T (fa_allowed K (Codel d) p) → Goes K s
      away p kn al = (OfAct a (Fa p), goes_fa K s a p (record { in_a = ha; known = kn; holds = w.holds; executing = e; allowed = subst⁻¹ (λ q. T (fa_allowed K q p)) at al; clock = k }))

      go : (p : Place) (z : Bool) → T (has_edge K d p z) → T (at_own K (K.owner d) p) → Goes K s
      go Ether true ed o = away Ether tt (or_l (has_edge K d Ether true) _ ed)
      go Ether false ed o = away Ether tt (or_r (has_edge K d Ether true) _ ed)
      go (Codel c) true ed o = away (Codel c) (and_l (ltb c K.ncodels) _ o) (or_l (has_edge K d (Codel c) true) _ ed)
      go (Codel c) false ed o = (OfAct a (Ea (Codel c)), goes_ea K s a c (record { in_a = ha; in_c = ltb→lt _ _ (and_l (ltb c K.ncodels) _ o); holds = w.holds; not_r = w.not_r; allowed = subst⁻¹ (λ q. T (ea_allowed K y a c q)) at (and_i y.executing _ e ed); clock = or_r (is_ether y.place) _ (le→leb _ _ k) }))

  -- a codel whose clock cannot grow is left
  end_goes : (c : ℕ) → c < K.ncodels → executes K s c implies leb ((act_at s (K.owner c)).clock + 1) (K.limit c) ≡ false → Goes K s
  end_goes c hc e =
      let w = imp_false (executes K s c) _ e in
      let a = K.owner c in
      let y = act_at s a in
      let ed = F.leaves c hc in
      edge_goes a (F.owner c hc) (and_l y.executing _ w.0) (omega (arith, leb-false (y.clock + 1) (K.limit c) w.1, F.limit_low c hc)) c (codel_is y.place c (and_r y.executing _ w.0)) ed.0 ed.1 ed.2

  -- below the ceiling some step is accepted: one that hinders a wait, `st`, the end of a codel, or a wait of 1
  pub progress : s.date < ceiling → Goes K s
  unfolding refusal room_for
  progress h = ⊎_elim (λ u. let w = (urgent_exact K s).0 u in (w.0, w.2))
      (λ n. ⊎_elim
      (λ ts. ⊎_elim (λ cs. (Wait 1, goes_wait K s 1 (record { range = tt; calm = n; room = and_i (each K.ntasks timers) _ ts cs; below = omega arith }))) (λ w. end_goes w.0 w.1 w.2) (each_or codels K.ncodels))
      (λ w. due_goes w.0 w.1 w.2)
      (each_or timers K.ntasks))
      (yes_or_no (urgent K s))
    where
      timers : ℕ → Bool
      timers t = leb ((task_at s t).timer + 1) (K.period t)

      codels : ℕ → Bool
      codels c = executes K s c implies leb ((act_at s (K.owner c)).clock + 1) (K.limit c)
