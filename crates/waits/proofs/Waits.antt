-- In a sound state the refusal of a wait is told by the tasks and their holders.
use mathlib.Core.Bool.{Bool, true, false, not}
use mathlib.Core.Path.{◌≡◌, refl, subst, subst⁻¹, ◌∙◌}
use Prim.Native.Nat.{ℕ, ◌+◌, ◌<◌}
use lib.Dec.{T, leb, eqb→eq, eqb_refl}
use Rattle.model.specs.Tests.{◌implies◌, each, some, need}
use Rattle.model.specs.Limits.{in_range, ceiling}
use Rattle.model.specs.Tables.{Table, is_codel}
use Rattle.model.specs.States.{task_at, act_at, runs, executes}
use Rattle.model.specs.Rules.{urgent, room_for, wait_refusal, task_hinders, hindered}
use Rattle.model.specs.declared.State.{State}
use Rattle.model.specs.declared.Place.{Place}
use Rattle.model.specs.declared.Place.TheVariants.{Ether, Codel}
use Rattle.model.specs.declared.Holder.{Holder}
use Rattle.model.specs.declared.Holder.TheVariants.{Manager, Activity}
use Rattle.model.proofs.Tests.{same_test, and_i, and_l, and_r, imp_i, imp_e, each_at, each_mk}
use Rattle.model.proofs.Formed.{Formed}
use Rattle.model.proofs.Soundness.{Sound, held_is, holder_in, executing_at, task_at_lem}
use Rattle.model.proofs.Urgent.{urgent_hindered}
use Rattle.table.proofs.Tests.{some_same}
use Rattle.table.proofs.Marks.{or_false}
use Rattle.conflicts.specs.Busy.{busy_in}
use Rattle.waits.specs.Waits.{held_in, hinders_by, limit_at, held_room, room_by}
use Rattle.conflicts.proofs.Busy.{clear_by_at_lem}

-- the two tests of task t
abbrev pub hinders_at : Table → State → ℕ → Bool
hinders_at K s t = hinders_by K (busy_in s) (task_at s t) (task_at s t).holder (act_at s (held_in (task_at s t).holder))

abbrev pub room_at : Table → State → ℕ → ℕ → Bool
room_at K s d t = room_by K d t (task_at s t) (act_at s (held_in (task_at s t).holder))

module _ (K : Table) (F : Formed K) (s : State) (S : Sound K s) where
  -- 16: a task that an activity holds is managing
  same_hinders : (t : ℕ) → t < K.ntasks → task_hinders K s t ≡ hinders_at K s t
  same_hinders t l = go (task_at s t).managing (task_at s t).holder refl refl
    where
      go : (m : Bool) (h : Holder) → (task_at s t).managing ≡ m → (task_at s t).holder ≡ h → task_hinders K s t ≡ hinders_at K s t
      go true Manager e q = rw (q, e)
      go true (Activity a) e q = rw (e, q, clear_by_at_lem K F s S (act_at s a).place)
      go false Manager e q = rw (q, e) (or_false (task_at s t).signal)
      go false (Activity a) e q = absurd (rw (e, q) at (task_at_lem K s S t l).waits)

  urgent_by : urgent K s ≡ some K.ntasks (hinders_at K s)
  unfolding hindered
  urgent_by = urgent_hindered K F s S ∙ some_same (task_hinders K s) (hinders_at K s) K.ntasks same_hinders

  -- 17: what executes is a holder
  room_by_lem : (d : ℕ) → room_for K s d ≡ each K.ntasks (room_at K s d)
  unfolding room_for
  room_by_lem d = same_test (room_for K s d) (each K.ntasks (room_at K s d))
      (λ r. each_mk (room_at K s d) K.ntasks (λ t h.
      and_i (timers t) _ (each_at timers K.ntasks (and_l (each K.ntasks timers) _ r) t h)
      (to t h (task_at s t).holder refl (and_r (each K.ntasks timers) _ r))))
      (λ r. and_i (each K.ntasks timers) _
      (each_mk timers K.ntasks (λ t h. and_l (timers t) _ (each_at (room_at K s d) K.ntasks r t h)))
      (each_mk codels K.ncodels (λ c h. imp_i (executes K s c) _ (from c h r))))
    where
      timers : ℕ → Bool
      timers t = leb ((task_at s t).timer + d) (K.period t)

      codels : ℕ → Bool
      codels c = executes K s c implies leb ((act_at s (K.owner c)).clock + d) (K.limit c)

      at_codel : (c n : ℕ) (p : Place) → T (is_codel p c) → T (limit_at K p n) → T (leb n (K.limit c))
      at_codel c n Ether i r = absurd i
      at_codel c n (Codel b) i r = subst (λ u. T (leb n (K.limit u))) (eqb→eq b c i) r

      from : (c : ℕ) → c < K.ncodels → T (each K.ntasks (room_at K s d)) → T (executes K s c) → T (leb ((act_at s (K.owner c)).clock + d) (K.limit c))
      from c h r x =
          let a = K.owner c in
          let y = act_at s a in
          let l = F.owner c h in
          let ex = and_l y.executing _ x in
          let e = held_is (task_at s (K.task a)).holder a (executing_at K s S a l ex).holds in
          let v = and_r (timers (K.task a)) _ (each_at (room_at K s d) K.ntasks r (K.task a) (F.task a l)) in
          at_codel c (y.clock + d) y.place (and_r y.executing _ x) (imp_e y.executing _ (subst (λ h. T (held_room K d h (act_at s (held_in h)))) e v) ex)

      to : (t : ℕ) → t < K.ntasks → (h : Holder) → (task_at s t).holder ≡ h → T (each K.ncodels codels) → T (held_room K d h (act_at s (held_in h)))
      to t l Manager e r = tt
      to t l (Activity a) e r = imp_i (act_at s a).executing _ (λ x.
          let w = executing_at K s S a (holder_in K s S t a l e).0 x in
          let q : T (runs (act_at s a) w.codel implies leb ((act_at s a).clock + d) (K.limit w.codel)) =
          subst (λ u. T (runs (act_at s u) w.codel implies leb ((act_at s u).clock + d) (K.limit w.codel))) w.owner (each_at codels K.ncodels r w.codel w.in_k) in
          subst⁻¹ (λ p. T (limit_at K p ((act_at s a).clock + d))) w.place
          (imp_e (runs (act_at s a) w.codel) _ q (and_i (act_at s a).executing _ x (subst⁻¹ (λ p. T (is_codel p w.codel)) w.place (eqb_refl w.codel)))))

  -- the refusal of a wait
  pub wait_by_holders : (d : ℕ) → wait_refusal K s d ≡ need (in_range d) 12 (need (not (some K.ntasks (hinders_at K s))) 16 (need (each K.ntasks (room_at K s d)) 17 (need (leb (s.date + d) ceiling) 18 0)))
  wait_by_holders d = rw (urgent_by, room_by_lem d)
