-- The holders' clocks after a wait: to make those of the first tasks older, holder by holder, is in the end the rules' next state; and what
-- is kept beside the state stays as it is.
use mathlib.Core.Bool.{Bool, false}
use mathlib.Core.List.{List, map}
use mathlib.Core.Logic.{⊎_elim}
use mathlib.Core.Path.{◌≡◌, refl, ap, sym, ◌∙◌}
use Prim.Native.Nat.{ℕ, zero, suc, ◌≤◌, ◌<◌}
use native.Mathlib.Omega.{arith}
use lib.Dec.{T, eqb_refl}
use lib.ListN.{length, get_or, length-set}
use lib.Seq.{get_or-set_same, get_or-set_other, map-set_same, ext_get_or}
use Rattle.text.proofs.Picks.{cases, order, false_true}
use Rattle.model.specs.Tables.{Table}
use Rattle.model.specs.States.{no_act, task_at, act_at, holds}
use Rattle.model.specs.Rules.{anew, aged, clocked}
use Rattle.model.specs.declared.Act.{Act}
use Rattle.model.specs.declared.State.{State}
use Rattle.model.specs.declared.Holder.{Holder}
use Rattle.model.specs.declared.Holder.TheVariants.{Manager, Activity}
use Rattle.model.proofs.Tests.{T_true, T_false, true_T, last_or}
use Rattle.model.proofs.Rows.{anew_length, anew_past, anew_at}
use Rattle.model.proofs.Formed.{Formed}
use Rattle.model.proofs.Frames.{in_acts}
use Rattle.model.proofs.Soundness.{Sound, held_is, holder_in, executing_at}
use Rattle.waits.specs.Waits.{older, older_acts}

-- one holder older: as many activities, the others as they were, and nothing kept changes
module _ (d : ℕ) (l : List Act) where
  one_length : (h : Holder) → length (older h d l) ≡ length l
  one_length Manager = refl
  one_length (Activity a) = length-set l a _

  one_same : {B : Type 0} (f : Act → B) → ((y : Act) → f (clocked d y) ≡ f y) → (h : Holder) → map f (older h d l) ≡ map f l
  one_same f e Manager = refl
  one_same f e (Activity a) = map-set_same f l a (clocked d (get_or l a no_act)) no_act (e (get_or l a no_act))

  one_other : (h : Holder) (a : ℕ) → (h ≡ Activity a → ⊥) → get_or (older h d l) a no_act ≡ get_or l a no_act
  one_other Manager a n = refl
  one_other (Activity b) a n = get_or-set_other l b a _ no_act (λ e. n (ap Activity (sym e)))

module _ (s : State) (d : ℕ) where
  pub older_length : (n : ℕ) → length (older_acts s d n) ≡ length s.acts
  unfolding older_acts
  older_length zero = refl
  older_length (suc n) = one_length d (older_acts s d n) (task_at s n).holder ∙ older_length n

  -- what a wait does not change of an activity stays as it is
  pub older_same : {B : Type 0} (f : Act → B) → ((y : Act) → f (clocked d y) ≡ f y) → (n : ℕ) → map f (older_acts s d n) ≡ map f s.acts
  unfolding older_acts
  older_same f e zero = refl
  older_same f e (suc n) = one_same d (older_acts s d n) f e (task_at s n).holder ∙ older_same f e n

  -- an activity that holds none of the first tasks
  pub not_older : (n a : ℕ) → ((t : ℕ) → t < n → (task_at s t).holder ≡ Activity a → ⊥) → get_or (older_acts s d n) a no_act ≡ act_at s a
  unfolding older_acts
  not_older zero a h = refl
  not_older (suc n) a h = one_other d (older_acts s d n) (task_at s n).holder a (h n (omega arith)) ∙ not_older n a (λ t l. h t (omega arith))

module _ (K : Table) (F : Formed K) (s : State) (S : Sound K s) (d : ℕ) where
  -- a holder of one of the first tasks holds that task only
  is_older : (n t a : ℕ) → n ≤ K.ntasks → t < n → (task_at s t).holder ≡ Activity a → get_or (older_acts s d n) a no_act ≡ clocked d (act_at s a)
  unfolding older_acts
  is_older zero t a hn ht e = absurd (omega arith)
  is_older (suc n) t a hn ht e = ⊎_elim here (λ l. one_other d (older_acts s d n) (task_at s n).holder a (only n (omega arith) (omega arith)) ∙ is_older n t a (omega arith) l e) (last_or t n ht)
    where
      i : (a < K.nacts) × (K.task a ≡ t)
      i = holder_in K s S t a (omega arith) e

      only : (u : ℕ) → u < K.ntasks → (u ≡ t → ⊥) → (task_at s u).holder ≡ Activity a → ⊥
      only u hu ne q = ne (sym (holder_in K s S u a hu q).1 ∙ i.1)

      here : t ≡ n → get_or (older (task_at s n).holder d (older_acts s d n)) a no_act ≡ clocked d (act_at s a)
      here q =
          let f : (task_at s n).holder ≡ Activity a = ap (λ u. (task_at s u).holder) (sym q) ∙ e in
          rw f
          (get_or-set_same (older_acts s d n) a (clocked d (get_or (older_acts s d n) a no_act)) no_act (rw (older_length s d n) (in_acts K F s S a i.0))
          ∙ ap (clocked d) (not_older s d n a (λ u l. only u (omega arith) (omega arith))))

  -- after all tasks the activities are those of the rules' next state
  pub older_next : older_acts s d K.ntasks ≡ anew K.nacts (λ a. clocked d) no_act s.acts
  older_next = ext_get_or no_act _ _ (older_length s d K.ntasks ∙ sym (anew_length (λ a. clocked d) no_act s.acts K.nacts)) (λ a l.
      order a K.nacts
      (λ h. at a h ∙ sym (anew_at (λ a. clocked d) no_act s.acts K.nacts a h (in_acts K F s S a h)))
      (λ h. not_older s d K.ntasks a (λ t ht q. omega (arith, (holder_in K s S t a ht q).0)) ∙ sym (anew_past (λ a. clocked d) no_act s.acts K.nacts a h)))
    where
      still : (e : Bool) (k : ℕ) → e ≡ false → aged e d k ≡ k
      still e k q = rw q

      no_holder : (a : ℕ) → a < K.nacts → holds K s a ≡ false → (t : ℕ) → t < K.ntasks → (task_at s t).holder ≡ Activity a → ⊥
      no_holder a h e t ht q = let w : T (holds K s a) = rw ((holder_in K s S t a ht q).1, q) (eqb_refl a) in false_true (sym e ∙ T_true _ w)

      at : (a : ℕ) → a < K.nacts → get_or (older_acts s d K.ntasks) a no_act ≡ clocked d (act_at s a)
      at a h =
          cases (holds K s a)
          (λ e. is_older K.ntasks (K.task a) a (omega arith) (F.task a h) (held_is _ a (true_T _ e)))
          (λ e.
          let idle : (act_at s a).executing ≡ false = T_false _ (λ x. false_true (sym e ∙ T_true _ (executing_at K s S a h x).holds)) in
          not_older s d K.ntasks a (no_holder a h e) ∙ rw (still (act_at s a).executing (act_at s a).clock idle))
