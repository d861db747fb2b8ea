-- What the tasks asked so far say of a wait, in the shape of what is known there.
use mathlib.Core.Bool.{Bool, true, false}
use mathlib.Core.List.{List, map}
use mathlib.Core.Path.{◌≡◌, refl, sym, ap, subst, ◌∙◌}
use Prim.Native.Nat.{ℕ, ◌+◌, ◌≤◌, ◌<◌}
use native.Mathlib.Omega.{arith}
use native.Mathlib.Numerals.{add-one}
use lib.Dec.{leb, leb→le}
use lib.ListN.{length, length-map}
use borrow.Author.Tests.{le-leb, lt-leb}
use Rattle.model.specs.Tests.{◌and◌, ◌or◌, each, some}
use Rattle.text.specs.Fields.{ether_value}
use Rattle.model.specs.Limits.{most_tasks, most_acts, most_ticks, in_range}
use Rattle.model.specs.Tables.{Table}
use Rattle.model.specs.States.{task_at, act_at}
use Rattle.model.specs.Rules.{wait_refusal}
use Rattle.model.specs.declared.State.{State}
use Rattle.model.specs.declared.Holder.TheVariants.{Manager, Activity}
use Rattle.model.proofs.Tests.{T_true, true_T, and_r, some_mk, need_of}
use Rattle.model.proofs.Formed.{Formed}
use Rattle.model.proofs.Soundness.{Sound, holder_in}
use Rattle.conflicts.specs.Busy.{busy_of, busy_in}
use Rattle.waits.specs.Waits.{act_hinders, act_room, timer_room, wait_number}
use Rattle.waits.proofs.Waits.{hinders_at, room_at, wait_by_holders}

and_true : (b : Bool) → (b and true) ≡ b
and_true true = refl
and_true false = refl

and_and : (a b c : Bool) → ((a and b) and c) ≡ (a and (b and c))
and_and true b c = refl
and_and false b c = refl

-- an array's rows as the code holds them are as many as the state's
pub rows_long : {A B : Type 0} (f : A → B) (l : List A) (n : ℕ) → length (map f l) ≡ n → length l ≡ n
rows_long f l n e = sym (length-map l f) ∙ e

-- a wait of d ticks, as a line says them, on a sound state of nt tasks
pub record Asks (K : Table) (s : State) (d nt : ℕ) : Type 0 where
  pub formed : Formed K
  pub sound : Sound K s
  pub small : d < ether_value
  pub all : nt ≡ K.ntasks

module _ {K : Table} {s : State} {d nt : ℕ} (A : Asks K s d nt) where
  -- a wait that is accepted has ticks in their range
  pub ticks_fit : {n : ℕ} → n ≡ wait_refusal K s d → n ≡ 0 → d ≤ most_ticks
  ticks_fit q z = leb→le d most_ticks (and_r (leb 1 d) _ (need_of (in_range d) 12 _ tt (sym q ∙ z)).0)

  module _ {t : ℕ} (h : t < nt) where
    pub task_fits : t < most_tasks
    task_fits = omega (arith, A.all, A.formed.fits.0)

    -- an activity that holds it has its row
    pub holder_fits_lem : {a : ℕ} → (task_at s t).holder ≡ Activity a → a < most_acts
    holder_fits_lem {a} e = omega (arith, (holder_in K s A.sound t a (omega (arith, A.all)) e).0, A.formed.fits.1)

-- its first k tasks do not hinder it, and room says whether all of them have room for it
pub record Asked (K : Table) (s : State) (busy : List ℕ) (d nt : ℕ) (room : Bool) (k : ℕ) : Type 0 where
  pub asks : Asks K s d nt
  pub kept : busy ≡ busy_in s
  pub most : k ≤ nt
  pub none : some k (hinders_at K s) ≡ false
  pub roomy : room ≡ each k (room_at K s d)

pub asked_none : {K : Table} {s : State} {busy : List ℕ} {d nt : ℕ} → Asks K s d nt → busy ≡ busy_in s → Asked K s busy d nt true 0
unfolding each some
asked_none A q = record { asks = A; kept = q; most = omega arith; none = refl; roomy = refl }

-- what task k says: whether it hinders the wait, and whether it has room too
pub record Says (K : Table) (s : State) (d : ℕ) (before : Bool) (k : ℕ) (h w : Bool) : Type 0 where
  pub hinders : h ≡ hinders_at K s k
  pub room : w ≡ (before and room_at K s d k)

module _ {K : Table} {s : State} {busy : List ℕ} {d nt : ℕ} {room : Bool} {k : ℕ} (Q : Asked K s busy d nt room k) where
  -- what is kept has as many rows as the state
  pub busy_long : K.nacts ≤ length busy
  busy_long = rw (Q.kept, length-map s.acts busy_of) (omega (arith, Q.asks.formed.fits.1, Q.asks.sound.shape.acts))

  module _ {v : Bool} (j : v ≡ timer_room K d k (task_at s k).timer) {w : Bool} (g : w ≡ (room and v)) where
    -- its manager holds
    pub manager_says : (task_at s k).holder ≡ Manager → {r : Bool} → r ≡ ((task_at s k).managing or (task_at s k).signal) → {x : Bool} → x ≡ w → {h : Bool} → h ≡ r → Says K s d room k h x
    manager_says q i p e = record { hinders = e ∙ i ∙ rw q; room = p ∙ g ∙ rw (q, j) (ap (λ b. room and b) (sym (and_true _))) }

    -- an activity does
    pub activity_says : {a : ℕ} → (task_at s k).holder ≡ Activity a → {r : Bool} → r ≡ act_hinders K busy (act_at s a) → {u : Bool} → u ≡ act_room K d (act_at s a) → {z : Bool} → z ≡ (w and u) → {x : Bool} → x ≡ z → {h : Bool} → h ≡ r → Says K s d room k h x
    activity_says q i e f p o = record { hinders = o ∙ i ∙ rw (q, Q.kept); room = p ∙ f ∙ rw (g, e, j, q) (and_and room _ _) }

  module _ (h : k < nt) {r w : Bool} (S : Says K s d room k r w) where
    -- it does not hinder: one more is asked
    pub asked_more : r ≡ false → Asked K s busy d nt w (k + 1)
    unfolding each some
    asked_more f = record { asks = Q.asks; kept = Q.kept; most = omega arith; none = rw (add-one, Q.none) (sym S.hinders ∙ f); roomy = rw (add-one, ← Q.roomy) S.room }

    -- it hinders: no other is asked
    pub asked_stops : r ≡ true → (more : Bool) {n : ℕ} → n ≡ wait_number (leb nt k) more s.date d → n ≡ wait_refusal K s d
    asked_stops f more e =
        let w : some K.ntasks (hinders_at K s) ≡ true = T_true _ (some_mk (hinders_at K s) K.ntasks k (omega (arith, Q.asks.all)) (true_T _ (sym S.hinders ∙ f))) in
        e ∙ rw (wait_by_holders K Q.asks.formed s Q.asks.sound d, w, lt-leb nt k h)

  -- all have been asked
  pub asked_all : nt ≤ k → {more : Bool} → more ≡ room → {n : ℕ} → n ≡ wait_number (leb nt k) more s.date d → n ≡ wait_refusal K s d
  asked_all l i e =
      let all : k ≡ K.ntasks = omega (arith, Q.most, Q.asks.all) in
      let none : some K.ntasks (hinders_at K s) ≡ false = subst (λ j. some j (hinders_at K s) ≡ false) all Q.none in
      let room-all : room ≡ each K.ntasks (room_at K s d) = subst (λ j. room ≡ each j (room_at K s d)) all Q.roomy in
      e ∙ rw (wait_by_holders K Q.asks.formed s Q.asks.sound d, none, ← room-all, le-leb nt k l, i)
