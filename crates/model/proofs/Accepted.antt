-- What an accepted step says of the state, by name, for each of the nine; and that a step of which it holds is accepted.
use mathlib.Core.Bool.{not}
use mathlib.Core.Path.{◌≡◌, refl}
use Prim.Native.Nat.{ℕ, ◌+◌, ◌≤◌, ◌<◌}
use borrow.Author.Tests.{eq-eqb}
use lib.Dec.{T, leb, ltb, eqb, leb→le, le→leb, ltb→lt, lt→ltb, eqb→eq}
use Rattle.text.specs.declared.Set.{Set}
use Rattle.model.specs.Tests.{◌and◌, ◌or◌}
use Rattle.model.specs.Limits.{in_range, ceiling}
use Rattle.model.specs.Tables.{Table, is_ether, known}
use Rattle.model.specs.States.{task_at, act_at, by_manager, holds, in_sets, stands, clear_at}
use Rattle.model.specs.Rules.{st_refusal, within, sm_refusal, lm_refusal, ia_refusal, ea_allowed, ea_refusal, cx_refusal, fa_allowed, fa_refusal, none_in, fm_refusal, urgent, room_for, wait_refusal}
use Rattle.model.specs.declared.State.{State}
use Rattle.model.specs.declared.Place.{Place}
use Rattle.model.specs.declared.Place.TheVariants.{Codel}
use Rattle.model.proofs.Tests.{true_T, and_i, and_both, need_of, need_mk}

-- `wait`: in range, not hindered, with room, and not past the ceiling
pub record WaitGoes (K : Table) (s : State) (d : ℕ) : Type 0 where
  pub range : T (in_range d)
  pub calm : T (not (urgent K s))
  pub room : T (room_for K s d)
  pub below : s.date + d ≤ ceiling

-- `st`: the timer is due
pub record StGoes (K : Table) (s : State) (t : ℕ) : Type 0 where
  pub in_t : t < K.ntasks
  pub due : (task_at s t).timer ≡ K.period t

-- `sm`: sets within the task, the manager waiting, the signal set
pub record SmGoes (K : Table) (s : State) (t : ℕ) (n r : Set) : Type 0 where
  pub in_t : t < K.ntasks
  pub within_n : T (within K t n)
  pub within_r : T (within K t r)
  pub waits : T (not (task_at s t).managing)
  pub signal : T (task_at s t).signal

-- `lm`: managing and holding, the activity in N or R
pub record LmGoes (K : Table) (s : State) (t a : ℕ) : Type 0 where
  pub in_t : t < K.ntasks
  pub in_a : a < K.nacts
  pub managing : T (task_at s t).managing
  pub holds : T (by_manager (task_at s t).holder)
  pub task : K.task a ≡ t
  pub listed : T ((act_at s a).run or (act_at s a).halt)

-- `ia`: it holds and is in R
pub record IaGoes (K : Table) (s : State) (a : ℕ) : Type 0 where
  pub in_a : a < K.nacts
  pub holds : T (holds K s a)
  pub in_r : T (act_at s a).halt

-- `ea`: it holds, is not in R, and may go to c, from a codel with a clock of at least 1
pub record EaGoes (K : Table) (s : State) (a c : ℕ) : Type 0 where
  pub in_a : a < K.nacts
  pub in_c : c < K.ncodels
  pub holds : T (holds K s a)
  pub not_r : T (not (act_at s a).halt)
  pub allowed : T (ea_allowed K (act_at s a) a c (act_at s a).place)
  pub clock : T (is_ether (act_at s a).place or leb 1 (act_at s a).clock)

-- `cx`: it holds, is not in R, stands, and no conflicting codel executes
pub record CxGoes (K : Table) (s : State) (a : ℕ) : Type 0 where
  pub in_a : a < K.nacts
  pub holds : T (holds K s a)
  pub not_r : T (not (act_at s a).halt)
  pub stands : T (stands K (act_at s a) (act_at s a).place)
  pub clear : T (clear_at K s (act_at s a).place)

-- `fa`: it holds, executes, and may leave for p, with a clock of at least 1
pub record FaGoes (K : Table) (s : State) (a : ℕ) (p : Place) : Type 0 where
  pub in_a : a < K.nacts
  pub known : T (known K p)
  pub holds : T (holds K s a)
  pub executing : T (act_at s a).executing
  pub allowed : T (fa_allowed K (act_at s a).place p)
  pub clock : 1 ≤ (act_at s a).clock

-- `fm`: managing and holding, N and R empty
pub record FmGoes (K : Table) (s : State) (t : ℕ) : Type 0 where
  pub in_t : t < K.ntasks
  pub managing : T (task_at s t).managing
  pub holds : T (by_manager (task_at s t).holder)
  pub none : T (none_in K s t)

module _ (K : Table) (s : State) where
  pub wait_goes : (d : ℕ) → wait_refusal K s d ≡ 0 → WaitGoes K s d
  wait_goes d ok =
      let f12 = need_of (in_range d) 12 _ tt ok in
      let f16 = need_of (not (urgent K s)) 16 _ tt f12.1 in
      let f17 = need_of (room_for K s d) 17 _ tt f16.1 in
      let f18 = need_of (leb (s.date + d) ceiling) 18 0 tt f17.1 in
      record { range = f12.0; calm = f16.0; room = f17.0; below = leb→le _ _ f18.0 }

  pub goes_wait : (d : ℕ) → WaitGoes K s d → wait_refusal K s d ≡ 0
  goes_wait d g =
      need_mk (in_range d) 12 _ g.range
      (need_mk (not (urgent K s)) 16 _ g.calm
      (need_mk (room_for K s d) 17 _ g.room
      (need_mk (leb (s.date + d) ceiling) 18 0 (le→leb _ _ g.below) refl)))

  pub st_goes : (t : ℕ) → st_refusal K s t ≡ 0 → StGoes K s t
  st_goes t ok =
      let f12 = need_of (ltb t K.ntasks) 12 _ tt ok in
      let f14 = need_of (eqb (task_at s t).timer (K.period t)) 14 0 tt f12.1 in
      record { in_t = ltb→lt _ _ f12.0; due = eqb→eq _ _ f14.0 }

  pub goes_st : (t : ℕ) → StGoes K s t → st_refusal K s t ≡ 0
  goes_st t g =
      need_mk (ltb t K.ntasks) 12 _ (lt→ltb _ _ g.in_t)
      (need_mk (eqb (task_at s t).timer (K.period t)) 14 0 (true_T _ (eq-eqb _ _ g.due)) refl)

  pub sm_goes : (t : ℕ) (n r : Set) → sm_refusal K s t n r ≡ 0 → SmGoes K s t n r
  sm_goes t n r ok =
      let x = task_at s t in
      let f12 = need_of (ltb t K.ntasks and within K t n and within K t r) 12 _ tt ok in
      let f13 = need_of (not x.managing and x.signal) 13 0 tt f12.1 in
      let rows = and_both (ltb t K.ntasks) _ f12.0 in
      let sets = and_both (within K t n) _ rows.1 in
      let opens = and_both (not x.managing) _ f13.0 in
      record { in_t = ltb→lt _ _ rows.0; within_n = sets.0; within_r = sets.1; waits = opens.0; signal = opens.1 }

  pub goes_sm : (t : ℕ) (n r : Set) → SmGoes K s t n r → sm_refusal K s t n r ≡ 0
  goes_sm t n r g =
      let x = task_at s t in
      need_mk (ltb t K.ntasks and within K t n and within K t r) 12 _ (and_i (ltb t K.ntasks) _ (lt→ltb _ _ g.in_t) (and_i (within K t n) _ g.within_n g.within_r))
      (need_mk (not x.managing and x.signal) 13 0 (and_i (not x.managing) _ g.waits g.signal) refl)

  pub lm_goes : (t a : ℕ) → lm_refusal K s t a ≡ 0 → LmGoes K s t a
  lm_goes t a ok =
      let x = task_at s t in
      let f12 = need_of (ltb t K.ntasks and ltb a K.nacts) 12 _ tt ok in
      let f13 = need_of (x.managing and by_manager x.holder and in_sets K s t a) 13 0 tt f12.1 in
      let rows = and_both (ltb t K.ntasks) _ f12.0 in
      let manages = and_both x.managing _ f13.0 in
      let free = and_both (by_manager x.holder) _ manages.1 in
      let sets = and_both (eqb (K.task a) t) _ free.1 in
      record { in_t = ltb→lt _ _ rows.0; in_a = ltb→lt _ _ rows.1; managing = manages.0; holds = free.0; task = eqb→eq _ _ sets.0; listed = sets.1 }

  pub goes_lm : (t a : ℕ) → LmGoes K s t a → lm_refusal K s t a ≡ 0
  goes_lm t a g =
      let x = task_at s t in
      need_mk (ltb t K.ntasks and ltb a K.nacts) 12 _ (and_i (ltb t K.ntasks) _ (lt→ltb _ _ g.in_t) (lt→ltb _ _ g.in_a))
      (need_mk (x.managing and by_manager x.holder and in_sets K s t a) 13 0 (and_i x.managing _ g.managing (and_i (by_manager x.holder) _ g.holds (and_i (eqb (K.task a) t) _ (true_T _ (eq-eqb _ _ g.task)) g.listed))) refl)

  pub ia_goes : (a : ℕ) → ia_refusal K s a ≡ 0 → IaGoes K s a
  ia_goes a ok =
      let f12 = need_of (ltb a K.nacts) 12 _ tt ok in
      let f13 = need_of (holds K s a and (act_at s a).halt) 13 0 tt f12.1 in
      let mine = and_both (holds K s a) _ f13.0 in
      record { in_a = ltb→lt _ _ f12.0; holds = mine.0; in_r = mine.1 }

  pub goes_ia : (a : ℕ) → IaGoes K s a → ia_refusal K s a ≡ 0
  goes_ia a g =
      need_mk (ltb a K.nacts) 12 _ (lt→ltb _ _ g.in_a)
      (need_mk (holds K s a and (act_at s a).halt) 13 0 (and_i (holds K s a) _ g.holds g.in_r) refl)

  pub ea_goes : (a c : ℕ) → ea_refusal K s a (Codel c) ≡ 0 → EaGoes K s a c
  ea_goes a c ok =
      let y = act_at s a in
      let f12 = need_of (ltb a K.nacts and ltb c K.ncodels) 12 _ tt ok in
      let f13 = need_of (holds K s a and not y.halt and ea_allowed K y a c y.place) 13 _ tt f12.1 in
      let f14 = need_of (is_ether y.place or leb 1 y.clock) 14 0 tt f13.1 in
      let rows = and_both (ltb a K.nacts) _ f12.0 in
      let mine = and_both (holds K s a) _ f13.0 in
      let free = and_both (not y.halt) _ mine.1 in
      record { in_a = ltb→lt _ _ rows.0; in_c = ltb→lt _ _ rows.1; holds = mine.0; not_r = free.0; allowed = free.1; clock = f14.0 }

  pub goes_ea : (a c : ℕ) → EaGoes K s a c → ea_refusal K s a (Codel c) ≡ 0
  goes_ea a c g =
      let y = act_at s a in
      need_mk (ltb a K.nacts and ltb c K.ncodels) 12 _ (and_i (ltb a K.nacts) _ (lt→ltb _ _ g.in_a) (lt→ltb _ _ g.in_c))
      (need_mk (holds K s a and not y.halt and ea_allowed K y a c y.place) 13 _ (and_i (holds K s a) _ g.holds (and_i (not y.halt) _ g.not_r g.allowed))
      (need_mk (is_ether y.place or leb 1 y.clock) 14 0 g.clock refl))

  pub cx_goes : (a : ℕ) → cx_refusal K s a ≡ 0 → CxGoes K s a
  cx_goes a ok =
      let y = act_at s a in
      let f12 = need_of (ltb a K.nacts) 12 _ tt ok in
      let f13 = need_of (holds K s a and not y.halt and stands K y y.place) 13 _ tt f12.1 in
      let f15 = need_of (clear_at K s y.place) 15 0 tt f13.1 in
      let mine = and_both (holds K s a) _ f13.0 in
      let free = and_both (not y.halt) _ mine.1 in
      record { in_a = ltb→lt _ _ f12.0; holds = mine.0; not_r = free.0; stands = free.1; clear = f15.0 }

  pub goes_cx : (a : ℕ) → CxGoes K s a → cx_refusal K s a ≡ 0
  goes_cx a g =
      let y = act_at s a in
      need_mk (ltb a K.nacts) 12 _ (lt→ltb _ _ g.in_a)
      (need_mk (holds K s a and not y.halt and stands K y y.place) 13 _ (and_i (holds K s a) _ g.holds (and_i (not y.halt) _ g.not_r g.stands))
      (need_mk (clear_at K s y.place) 15 0 g.clear refl))

  pub goes_fa : (a : ℕ) (p : Place) → FaGoes K s a p → fa_refusal K s a p ≡ 0
  goes_fa a p g =
      let y = act_at s a in
      need_mk (ltb a K.nacts and known K p) 12 _ (and_i (ltb a K.nacts) _ (lt→ltb _ _ g.in_a) g.known)
      (need_mk (holds K s a and y.executing and fa_allowed K y.place p) 13 _ (and_i (holds K s a) _ g.holds (and_i y.executing _ g.executing g.allowed))
      (need_mk (leb 1 y.clock) 14 0 (le→leb _ _ g.clock) refl))

  pub fa_goes : (a : ℕ) (p : Place) → fa_refusal K s a p ≡ 0 → FaGoes K s a p
  fa_goes a p ok =
      let y = act_at s a in
      let f12 = need_of (ltb a K.nacts and known K p) 12 _ tt ok in
      let f13 = need_of (holds K s a and y.executing and fa_allowed K y.place p) 13 _ tt f12.1 in
      let f14 = need_of (leb 1 y.clock) 14 0 tt f13.1 in
      let rows = and_both (ltb a K.nacts) _ f12.0 in
      let mine = and_both (holds K s a) _ f13.0 in
      let runs = and_both y.executing _ mine.1 in
      record { in_a = ltb→lt _ _ rows.0; known = rows.1; holds = mine.0; executing = runs.0; allowed = runs.1; clock = leb→le _ _ f14.0 }

  pub fm_goes : (t : ℕ) → fm_refusal K s t ≡ 0 → FmGoes K s t
  fm_goes t ok =
      let x = task_at s t in
      let f12 = need_of (ltb t K.ntasks) 12 _ tt ok in
      let f13 = need_of (x.managing and by_manager x.holder and none_in K s t) 13 0 tt f12.1 in
      let manages = and_both x.managing _ f13.0 in
      let free = and_both (by_manager x.holder) _ manages.1 in
      record { in_t = ltb→lt _ _ f12.0; managing = manages.0; holds = free.0; none = free.1 }

  pub goes_fm : (t : ℕ) → FmGoes K s t → fm_refusal K s t ≡ 0
  goes_fm t g =
      let x = task_at s t in
      need_mk (ltb t K.ntasks) 12 _ (lt→ltb _ _ g.in_t)
      (need_mk (x.managing and by_manager x.holder and none_in K s t) 13 0 (and_i x.managing _ g.managing (and_i (by_manager x.holder) _ g.holds g.none)) refl)
