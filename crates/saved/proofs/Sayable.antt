-- Fields can say the values of a sound state.
use Prim.Native.Nat.{ℕ, zero, suc, ◌^◌, ◌≤◌, ◌<◌}
use mathlib.Core.Path.{◌≡◌, refl, ap, subst, ◌∙◌}
use mathlib.Core.Bool.{Bool, true, false}
use mathlib.Core.List.{List}
use native.Mathlib.Numerals.{add-one}
use native.Mathlib.Omega.{arith}
use lib.Dec.{T, ltb, leb, eqb, leb→le, ltb→lt, lt→ltb, eqb→eq}
use lib.Pow.{pow_mono}
use borrow.Author.Tests.{lt-ltb, le-leb}
use Rattle.text.proofs.Picks.{cases}
use Rattle.model.specs.Tests.{◌and◌, one, each, sum}
use Rattle.model.specs.Limits.{most_acts, most_codels, most_ticks, ceiling}
use Rattle.model.specs.Tables.{Table}
use Rattle.model.specs.Rows.{wellformed}
use Rattle.model.specs.States.{task_at, act_at}
use Rattle.model.specs.Sound.{at_own, fine_act, holder_ok, fine_task, sound}
use Rattle.model.specs.declared.State.{State}
use Rattle.model.specs.declared.Place.{Place}
use Rattle.model.specs.declared.Place.TheVariants.{Ether, Codel}
use Rattle.model.specs.declared.Holder.{Holder}
use Rattle.model.specs.declared.Holder.TheVariants.{Manager, Activity}
use Rattle.model.proofs.Tests.{true_T, and_both, each_at}
use Rattle.model.proofs.Formed.{Formed, formed}
use Rattle.model.proofs.Soundness.{FineTask, FineAct, task_of, act_of_lem, executing}
use Rattle.fields.specs.Forms.{a_number, a_yes, a_holder, a_set, a_place, no_number, form_ok}
use Rattle.fields.specs.Fields.{repeated, values_ok}
use Rattle.fields.proofs.Parts.{ok_append, repeated_more}
use Rattle.saved.specs.Rows.{task_forms, act_forms, row_forms, holder_value, place_value, bit_of, run_bits, halt_bits, row_values}
use Rattle.saved.specs.Standing.{holder_fits, place_fits}
use Rattle.saved.proofs.Bits.{bits_low}
use Rattle.saved.proofs.Values.{parts, task_part, act_part, tasks_are, acts_are}

-- parts of which fields can say each
pub parts_ok : (fs : List ℕ) (f : ℕ → List ℕ) (n : ℕ) → ((i : ℕ) → i < n → values_ok fs (f i) ≡ true) → values_ok (repeated n fs) (parts f n) ≡ true
unfolding values_ok repeated
parts_ok fs f zero h = refl
parts_ok fs f (suc n) h = ap (λ gs. values_ok gs (parts f (suc n))) (rw add-one at (repeated_more n fs)) ∙ ok_append (repeated n fs) (parts f n) fs (f n) (parts_ok fs f n (λ i l. h i (omega arith))) (h n (omega arith))

-- a value that a field of its form can say
number_ok_lem : (v : ℕ) → v < no_number → form_ok a_number v ≡ true
unfolding form_ok
number_ok_lem v h = lt-ltb v no_number h

yes_ok : (b : Bool) → form_ok a_yes (one b) ≡ true
unfolding form_ok
yes_ok true = refl
yes_ok false = refl

set_ok : (v : ℕ) → v < 2 ^ 64 → form_ok a_set v ≡ true
unfolding form_ok
set_ok v h = lt-ltb v (2 ^ 64) h

holder_ok_lem : (h : Holder) → ((a : ℕ) → h ≡ Activity a → a < no_number) → form_ok a_holder (holder_value h) ≡ true
unfolding form_ok
holder_ok_lem Manager k = refl
holder_ok_lem (Activity a) k = le-leb a no_number (omega (arith, k a refl))

place_ok : (p : Place) → ((c : ℕ) → p ≡ Codel c → c < no_number) → form_ok a_place (place_value p) ≡ true
unfolding form_ok
place_ok Ether k = refl
place_ok (Codel c) k = le-leb c no_number (omega (arith, k c refl))

-- of a state under a well-formed table that passes the test of a sound one
module _ (K : Table) (s : State) (wf : wellformed K ≡ true) (ok : T (sound K s)) where
  -- what the table says
  table : Formed K
  table = formed K (true_T _ wf)

  -- what the rows say
  rows : ((t : ℕ) → t < K.ntasks → FineTask K s.date t (task_at s t)) × ((a : ℕ) → a < K.nacts → FineAct K a (task_at s (K.task a)) (act_at s a)) × (s.date ≤ ceiling)
  unfolding sound
  rows =
      let date = and_both (leb s.date ceiling) _ ok in
      let tasks = and_both (each K.ntasks (λ t. fine_task K s.date t (task_at s t))) _ date.1 in
      let acts = and_both (each K.nacts (λ a. fine_act K a (task_at s (K.task a)) (act_at s a))) _ tasks.1 in
      (λ t h. task_of K s.date t (task_at s t) (each_at (λ t. fine_task K s.date t (task_at s t)) K.ntasks tasks.0 t h), λ a h. act_of_lem K a _ (act_at s a) (each_at (λ a. fine_act K a (task_at s (K.task a)) (act_at s a)) K.nacts acts.0 a h), leb→le _ _ date.0)

  -- who holds is an activity of the table, and where an activity is, is a codel of it
  holder_in : (t : ℕ) → t < K.ntasks → (a : ℕ) → (task_at s t).holder ≡ Activity a → a < K.nacts
  holder_in t h a e = ltb→lt a K.nacts (and_both (ltb a K.nacts) _ (subst (λ z. T (holder_ok K t z)) e (rows.0 t h).holder)).0

  place_in : (a : ℕ) → a < K.nacts → (c : ℕ) → (act_at s a).place ≡ Codel c → c < K.ncodels
  place_in a h c e = ltb→lt c K.ncodels (and_both (ltb c K.ncodels) _ (subst (λ p. T (at_own K a p)) e (rows.1 a h).own)).0

  -- so its number is one that a table may have
  pub holder_fits_lem : (t : ℕ) → t < K.ntasks → T (holder_fits (task_at s t).holder)
  holder_fits_lem t h = go (task_at s t).holder refl
    where
      go : (x : Holder) → (task_at s t).holder ≡ x → T (holder_fits x)
      go Manager e = tt
      go (Activity a) e = lt→ltb a most_acts (omega (arith, holder_in t h a e, table.fits.1))

  pub place_fits_lem : (a : ℕ) → a < K.nacts → T (place_fits (act_at s a).place)
  place_fits_lem a h = go (act_at s a).place refl
    where
      go : (p : Place) → (act_at s a).place ≡ p → T (place_fits p)
      go Ether e = tt
      go (Codel c) e = lt→ltb c most_codels (omega (arith, place_in a h c e, table.fits.2))

  -- and not what stands for `manager` and `ether`
  pub holder_low : (t : ℕ) → t < K.ntasks → (a : ℕ) → (task_at s t).holder ≡ Activity a → a < no_number
  holder_low t h a e = omega (arith, holder_in t h a e, table.fits.1)

  pub place_low : (a : ℕ) → a < K.nacts → (c : ℕ) → (act_at s a).place ≡ Codel c → c < no_number
  place_low a h c e = omega (arith, place_in a h c e, table.fits.2)

  -- no clock is above the highest limit
  clock_low : (a : ℕ) → a < K.nacts → (act_at s a).clock ≤ most_ticks
  clock_low a h =
      cases (act_at s a).executing
      (λ e. let x = executing K a _ (act_at s a) (rows.1 a h) (true_T _ e) in omega (arith, x.in_time, table.limit_high x.codel x.in_k))
      (λ e. let z : (act_at s a).clock ≡ 0 = eqb→eq _ _ (rw e at (rows.1 a h).clock) in omega arith)

  -- fields can say the values of an activity
  pub act_ok : (a : ℕ) → a < K.nacts → values_ok act_forms (act_part s a) ≡ true
  unfolding values_ok
  act_ok a h =
      let y = act_at s a in
      rw (place_ok y.place (place_low a h), yes_ok y.executing, number_ok_lem y.clock (omega (arith, clock_low a h)))

  -- marks as bits make a number of 64 bits
  marks_low : (p : ℕ → Bool) → sum K.nacts (λ a. bit_of (p a) a) < 2 ^ 64
  marks_low p = omega (arith, bits_low p K.nacts, pow_mono {i = K.nacts} {j = 64} table.fits.1)

  -- fields can say the values of a task
  pub task_ok : (t : ℕ) → t < K.ntasks → values_ok task_forms (task_part K s t) ≡ true
  unfolding values_ok run_bits halt_bits
  task_ok t h =
      let x = task_at s t in
      let f = rows.0 t h in
      let d = rows.2 in
      let timer : x.timer < no_number = omega (arith, f.counts) in
      let cycle : x.cycle < no_number = omega (arith, f.counts) in
      let opened : x.opened < no_number = omega (arith, f.opened) in
      let missed : x.missed < no_number = omega (arith, f.missed) in
      let longest : x.longest < no_number = omega (arith, f.longest) in
      let run : run_bits K s t K.nacts < 2 ^ 64 = marks_low (λ a. eqb (K.task a) t and (act_at s a).run) in
      let halt : halt_bits K s t K.nacts < 2 ^ 64 = marks_low (λ a. eqb (K.task a) t and (act_at s a).halt) in
      rw (number_ok_lem x.timer timer, yes_ok x.signal, yes_ok x.managing, holder_ok_lem x.holder (holder_low t h), set_ok (run_bits K s t K.nacts) run, set_ok (halt_bits K s t K.nacts) halt, number_ok_lem x.cycle cycle, number_ok_lem x.opened opened, number_ok_lem x.missed missed, number_ok_lem x.longest longest)

  -- and so those of the state
  pub values_ok_lem : values_ok (row_forms K) (row_values K s) ≡ true
  unfolding row_forms row_values values_ok
  values_ok_lem =
      rw (number_ok_lem s.date (omega (arith, rows.2)), tasks_are K s K.ntasks, acts_are s K.nacts)
      (ok_append (repeated K.ntasks task_forms) (parts (task_part K s) K.ntasks) (repeated K.nacts act_forms) (parts (act_part s) K.nacts)
      (parts_ok task_forms (task_part K s) K.ntasks task_ok)
      (parts_ok act_forms (act_part s) K.nacts act_ok))
