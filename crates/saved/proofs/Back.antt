-- The values of a row come back from the state that they say; and no state has a set outside its task.
use Prim.Native.Nat.{ℕ, zero, suc, ◌+◌, ◌*◌, ◌^◌, ◌≤◌, ◌<◌}
use mathlib.Core.Path.{◌≡◌, refl, sym, ◌∙◌}
use mathlib.Core.List.{List, [], ◌∷◌, ◌++◌, append-nil, append_assoc}
use mathlib.Core.Bool.{Bool, true}
use native.Mathlib.Omega.{arith}
use native.Mathlib.Nat.{add-zero, add-suc}
use lib.Dec.{ltb, eqb}
use lib.ListN.{length, get_or, drop, length-append, drop_of_length-le, get_or-append}
use lib.Seq.{drop-cons, get_or-append-add}
use borrow.Author.Tests.{ltb-true, eqb-true, eqb-false}
use Rattle.text.specs.Set.{set_room, bit, member}
use Rattle.text.specs.declared.Set.{Set}
use Rattle.text.proofs.Picks.{cases, picked, false_true}
use Rattle.text.proofs.Bits.{high_clear}
use Rattle.text.proofs.Members.{member_low, each_of_at, each_of_mk}
use Rattle.model.specs.Tests.{◌and◌, sum}
use Rattle.model.specs.Limits.{most_tasks, most_acts}
use Rattle.model.specs.Tables.{Table}
use Rattle.model.specs.States.{no_task, no_act, fresh, task_at, act_at}
use Rattle.model.specs.Rules.{within, anew}
use Rattle.model.specs.declared.Task.{Task}
use Rattle.model.specs.declared.Act.{Act}
use Rattle.model.specs.declared.State.{State}
use Rattle.model.proofs.Rows.{anew_at}
use Rattle.table.proofs.Tests.{both, each_at, each_all}
use Rattle.fields.specs.Forms.{no_number, form_ok}
use Rattle.fields.specs.Fields.{repeated, values_ok}
use Rattle.fields.proofs.Parts.{ok_length, length_repeated}
use Rattle.saved.specs.Rows.{task_forms, act_forms, row_forms, task_place, act_place, run_field, halt_field, holder_value, place_value, bit_of, run_bits, halt_bits, task_values, act_values, tasks_values, acts_values, row_values, holder_of, place_of, set_at, task_from, act_from, tasks_said, acts_said, state_from, sets_within}
use Rattle.saved.specs.Reading.{as_set}
use Rattle.saved.proofs.Values.{task_value}
use Rattle.saved.proofs.Bits.{yes_same, bits_member, bits_alike, bits_same}

-- each of values that fields can say is one that its form can say
ok_at : (fs vs : List ℕ) → values_ok fs vs ≡ true → (i : ℕ) → i < length fs → form_ok (get_or fs i 0) (get_or vs i 0) ≡ true
unfolding values_ok
ok_at [] [] h i l = absurd (omega arith)
ok_at [] (v ∷ vs) h i l = absurd (false_true h)
ok_at (f ∷ fs) [] h i l = absurd (false_true h)
ok_at (f ∷ fs) (v ∷ vs) h zero l = (picked (form_ok f v) false_true h).0
ok_at (f ∷ fs) (v ∷ vs) h (suc i) l = ok_at fs vs (picked (form_ok f v) false_true h).1 i (omega arith)

-- what stands in each part of a description so many times over
repeated_at : (k t j : ℕ) (fs : List ℕ) → t < k → j < length fs → get_or (repeated k fs) (t * length fs + j) 0 ≡ get_or fs j 0
unfolding repeated
repeated_at zero t j fs h l = absurd (omega arith)
repeated_at (suc k) zero j fs h l = let e : 0 * length fs + j ≡ j = omega arith in rw e (get_or-append fs (repeated k fs) 0 j l)
repeated_at (suc k) (suc t) j fs h l =
    let e : suc t * length fs + j ≡ length fs + (t * length fs + j) = omega arith in
    rw e (get_or-append-add fs (repeated k fs) (t * length fs + j) 0 ∙ repeated_at k t j fs (omega arith) l)

-- the forms of a row: how many there are, and what stands in the part of each task and of each activity
module _ (K : Table) where
  pub length_forms : length (row_forms K) ≡ 1 + K.ntasks * 10 + K.nacts * 3
  unfolding row_forms
  length_forms = omega (arith, length-append (repeated K.ntasks task_forms) (repeated K.nacts act_forms), length_repeated K.ntasks task_forms, length_repeated K.nacts act_forms)

  task_form : (t j : ℕ) → t < K.ntasks → j < 10 → get_or (row_forms K) (task_place t + j) 0 ≡ get_or task_forms j 0
  unfolding row_forms
  task_form t j h l =
      let e : task_place t + j ≡ suc (t * 10 + j) = omega arith in
      rw e (get_or-append (repeated K.ntasks task_forms) (repeated K.nacts act_forms) 0 (t * 10 + j) (omega (arith, length_repeated K.ntasks task_forms)) ∙ repeated_at K.ntasks t j task_forms h l)

  act_form : (a j : ℕ) → a < K.nacts → j < 3 → get_or (row_forms K) (act_place K a + j) 0 ≡ get_or act_forms j 0
  unfolding row_forms
  act_form a j h l =
      let e : act_place K a + j ≡ suc (length (repeated K.ntasks task_forms) + (a * 3 + j)) = omega (arith, length_repeated K.ntasks task_forms) in
      rw e (get_or-append-add (repeated K.ntasks task_forms) (repeated K.nacts act_forms) (a * 3 + j) 0 ∙ repeated_at K.nacts a j act_forms h l)

-- k values, the first of them j behind a place; with what stands behind them they are all that stands from there on
abbrev from : List ℕ → ℕ → ℕ → ℕ → List ℕ
from vs at j zero = []
from vs at j (suc k) = get_or vs (at + j) 0 ∷ from vs at (suc j) k

drop_from : (vs : List ℕ) (at j k : ℕ) → at + j + k ≤ length vs → from vs at j k ++ drop (at + j + k) vs ≡ drop (at + j) vs
drop_from vs at j zero h = rw (add-zero (at + j))
drop_from vs at j (suc k) h =
    let e : at + j + suc k ≡ at + suc j + k = omega arith in
    rw (e, drop_from vs at (suc j) k (omega arith), add-suc at j) (sym (drop-cons vs (at + j) 0 (omega arith)))

-- a holder and a place have the values that say them
pub holder_same : (v : ℕ) → holder_value (holder_of v) ≡ v
holder_same v = cases (eqb v no_number) (λ e. rw e (sym (eqb-true v no_number e))) (λ e. rw e)

pub place_same : (v : ℕ) → place_value (place_of v) ≡ v
place_same v = cases (eqb v no_number) (λ e. rw e (sym (eqb-true v no_number e))) (λ e. rw e)

-- so have a task and an activity
task_part_lem : (vs : List ℕ) (at n r : ℕ) → get_or vs (at + 1) 0 < 2 → get_or vs (at + 2) 0 < 2 → n ≡ get_or vs (at + 4) 0 → r ≡ get_or vs (at + 5) 0 → task_values (task_from vs at) n r ≡ from vs at 0 10
task_part_lem vs at n r a b e f = rw (yes_same (get_or vs (at + 1) 0) a, yes_same (get_or vs (at + 2) 0) b, holder_same (get_or vs (at + 3) 0), e, f, add-zero at)

act_part_lem : (vs : List ℕ) (at a : ℕ) (n r : Set) → get_or vs (at + 1) 0 < 2 → act_values (act_from vs at a n r) ≡ from vs at 0 3
act_part_lem vs at a n r h = rw (place_same (get_or vs at 0), yes_same (get_or vs (at + 1) 0) h, add-zero at)

-- the rows that values say are written anew
tasks_anew : (vs : List ℕ) (n : ℕ) (l : List Task) → tasks_said vs n l ≡ anew n (λ t x. task_from vs (task_place t)) no_task l
unfolding tasks_said anew
tasks_anew vs zero l = refl
tasks_anew vs (suc n) l = rw (tasks_anew vs n l)

acts_anew : (K : Table) (vs : List ℕ) (n : ℕ) (l : List Act) → acts_said K vs n l ≡ anew n (λ a y. act_from vs (act_place K a) a (set_at vs (task_place (K.task a) + run_field)) (set_at vs (task_place (K.task a) + halt_field))) no_act l
unfolding acts_said anew
acts_anew K vs zero l = refl
acts_anew K vs (suc n) l = rw (acts_anew K vs n l)

-- a set of which a value says the bits
module _ (K : Table) (t v : ℕ) where
  -- within its task, each member is an activity of it
  in_task : within K t (as_set v) ≡ true → (i : ℕ) → i < 64 → bit v i ≡ true → (i < K.nacts) × (K.task i ≡ t)
  unfolding within
  in_task w i h u =
      let m = both (ltb i K.nacts) (each_of_at set_room (member (as_set v)) _ w i (omega arith) (member_low (as_set v) i h ∙ u)) in
      (ltb-true i K.nacts m.0, eqb-true (K.task i) t m.1)

  -- so the flags of the task's activities are its bits
  pub set_back : K.nacts ≤ 64 → v < 2 ^ 64 → within K t (as_set v) ≡ true → (q : ℕ → Bool) → ((a : ℕ) → a < K.nacts → K.task a ≡ t → q a ≡ member (as_set v) a) → sum K.nacts (λ a. bit_of (eqb (K.task a) t and q a) a) ≡ v
  set_back room fits w q same = bits_alike (λ a. eqb (K.task a) t and q a) (bit v) K.nacts flag ∙ bits_same v K.nacts small
    where
      small : v < 2 ^ K.nacts
      small = high_clear v K.nacts 64 room fits (λ i l m. cases (bit v i) (λ u. absurd (omega (arith, (in_task w i m u).0))) (λ u. u))

      flag : (a : ℕ) → a < K.nacts → (eqb (K.task a) t and q a) ≡ bit v a
      flag a h =
          cases (eqb (K.task a) t)
          (λ e. rw e (same a h (eqb-true (K.task a) t e) ∙ member_low (as_set v) a (omega arith)))
          (λ e. rw e (cases (bit v a) (λ u. absurd (eqb-false (K.task a) t e (in_task w a (omega arith) u).1)) (λ u. sym u)))

-- the state that values say
module _ (K : Table) (few : K.ntasks ≤ most_tasks) (room : K.nacts ≤ most_acts) (vs : List ℕ) (ok : values_ok (row_forms K) vs ≡ true) where
  -- how many values there are
  long : length vs ≡ 1 + K.ntasks * 10 + K.nacts * 3
  long = ok_length (row_forms K) vs ok ∙ length_forms K

  -- each value of a task's part and of an activity's part is one that its form can say
  task_ok : (t j : ℕ) → t < K.ntasks → j < 10 → form_ok (get_or task_forms j 0) (get_or vs (task_place t + j) 0) ≡ true
  task_ok t j h l = rw (task_form K t j h l) at (ok_at (row_forms K) vs ok (task_place t + j) (omega (arith, length_forms K)))

  act_ok : (a j : ℕ) → a < K.nacts → j < 3 → form_ok (get_or act_forms j 0) (get_or vs (act_place K a + j) 0) ≡ true
  act_ok a j h l = rw (act_form K a j h l) at (ok_at (row_forms K) vs ok (act_place K a + j) (omega (arith, length_forms K)))

  -- its rows are those that the values say
  task_said : (t : ℕ) → t < K.ntasks → task_at (state_from K vs) t ≡ task_from vs (task_place t)
  unfolding state_from
  task_said t h = rw (tasks_anew vs K.ntasks fresh.tasks) (anew_at _ no_task fresh.tasks K.ntasks t h (omega arith))

  act_said : (a : ℕ) → a < K.nacts → act_at (state_from K vs) a ≡ act_from vs (act_place K a) a (set_at vs (task_place (K.task a) + run_field)) (set_at vs (task_place (K.task a) + halt_field))
  unfolding state_from
  act_said a h = rw (acts_anew K vs K.nacts fresh.acts) (anew_at _ no_act fresh.acts K.nacts a h (omega arith))

  -- the parts of the activities are the values behind the tasks'
  acts_back : (n : ℕ) → n ≤ K.nacts → acts_values (state_from K vs) n ++ drop (act_place K n) vs ≡ drop (act_place K 0) vs
  unfolding acts_values form_ok
  acts_back zero h = refl
  acts_back (suc n) h =
      let at = act_place K n in
      let e : act_place K (suc n) ≡ at + 0 + 3 = omega arith in
      let y = ltb-true (get_or vs (at + 1) 0) 2 (act_ok n 1 h (omega arith)) in
      let d : from vs at 0 3 ++ drop (at + 0 + 3) vs ≡ drop (at + 0) vs = drop_from vs at 0 3 (omega (arith, long)) in
      rw (act_said n h, act_part_lem vs at n (set_at vs (task_place (K.task n) + run_field)) (set_at vs (task_place (K.task n) + halt_field)) y, append_assoc, e, d, add-zero at) (acts_back n (omega arith))

  module _ (w : sets_within K vs ≡ true) where
    -- each set that the values say is within its task
    sets_within_lem : (t : ℕ) → t < K.ntasks → (within K t (set_at vs (task_place t + run_field)) ≡ true) × (within K t (set_at vs (task_place t + halt_field)) ≡ true)
    unfolding sets_within
    sets_within_lem t h = both (within K t (set_at vs (task_place t + run_field))) (each_at K.ntasks _ w t h)

    -- so the sets of the state are those
    run_back : (t : ℕ) → t < K.ntasks → run_bits K (state_from K vs) t K.nacts ≡ get_or vs (task_place t + run_field) 0
    unfolding run_bits form_ok
    run_back t h =
        set_back K t (get_or vs (task_place t + run_field) 0) room (ltb-true _ (2 ^ 64) (task_ok t run_field h (omega arith))) (sets_within_lem t h).0
        (λ a. (act_at (state_from K vs) a).run) (λ a l e. rw (act_said a l, e))

    halt_back : (t : ℕ) → t < K.ntasks → halt_bits K (state_from K vs) t K.nacts ≡ get_or vs (task_place t + halt_field) 0
    unfolding halt_bits form_ok
    halt_back t h =
        set_back K t (get_or vs (task_place t + halt_field) 0) room (ltb-true _ (2 ^ 64) (task_ok t halt_field h (omega arith))) (sets_within_lem t h).1
        (λ a. (act_at (state_from K vs) a).halt) (λ a l e. rw (act_said a l, e))

    -- the parts of the tasks are the values behind the date's
    tasks_back : (n : ℕ) → n ≤ K.ntasks → tasks_values K (state_from K vs) n ++ drop (task_place n) vs ≡ drop 1 vs
    unfolding tasks_values form_ok
    tasks_back zero h = refl
    tasks_back (suc n) h =
        let at = task_place n in
        let e : task_place (suc n) ≡ at + 0 + 10 = omega arith in
        let y = ltb-true (get_or vs (at + 1) 0) 2 (task_ok n 1 h (omega arith)) in
        let z = ltb-true (get_or vs (at + 2) 0) 2 (task_ok n 2 h (omega arith)) in
        let d : from vs at 0 10 ++ drop (at + 0 + 10) vs ≡ drop (at + 0) vs = drop_from vs at 0 10 (omega (arith, long)) in
        rw (task_said n h, task_part_lem vs at _ _ y z (run_back n h) (halt_back n h), append_assoc, e, d, add-zero at) (tasks_back n (omega arith))

    -- the values of the state that values say are those values
    pub values_back : row_values K (state_from K vs) ≡ vs
    unfolding row_values state_from
    values_back =
        let e : act_place K 0 ≡ task_place K.ntasks = omega arith in
        let z : drop (act_place K K.nacts) vs ≡ [] = drop_of_length-le vs {i = act_place K K.nacts} (omega (arith, long)) in
        let a : acts_values (state_from K vs) K.nacts ≡ drop (task_place K.ntasks) vs = rw (z, append-nil, e) at (acts_back K.nacts (omega arith)) in
        rw (a, tasks_back K.ntasks (omega arith)) (sym (drop-cons vs 0 0 (omega (arith, long))))

-- the flags of a task's activities make a set within it
bits_within : (K : Table) (t : ℕ) (q : ℕ → Bool) → K.nacts ≤ most_acts → within K t (record { low = sum K.nacts (λ a. bit_of (eqb (K.task a) t and q a) a); high = 0 }) ≡ true
unfolding within
bits_within K t q room =
    each_of_mk set_room _ _ (λ i l u.
    let m = both (ltb i K.nacts) (sym (bits_member (λ a. eqb (K.task a) t and q a) K.nacts room i) ∙ u) in
    rw (m.0, (both (eqb (K.task i) t) m.1).0))

-- no state has a set outside its task
pub sets_ok : (K : Table) → K.nacts ≤ most_acts → (s : State) → sets_within K (row_values K s) ≡ true
unfolding sets_within run_bits halt_bits
sets_ok K room s =
    each_all K.ntasks _ (λ t h.
    rw (task_value K s t run_field h (omega arith), task_value K s t halt_field h (omega arith), bits_within K t (λ a. (act_at s a).run) room, bits_within K t (λ a. (act_at s a).halt) room))
