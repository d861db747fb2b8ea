-- A row's parts read in place, field after field.
use Prim.Native.Nat.{ℕ, ◌^◌, ◌≤◌, ◌<◌}
use mathlib.Core.Bool.{Bool, true, false}
use mathlib.Core.Path.{◌≡◌, refl, sym, ◌∙◌}
use mathlib.Core.List.{List, [], ◌∷◌}
use native.Mathlib.Omega.{arith}
use lib.Dec.{eqb}
use lib.ListN.{length}
use Rattle.text.specs.Parts.{pick}
use Rattle.text.specs.Number.{digits}
use Rattle.text.specs.Set.{member}
use Rattle.text.specs.Fields.{ether_word}
use Rattle.text.specs.Standing.{past}
use Rattle.text.proofs.Picks.{cases}
use Rattle.text.proofs.Standing.{past_within}
use Rattle.model.specs.Tests.{one}
use Rattle.model.specs.Tables.{Table}
use Rattle.model.specs.Rules.{within}
use Rattle.model.specs.declared.Task.{Task}
use Rattle.model.specs.declared.Place.{Place}
use Rattle.model.specs.declared.Holder.{Holder}
use Rattle.fields.specs.Forms.{a_number, a_yes, a_holder, a_set, a_place, no_number, manager_word, word_text, form_text}
use Rattle.fields.specs.Reading.{nothing, number_at, yes_at, word_at, set_at, Reads}
use Rattle.fields.specs.declared.Stood.{Stood}
use Rattle.fields.proofs.InPlace.{number_is, yes_is, word_is, set_is, stands_read, reads_inside, reads_more, fields_more, fields_last, number_form}
use Rattle.saved.specs.Rows.{state_word, holder_value, place_value, holder_of, place_of}
use Rattle.saved.specs.Standing.{head_text}
use Rattle.saved.specs.Reading.{as_set, read_date, read_list, read_task, read_act, ReadsTask, ReadsAct}
use Rattle.saved.specs.declared.TaskRead.{TaskRead}
use Rattle.saved.specs.declared.ActRead.{ActRead}
use Rattle.saved.proofs.Back.{holder_same, place_same}
use Rattle.saved.proofs.Bits.{yes_same}

-- one field, by its form
module _ {s : List ℕ} {at e : ℕ} (v : ℕ) where
  yes_form : Reads s at (9 ∷ digits v) e → v < 2 → Reads s at (9 ∷ form_text a_yes (one (eqb v 1))) e
  unfolding form_text
  yes_form R h = rw (yes_same v h) R

  holder_form : Reads s at (pick (eqb v no_number) (9 ∷ 109 ∷ 97 ∷ 110 ∷ 97 ∷ 103 ∷ 101 ∷ 114 ∷ []) (9 ∷ digits v)) e → {h : Holder} → h ≡ holder_of v → Reads s at (9 ∷ form_text a_holder (holder_value h)) e
  unfolding form_text word_text manager_word
  holder_form R q = rw (q, holder_same v) (cases (eqb v no_number) (λ y. rw y (rw y at R)) (λ y. rw y (rw y at R)))

  place_form : Reads s at (pick (eqb v no_number) (9 ∷ 101 ∷ 116 ∷ 104 ∷ 101 ∷ 114 ∷ []) (9 ∷ digits v)) e → {p : Place} → p ≡ place_of v → Reads s at (9 ∷ form_text a_place (place_value p)) e
  unfolding form_text word_text ether_word
  place_form R q = rw (q, place_same v) (cases (eqb v no_number) (λ y. rw y (rw y at R)) (λ y. rw y (rw y at R)))

-- the word and the date
pub date_read : (s : List ℕ) (at : ℕ) → at ≤ length s → {r : Stood} → r ≡ read_date s at → Reads s at (head_text r.value) r.end
unfolding read_date
date_read s at h {r} e =
    let p = past s at state_word in
    rw e (reads_more (stands_read h refl) (fields_last a_number (number_at s p).value (number_form (number_at s p).value (number_is s p (past_within s at state_word h)).0)))

pub date_found : (s : List ℕ) (at : ℕ) {p : ℕ} → p ≡ past s at (115 ∷ 116 ∷ 97 ∷ 116 ∷ 101 ∷ []) → {r : Stood} → r ≡ number_at s p → r ≡ read_date s at
unfolding read_date state_word
date_found s at q e = e ∙ rw q

-- a task's part
module _ (K : Table) (log : List ℕ) (t : ℕ) (timer signal managing holder run halt cycle opened missed longest : Stood) {at : ℕ}
    (a : Reads log at (9 ∷ digits timer.value) timer.end)
    (b : Reads log timer.end (9 ∷ digits signal.value) signal.end × (signal.value < 2))
    (c : Reads log signal.end (9 ∷ digits managing.value) managing.end × (managing.value < 2))
    (d : Reads log managing.end (pick (eqb holder.value no_number) (9 ∷ 109 ∷ 97 ∷ 110 ∷ 97 ∷ 103 ∷ 101 ∷ 114 ∷ []) (9 ∷ digits holder.value)) holder.end)
    (f : Reads log holder.end (9 ∷ form_text a_set run.value) run.end × (run.end < length log → within K t (as_set run.value) ≡ true) × (run.value < 2 ^ 64))
    (g : Reads log run.end (9 ∷ form_text a_set halt.value) halt.end × (halt.end < length log → within K t (as_set halt.value) ≡ true) × (halt.value < 2 ^ 64))
    (i : Reads log halt.end (9 ∷ digits cycle.value) cycle.end)
    (j : Reads log cycle.end (9 ∷ digits opened.value) opened.end)
    (k : Reads log opened.end (9 ∷ digits missed.value) missed.end)
    (l : Reads log missed.end (9 ∷ digits longest.value) longest.end)
    {h : Holder} (e : h ≡ holder_of holder.value) where
  abbrev task : Task
  task = record {
    timer = timer.value;
    signal = eqb signal.value 1;
    managing = eqb managing.value 1;
    holder = h;
    cycle = cycle.value;
    opened = opened.value;
    missed = missed.value;
    longest = longest.value;
  }

  task_read : ReadsTask K log at t task run.value halt.value longest.end
  task_read = record {
    text =
        fields_more a_number timer.value _ _ (number_form timer.value a)
        (fields_more a_yes (one (eqb signal.value 1)) _ _ (yes_form signal.value b.0 b.1)
        (fields_more a_yes (one (eqb managing.value 1)) _ _ (yes_form managing.value c.0 c.1)
        (fields_more a_holder (holder_value h) _ _ (holder_form holder.value d e)
        (fields_more a_set run.value _ _ f.0
        (fields_more a_set halt.value _ _ g.0
        (fields_more a_number cycle.value _ _ (number_form cycle.value i)
        (fields_more a_number opened.value _ _ (number_form opened.value j)
        (fields_more a_number missed.value _ _ (number_form missed.value k)
        (fields_last a_number longest.value (number_form longest.value l))))))))));
    lists = λ z.
        let p = reads_inside i (reads_inside j (reads_inside k (reads_inside l z))) in
        let q = reads_inside g.0 p in
        record { run = f.1 q; halt = g.1 p; run_fits = f.2; halt_fits = g.2 };
  }

-- an activity's part
module _ (log : List ℕ) (place executing clock : Stood) {at : ℕ} (a n r : ℕ)
    (b : Reads log at (pick (eqb place.value no_number) (9 ∷ 101 ∷ 116 ∷ 104 ∷ 101 ∷ 114 ∷ []) (9 ∷ digits place.value)) place.end)
    (c : Reads log place.end (9 ∷ digits executing.value) executing.end × (executing.value < 2))
    (d : Reads log executing.end (9 ∷ digits clock.value) clock.end)
    {p : Place} (e : p ≡ place_of place.value) {run halt : Bool} (f : run ≡ member (as_set n) a) (g : halt ≡ member (as_set r) a) where
  act_read : ReadsAct log at a n r (record { place = p; executing = eqb executing.value 1; clock = clock.value; run = run; halt = halt }) clock.end
  act_read = record {
    text =
        fields_more a_place (place_value p) _ _ (place_form place.value b e)
        (fields_more a_yes (one (eqb executing.value 1)) _ _ (yes_form executing.value c.0 c.1)
        (fields_last a_number clock.value (number_form clock.value d)));
    run = f;
    halt = g;
  }

-- N or R
module _ (K : Table) (log : List ℕ) (t at : ℕ) where
  -- within its task, or not
  pub list_own : {n : Stood} → n ≡ set_at log at → {b : Bool} → b ≡ within K t (as_set n.value) → b ≡ true → n ≡ read_list K log t at
  unfolding read_list
  list_own e q y = let w : within K t (as_set (set_at log at).value) ≡ true = rw (← e) (sym q ∙ y) in e ∙ rw w

  pub list_other : {n : Stood} → n ≡ set_at log at → {b : Bool} → b ≡ within K t (as_set n.value) → b ≡ false → {r : Stood} → r ≡ nothing log → r ≡ read_list K log t at
  unfolding read_list
  list_other e q y i = let w : within K t (as_set (set_at log at).value) ≡ false = rw (← e) (sym q ∙ y) in i ∙ rw w

  -- what is read stands there
  list_is : at ≤ length log → Reads log at (9 ∷ form_text a_set (read_list K log t at).value) (read_list K log t at).end × ((read_list K log t at).end < length log → within K t (as_set (read_list K log t at).value) ≡ true) × ((read_list K log t at).value < 2 ^ 64)
  unfolding read_list
  list_is l =
      let R = set_is log at l in
      cases (within K t (as_set (set_at log at).value))
      (λ w. rw w (R.0, λ z. w, R.1))
      (λ w. rw w (record { inside = omega arith; stands = λ z. absurd (omega arith) }, λ z. absurd (omega arith), omega arith))

-- each ends inside
module _ (log : List ℕ) (at : ℕ) {r : Stood} where
  pub number_inside : r ≡ number_at log at → at ≤ length log → r.end ≤ length log
  number_inside e l = rw e (number_is log at l).0.inside

  pub yes_inside : r ≡ yes_at log at → at ≤ length log → r.end ≤ length log
  yes_inside e l = rw e (yes_is log at l).0.inside

  pub word_inside : (word : List ℕ) → r ≡ word_at word log at → at ≤ length log → r.end ≤ length log
  word_inside word e l = rw e (word_is log word at l).inside

  pub list_inside : (K : Table) (t : ℕ) → r ≡ read_list K log t at → at ≤ length log → r.end ≤ length log
  list_inside K t e l = rw e (list_is K log t at l).0.inside

pub ruleset inside = (number_inside, yes_inside, word_inside, list_inside)

-- a task's part, as it is read
module _ (K : Table) (log : List ℕ) (t at : ℕ) where
  pub task_found : (timer signal managing holder run halt cycle opened missed longest : Stood) → timer ≡ number_at log at → signal ≡ yes_at log timer.end → managing ≡ yes_at log signal.end
      → holder ≡ word_at (9 ∷ 109 ∷ 97 ∷ 110 ∷ 97 ∷ 103 ∷ 101 ∷ 114 ∷ []) log managing.end → run ≡ read_list K log t holder.end → halt ≡ read_list K log t run.end → cycle ≡ number_at log halt.end
      → opened ≡ number_at log cycle.end → missed ≡ number_at log opened.end → longest ≡ number_at log missed.end → {h : Holder} → h ≡ holder_of holder.value
      → record {
        task = record { timer = timer.value; signal = eqb signal.value 1; managing = eqb managing.value 1; holder = h; cycle = cycle.value; opened = opened.value; missed = missed.value; longest = longest.value };
        run = run.value;
        halt = halt.value;
        end = longest.end;
      } ≡ read_task K log t at
  unfolding read_task manager_word
  task_found timer signal managing holder run halt cycle opened missed longest a b c d f g i j k l e = rw (e, l, k, j, i, g, f, d, c, b, a)

  pub task_is : at ≤ length log → {r : TaskRead} → r ≡ read_task K log t at → ReadsTask K log at t r.task r.run r.halt r.end
  unfolding read_task manager_word
  task_is z {r} e =
      let timer = number_at log at in
      let signal = yes_at log timer.end in
      let managing = yes_at log signal.end in
      let holder = word_at (9 ∷ 109 ∷ 97 ∷ 110 ∷ 97 ∷ 103 ∷ 101 ∷ 114 ∷ []) log managing.end in
      let run = read_list K log t holder.end in
      let halt = read_list K log t run.end in
      let cycle = number_at log halt.end in
      let opened = number_at log cycle.end in
      let missed = number_at log opened.end in
      let longest = number_at log missed.end in
      let a = number_is log at z in
      let b = yes_is log timer.end a.0.inside in
      let c = yes_is log signal.end b.0.inside in
      let d = word_is log (9 ∷ 109 ∷ 97 ∷ 110 ∷ 97 ∷ 103 ∷ 101 ∷ 114 ∷ []) managing.end c.0.inside in
      let f = list_is K log t holder.end d.inside in
      let g = list_is K log t run.end f.0.inside in
      let i = number_is log halt.end g.0.inside in
      let j = number_is log cycle.end i.0.inside in
      let k = number_is log opened.end j.0.inside in
      let l = number_is log missed.end k.0.inside in
      rw e (task_read K log t timer signal managing holder run halt cycle opened missed longest a.0 b c d f g i.0 j.0 k.0 l.0 refl)

-- an activity's part, as it is read
module _ (log : List ℕ) (at a n r : ℕ) where
  pub act_found : (place executing clock : Stood) → place ≡ word_at (9 ∷ 101 ∷ 116 ∷ 104 ∷ 101 ∷ 114 ∷ []) log at → executing ≡ yes_at log place.end → clock ≡ number_at log executing.end
      → {p : Place} → p ≡ place_of place.value → {run halt : Bool} → run ≡ member (as_set n) a → halt ≡ member (as_set r) a
      → record { act = record { place = p; executing = eqb executing.value 1; clock = clock.value; run = run; halt = halt }; end = clock.end } ≡ read_act log at a n r
  unfolding read_act ether_word
  act_found place executing clock b c d e f g = rw (e, f, g, d, c, b)

  pub act_is : at ≤ length log → {y : ActRead} → y ≡ read_act log at a n r → ReadsAct log at a n r y.act y.end
  unfolding read_act ether_word
  act_is z e =
      let place = word_at (9 ∷ 101 ∷ 116 ∷ 104 ∷ 101 ∷ 114 ∷ []) log at in
      let executing = yes_at log place.end in
      let clock = number_at log executing.end in
      let b = word_is log (9 ∷ 101 ∷ 116 ∷ 104 ∷ 101 ∷ 114 ∷ []) at z in
      let c = yes_is log place.end b.inside in
      let d = number_is log executing.end c.0.inside in
      rw e (act_read log place executing clock a n r b c d.0 refl refl refl)
