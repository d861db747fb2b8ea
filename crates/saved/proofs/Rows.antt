-- Rows and states: a state written is read back, and a row that reads is the one written for its state; no row is a step.
use Prim.Native.Nat.{ℕ, zero, suc, ◌+◌, ◌≤◌}
use mathlib.Core.Bool.{true, false}
use mathlib.Core.List.{List, [], ◌∷◌, ◌++◌, append-nil}
use mathlib.Core.Path.{◌≡◌, refl, sym, ap, ◌∙◌}
use native.Mathlib.Omega.{arith}
use lib.Dec.{T, ltb, leb}
use lib.ListN.{length, length-set}
use borrow.Author.Tests.{lt-leb}
use Rattle.text.specs.Parts.{pick, split_on, join_on, free, parts_from}
use Rattle.text.specs.Words.{same_list, index_from, word_in}
use Rattle.text.proofs.Picks.{cases}
use Rattle.text.proofs.Digits.{free_append}
use Rattle.text.proofs.Parts.{join_split}
use Rattle.text.proofs.Words.{same_self, same_list_lem}
use Rattle.model.specs.Limits.{most_tasks, most_acts}
use Rattle.model.specs.Tables.{Table}
use Rattle.model.specs.Rows.{wellformed}
use Rattle.model.specs.States.{fresh}
use Rattle.model.specs.Sound.{sound}
use Rattle.model.specs.declared.Task.{Task}
use Rattle.model.specs.declared.Act.{Act}
use Rattle.model.specs.declared.State.{State}
use Rattle.std.specs.Prelude.{None}
use Rattle.model.proofs.Tests.{true_T}
use Rattle.model.proofs.Formed.{formed}
use Rattle.logs.specs.Lines.{longest_line, longest_row, step_words, on_word, step_in, read_step}
use Rattle.logs.proofs.Words.{nine_words}
use Rattle.fields.specs.Fields.{Part, part, none, read_fields, field_parts, fields_text, values_ok}
use Rattle.fields.proofs.Parts.{fields_reads, fields_read, fields_split, fields_join, fields_free}
use Rattle.saved.specs.Rows.{state_word, begins_row, row_forms, row_values, row_line, tasks_said, acts_said, state_from, sets_within, on_part, part_in, read_state}
use Rattle.saved.proofs.Sayable.{values_ok_lem}
use Rattle.saved.proofs.Said.{state_back}
use Rattle.saved.proofs.Back.{values_back, sets_ok}
use Rattle.saved.proofs.Lengths.{row_fits}
use Rattle.saved.proofs.Reading.{begins_split}

-- a sound state written as a row is read back as the same state
pub row_back : (K : Table) → wellformed K ≡ true → (s : State) → T (sound K s) → length s.tasks ≡ most_tasks → length s.acts ≡ most_acts → read_state K (row_line K s) ≡ record { number = 0; state = s }
unfolding read_state row_line state_word
row_back K wf s ok tasks acts =
    let l = lt-leb longest_row (length (row_line K s)) (row_fits K wf s ok) in
    let cut : split_on 9 (row_line K s) ≡ state_word ∷ field_parts (row_forms K) (row_values K s) = fields_split (row_forms K) (row_values K s) state_word refl in
    let read : read_fields (row_forms K) (field_parts (row_forms K) (row_values K s)) ≡ part (row_values K s) [] = rw append-nil at (fields_reads (row_forms K) (row_values K s) [] (values_ok_lem K s wf ok)) in
    let within = sets_ok K (formed K (true_T _ wf)).fits.1 s in
    ap (λ b. on_part K (pick b none (part_in K (split_on 9 (row_line K s))))) l
    ∙ ap (λ ps. on_part K (part_in K ps)) cut
    ∙ ap (on_part K) read
    ∙ rw (within, state_back K s wf ok tasks acts)

-- what a row that reads is: fields behind its word that say values, no set of them outside its task, and the state that they say
record Reads (K : Table) (p : List ℕ) : Type 0 where
  vs : List ℕ
  split : split_on 9 p ≡ state_word ∷ field_parts (row_forms K) vs
  sayable : values_ok (row_forms K) vs ≡ true
  within : sets_within K vs ≡ true
  state : (read_state K p).state ≡ state_from K vs

-- a row that is not refused is that
reads : (K : Table) (p : List ℕ) → (read_state K p).number ≡ 0 → Reads K p
unfolding read_state
reads K p z = cases (leb longest_row (length p)) (λ l. absurd (other 10 (rw l at z))) (λ l. words l (split_on 9 p) refl (rw l at z))
  where
    other : (n : ℕ) → suc n ≡ 0 → ⊥
    other n e = omega arith

    fields : leb longest_row (length p) ≡ false → (ps : List (List ℕ)) → split_on 9 p ≡ state_word ∷ ps → (x : Part) → read_fields (row_forms K) ps ≡ x → (on_part K x).number ≡ 0 → Reads K p
    fields l ps e none u z = absurd (other 10 z)
    fields l ps e (part vs (q ∷ qs)) u z = absurd (other 10 z)
    fields l ps e (part vs []) u z =
        let r = fields_read (row_forms K) vs ps [] u in
        cases (sets_within K vs)
        (λ w. record {
          vs = vs;
          split = e ∙ ap (state_word ∷◌) (rw append-nil at r.0);
          sayable = r.1;
          within = w;
          state = rw (l, e, same_self state_word, u, w);
        })
        (λ w. absurd (other 19 (rw w at z)))

    words : leb longest_row (length p) ≡ false → (ps : List (List ℕ)) → split_on 9 p ≡ ps → (on_part K (part_in K ps)).number ≡ 0 → Reads K p
    words l [] e z = absurd (other 10 z)
    words l (w ∷ ps) e z =
        cases (same_list w state_word)
        (λ s. fields l ps (e ∙ ap (◌∷ ps) (same_list_lem w state_word s)) (read_fields (row_forms K) ps) refl (rw s at z))
        (λ s. absurd (other 10 (rw s at z)))

-- a row that reads is the row written for its state: a state has one row
pub row_is : (K : Table) → K.ntasks ≤ most_tasks → K.nacts ≤ most_acts → (p : List ℕ) → (read_state K p).number ≡ 0 → p ≡ row_line K (read_state K p).state
unfolding row_line
row_is K few room p z =
    let r = reads K p z in
    sym (join_split 9 p)
    ∙ ap (join_on 9) r.split
    ∙ fields_join (row_forms K) r.vs state_word
    ∙ ap (λ vs. state_word ++ fields_text (row_forms K) vs) (sym (values_back K few room r.vs r.sayable r.within))
    ∙ ap (λ s. state_word ++ fields_text (row_forms K) (row_values K s)) (sym r.state)

-- a row begins with its word and a tab
pub row_begins : (K : Table) (s : State) → begins_row (row_line K s) ≡ true
unfolding begins_row row_line state_word row_forms row_values fields_text
row_begins K s = refl

-- no newline stands in a row
pub row_free : (K : Table) (s : State) → free 10 (row_line K s) ≡ true
unfolding row_line state_word
row_free K s = free_append 10 state_word (fields_text (row_forms K) (row_values K s)) refl (fields_free 10 (row_forms K) (row_values K s) (omega arith) refl)

-- `state` is no word of a step
no_word : word_in step_words state_word ≡ None
unfolding word_in state_word
no_word = ap (index_from 0 state_word) nine_words

-- a line that begins `state` and a tab is never a step
pub begins_no_step : (d : ℕ) (p : List ℕ) → begins_row p ≡ true → read_step d p ≡ None
unfolding read_step
begins_no_step d p h =
    let in-line : step_in d (split_on 9 p) ≡ None = ap (step_in d) (begins_split p h) ∙ ap (λ w. on_word d w (parts_from 9 p 6)) no_word in
    cases (ltb longest_line (length p + 1)) (λ l. rw l) (λ l. rw l in-line)

-- setting rows keeps how many there are: of tasks
tasks_kept : (vs : List ℕ) (n : ℕ) (l : List Task) → length (tasks_said vs n l) ≡ length l
unfolding tasks_said
tasks_kept vs zero l = refl
tasks_kept vs (suc n) l = length-set (tasks_said vs n l) n _ ∙ tasks_kept vs n l

-- of activities
acts_kept : (K : Table) (vs : List ℕ) (n : ℕ) (l : List Act) → length (acts_said K vs n l) ≡ length l
unfolding acts_said
acts_kept K vs zero l = refl
acts_kept K vs (suc n) l = length-set (acts_said K vs n l) n _ ∙ acts_kept K vs n l

-- the state that any line reads as has all its rows
pub shaped_back : (K : Table) (p : List ℕ) → (length (read_state K p).state.tasks ≡ most_tasks) × (length (read_state K p).state.acts ≡ most_acts)
unfolding read_state state_from
shaped_back K p = go (pick (leb longest_row (length p)) none (part_in K (split_on 9 p)))
  where
    go : (x : Part) → (length (on_part K x).state.tasks ≡ most_tasks) × (length (on_part K x).state.acts ≡ most_acts)
    go none = (refl, refl)
    go (part vs []) =
        cases (sets_within K vs)
        (λ e. rw e (tasks_kept vs K.ntasks fresh.tasks, acts_kept K vs K.nacts fresh.acts))
        (λ e. rw e (refl, refl))
    go (part vs (q ∷ qs)) = (refl, refl)
