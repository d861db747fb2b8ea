-- How long a row is: at least so long for any state, and for a sound one never too long for a line of a log.
use Prim.Native.Nat.{ℕ, zero, suc, ◌+◌, ◌*◌, ◌≤◌, ◌<◌}
use mathlib.Core.Path.{◌≡◌, refl, sym, ap, ◌∙◌}
use mathlib.Core.Bool.{true}
use mathlib.Core.List.{List, [], ◌∷◌, ◌++◌, append_assoc}
use native.Mathlib.Numerals.{add-one}
use native.Mathlib.Omega.{arith}
use lib.Dec.{T, eqb}
use lib.ListN.{length, length-append}
use borrow.Author.Tests.{eqb-true}
use Rattle.text.specs.Parts.{pick}
use Rattle.text.proofs.Picks.{cases}
use Rattle.model.specs.Limits.{most_tasks, most_acts}
use Rattle.model.specs.Tables.{Table}
use Rattle.model.specs.Rows.{wellformed}
use Rattle.model.specs.Sound.{sound}
use Rattle.model.specs.declared.State.{State}
use Rattle.model.proofs.Tests.{true_T}
use Rattle.model.proofs.Formed.{formed}
use Rattle.logs.specs.Lines.{longest_row}
use Rattle.fields.specs.Forms.{a_number, a_set, form_text}
use Rattle.fields.specs.Fields.{repeated, fields_text, values_ok}
use Rattle.fields.proofs.Forms.{form_long, set_long}
use Rattle.fields.proofs.Parts.{text_append, repeated_more, length_repeated, widths_of, text_short, widths_append, widths_repeated}
use Rattle.saved.specs.Rows.{state_word, task_forms, act_forms, row_forms, tasks_values, acts_values, row_values, row_line, row_text}
use Rattle.saved.specs.Written.{tasks_text, acts_text}
use Rattle.saved.proofs.Values.{parts, parts_length, task_part, act_part, tasks_are, acts_are, tasks_length}
use Rattle.saved.proofs.Sayable.{parts_ok, values_ok_lem}

-- the first n parts as they are written
abbrev pub parts_text : List ℕ → (ℕ → List ℕ) → ℕ → List ℕ
parts_text fs f n = fields_text (repeated n fs) (parts f n)

-- parts with one value for each form
module _ (fs : List ℕ) (f : ℕ → List ℕ) (each-has : (i : ℕ) → length (f i) ≡ length fs) where
  -- one more is written behind the others
  pub parts_more : (n : ℕ) → parts_text fs f (suc n) ≡ parts_text fs f n ++ fields_text fs (f n)
  parts_more n =
      ap (λ gs. fields_text gs (parts f (suc n))) (rw add-one at (repeated_more n fs))
      ∙ text_append (repeated n fs) (parts f n) fs (f n) (length_repeated n fs ∙ sym (parts_length f (length fs) n each-has))

  -- where each is so long, they are so many times as long
  parts_long : (k n : ℕ) → ((i : ℕ) → k ≤ length (fields_text fs (f i))) → n * k ≤ length (parts_text fs f n)
  parts_long k zero h = omega arith
  parts_long k (suc n) h =
      omega (arith, ap length (parts_more n), length-append (parts_text fs f n) (fields_text fs (f n)), parts_long k n h, h n)

-- where fields can say each, they are no longer than the description so many times over
pub parts_short : (fs : List ℕ) (f : ℕ → List ℕ) (n : ℕ) → ((i : ℕ) → i < n → values_ok fs (f i) ≡ true) → length (parts_text fs f n) ≤ n * widths_of fs
parts_short fs f n ok = rw (← widths_repeated n fs) (text_short (repeated n fs) (parts f n) (parts_ok fs f n ok))

-- how long the fields of a description are at least, each with the tab before it
abbrev least_of : List ℕ → ℕ
least_of [] = 0
least_of (f ∷ fs) = 1 + pick (eqb f a_set) 16 1 + least_of fs

-- a value is written no shorter
form_least : (form v : ℕ) → pick (eqb form a_set) 16 1 ≤ length (form_text form v)
form_least form v = cases (eqb form a_set) (λ e. rw (eqb-true form a_set e) (omega (arith, set_long v))) (λ e. rw e (form_long form v))

-- values are written no shorter, where there is one for each form
text_long : (fs vs : List ℕ) → length vs ≡ length fs → least_of fs ≤ length (fields_text fs vs)
unfolding fields_text
text_long [] vs h = omega arith
text_long (f ∷ fs) [] h = absurd (omega arith)
text_long (f ∷ fs) (v ∷ vs) h = omega (arith, length-append (form_text f v) (fields_text fs vs), form_least f v, text_long fs vs (omega arith))

-- the tasks of a state and its activities are written as parts
pub tasks_text_lem : (K : Table) (s : State) (n : ℕ) → tasks_text K s n ≡ parts_text task_forms (task_part K s) n
tasks_text_lem K s n = ap (fields_text (repeated n task_forms)) (tasks_are K s n)

pub acts_text_lem : (s : State) (n : ℕ) → acts_text s n ≡ parts_text act_forms (act_part s) n
acts_text_lem s n = ap (fields_text (repeated n act_forms)) (acts_are s n)

-- the date's field as it is written
abbrev pub date_text : State → List ℕ
date_text s = fields_text (a_number ∷ []) (s.date ∷ [])

-- a row's line is its word, its date, its tasks and its activities
pub row_line_lem : (K : Table) (s : State) → row_line K s ≡ state_word ++ (date_text s ++ (tasks_text K s K.ntasks ++ acts_text s K.nacts))
unfolding row_line row_forms row_values
row_line_lem K s =
    let l : length (repeated K.ntasks task_forms) ≡ length (tasks_values K s K.ntasks) = length_repeated K.ntasks task_forms ∙ sym (tasks_length K s K.ntasks) in
    ap (state_word ++◌) (text_append (a_number ∷ []) (s.date ∷ []) _ _ refl
    ∙ ap (date_text s ++◌) (text_append (repeated K.ntasks task_forms) (tasks_values K s K.ntasks) (repeated K.nacts act_forms) (acts_values s K.nacts) l))

-- behind it stands the newline
pub row_text_lem : (K : Table) (s : State) → row_text K s ≡ state_word ++ (date_text s ++ (tasks_text K s K.ntasks ++ (acts_text s K.nacts ++ 10 ∷ [])))
row_text_lem K s = rw (row_line_lem K s, append_assoc, append_assoc, append_assoc)

-- a row whose fields can be said is at most 3,892 bytes long, its newline with it
pub ok_short : (K : Table) (vs : List ℕ) → K.ntasks ≤ most_tasks → K.nacts ≤ most_acts → values_ok (row_forms K) vs ≡ true → length (state_word ++ fields_text (row_forms K) vs) + 1 ≤ 3892
unfolding row_forms state_word
ok_short K vs t a h =
    let x = repeated K.ntasks task_forms in
    let y = repeated K.nacts act_forms in
    omega (arith, text_short (row_forms K) vs h, widths_append x y, widths_repeated K.ntasks task_forms, widths_repeated K.nacts act_forms)

-- so the row of a sound state is at most 3,892 bytes long
pub row_short : (K : Table) → wellformed K ≡ true → (s : State) → T (sound K s) → length (row_text K s) ≤ 3892
unfolding row_line
row_short K wf s ok =
    let few = (formed K (true_T _ wf)).fits in
    omega (arith, length-append (row_line K s) (10 ∷ []), ok_short K (row_values K s) few.0 few.1 (values_ok_lem K s wf ok))

-- so its line without the newline is short enough to be read
pub row_fits : (K : Table) → wellformed K ≡ true → (s : State) → T (sound K s) → length (row_line K s) < longest_row
row_fits K wf s ok = omega (arith, length-append (row_line K s) (10 ∷ []), row_short K wf s ok)

-- the row of any state has at least 8 bytes, 50 more for each task and 6 more for each activity
pub row_long : (K : Table) (s : State) → 8 + 50 * K.ntasks + 6 * K.nacts ≤ length (row_text K s)
unfolding state_word
row_long K s =
    let d = date_text s in
    let t = tasks_text K s K.ntasks in
    let a = acts_text s K.nacts in
    omega (
      arith,
      ap length (row_text_lem K s),
      length-append d (t ++ (a ++ 10 ∷ [])),
      length-append t (a ++ 10 ∷ []),
      length-append a (10 ∷ []),
      text_long (a_number ∷ []) (s.date ∷ []) refl,
      ap length (tasks_text_lem K s K.ntasks),
      parts_long task_forms (task_part K s) (λ i. refl) 50 K.ntasks (λ i. text_long task_forms (task_part K s i) refl),
      ap length (acts_text_lem s K.nacts),
      parts_long act_forms (act_part s) (λ i. refl) 6 K.nacts (λ i. text_long act_forms (act_part s i) refl),
    )
