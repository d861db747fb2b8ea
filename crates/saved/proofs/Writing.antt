-- A row written: the parts of tasks and of activities by a loop each, behind the word and the date, before the newline.
use Prim.Native.Nat.{ℕ, suc, ◌+◌, ◌*◌, ◌≤◌, ◌<◌}
use mathlib.Core.Path.{◌≡◌, refl, sym, ap, ◌∙◌}
use mathlib.Core.Bool.{true}
use mathlib.Core.List.{List, [], ◌∷◌, ◌++◌}
use native.Mathlib.Numerals.{add-one}
use native.Mathlib.Nat.{mul-le-mul_right}
use native.Mathlib.Omega.{arith}
use lib.Dec.{T}
use lib.ListN.{length, get_or, set, length-set, length-append}
use lib.Seq.{sets, length-sets}
use Rattle.text.specs.Put.{Put}
use Rattle.text.proofs.Picks.{picked, false_true}
use Rattle.text.proofs.Puts.{put_fits, sets_append}
use Rattle.model.specs.Limits.{most_tasks, most_acts}
use Rattle.model.specs.Tables.{Table}
use Rattle.model.specs.States.{task_at, act_at}
use Rattle.model.specs.Rows.{wellformed}
use Rattle.model.specs.Sound.{sound}
use Rattle.model.specs.declared.State.{State}
use Rattle.model.proofs.Tests.{true_T}
use Rattle.model.proofs.Formed.{formed}
use Rattle.logs.specs.Lines.{longest_row}
use Rattle.prepared.specs.Prepared.{table_in, Prepared}
use Rattle.prepared.proofs.Stored.{most_tasks_lem, most_acts_lem}
use Rattle.managing.specs.Listed.{listed_of}
use Rattle.fields.specs.Forms.{a_number, form_ok}
use Rattle.fields.specs.Fields.{fields_text, values_ok, repeated}
use Rattle.fields.proofs.Parts.{widths_of, text_short}
use Rattle.saved.specs.Rows.{state_word, task_forms, act_forms, row_forms, task_values, row_values, row_text}
use Rattle.saved.specs.Written.{tasks_text, acts_text, longest_tasks, longest_acts}
use Rattle.saved.specs.Listed.{ListsOf}
use Rattle.saved.specs.declared.Lists.{Lists}
use Rattle.saved.proofs.Values.{task_part, act_part}
use Rattle.saved.proofs.Listed.{lists_like}
use Rattle.saved.proofs.Sayable.{task_ok, act_ok, values_ok_lem}
use Rattle.saved.proofs.Lengths.{parts_text, date_text, parts_more, parts_short, tasks_text_lem, acts_text_lem, row_text_lem, row_short}

-- the first i parts are written from a place on: the buffer before them b₀ and now b, the next goes to p
pub record Written (fs : List ℕ) (f : ℕ → List ℕ) (b₀ : List ℕ) (at : ℕ) (b : List ℕ) (p i : ℕ) : Type 0 where
  pub place : p ≡ at + length (parts_text fs f i)
  pub bytes : b ≡ sets b₀ at (parts_text fs f i)

-- none is written at first
pub written_none : (fs : List ℕ) (f : ℕ → List ℕ) (b : List ℕ) (at : ℕ) → Written fs f b at b at 0
unfolding fields_text repeated
written_none fs f b at = record { place = omega arith; bytes = refl }

module _ {fs : List ℕ} {f : ℕ → List ℕ} {b₀ : List ℕ} {at : ℕ} {b : List ℕ} {p i : ℕ} (w : Written fs f b₀ at b p i) where
  -- the buffer keeps its length
  pub written_kept : length b ≡ length b₀
  written_kept = ap length w.bytes ∙ length-sets b₀ at (parts_text fs f i)

  -- the values of the next
  module _ (each-has : (j : ℕ) → length (f j) ≡ length fs) (v : List ℕ) (e : v ≡ f i) where
    -- there is room for it, where there is for the description as often as parts may come
    written_room : (n m : ℕ) → ((j : ℕ) → j < n → values_ok fs (f j) ≡ true) → i < n → n ≤ m → at + m * widths_of fs ≤ length b₀ → (length fs ≤ length v) × (p + length (fields_text fs v) ≤ length b)
    written_room n m ok h few room =
        let l : suc i ≤ m = omega arith in
        rw e (omega (arith, each-has i), omega (arith, written_kept, w.place, ap length (parts_more fs f each-has i), length-append (parts_text fs f i) (fields_text fs (f i)), parts_short fs f (suc i) (λ j k. ok j (omega arith)), mul-le-mul_right (widths_of fs) l))

    -- it is written
    pub written_more : (r : ℕ) (after : List ℕ) → (r ≡ p + length (fields_text fs v)) × (after ≡ sets b p (fields_text fs v)) → Written fs f b₀ at after r (i + 1)
    written_more r after z =
        let q = parts_more fs f each-has i in
        let m = ap (λ u. p + length (fields_text fs u)) e in
        rw (add-one i) (record {
          place = omega (arith, w.place, z.0, m, ap length q, length-append (parts_text fs f i) (fields_text fs (f i)));
          bytes = z.1 ∙ rw (e, w.place, w.bytes, q, sets_append);
        })

-- the parts of a state under a prepared table
module _ {rows index : List ℕ} (P : Prepared rows index) (s : State) where
  -- a task's values are its part, N and R as they stand beside the state
  pub task_is : {r : Lists} {l : List ℕ} → ((a : ℕ) → a < most_acts → get_or l a 0 ≡ listed_of (act_at s a)) → {t : ℕ} → ListsOf (table_in rows index) l t r → {v : List ℕ} → v ≡ task_values (task_at s t) r.run r.halt → v ≡ task_part (table_in rows index) s t
  task_is {l = l} same {t} m e =
      let b = lists_like (table_in rows index) s l t (table_in rows index).nacts (λ a h. same a (omega (arith, most_acts_lem P))) in
      e ∙ rw (m.run, m.halt, b.0, b.1)

  module _ (ok : T (sound (table_in rows index) s)) {b₀ : List ℕ} {at : ℕ} {b : List ℕ} {p i n : ℕ} where
    -- there is room for one task more
    pub task_room : at + longest_tasks ≤ length b₀ → Written task_forms (task_part (table_in rows index) s) b₀ at b p i → n ≡ (table_in rows index).ntasks → i < n → {v : List ℕ} → v ≡ task_part (table_in rows index) s i → (10 ≤ length v) × (p + length (fields_text task_forms v) ≤ length b)
    task_room room w q h {v} e = written_room w (λ j. refl) v e (table_in rows index).ntasks most_tasks (task_ok (table_in rows index) s P.formed ok) (omega arith) (most_tasks_lem P) room

    -- there is room for one activity more
    pub act_room_lem : at + longest_acts ≤ length b₀ → Written act_forms (act_part s) b₀ at b p i → n ≡ (table_in rows index).nacts → i < n → {v : List ℕ} → v ≡ act_part s i → (3 ≤ length v) × (p + length (fields_text act_forms v) ≤ length b)
    act_room_lem room w q h {v} e = written_room w (λ j. refl) v e (table_in rows index).nacts most_acts (act_ok (table_in rows index) s P.formed ok) (omega arith) (most_acts_lem P) room

-- each part is written
module _ (s : State) {b₀ : List ℕ} {at : ℕ} {b : List ℕ} {p i n m : ℕ} where
  -- of the tasks
  pub tasks_put : (K : Table) → Written task_forms (task_part K s) b₀ at b p i → n ≡ m → n ≤ i → i ≤ n → (p ≡ at + length (tasks_text K s m)) × (b ≡ sets b₀ at (tasks_text K s m))
  tasks_put K w q h l =
      let e : i ≡ m = omega arith in
      let t = sym (tasks_text_lem K s i) ∙ ap (tasks_text K s) e in
      (w.place ∙ ap (λ u. at + length u) t, w.bytes ∙ ap (sets b₀ at) t)

  -- of the activities
  pub acts_put : Written act_forms (act_part s) b₀ at b p i → n ≡ m → n ≤ i → i ≤ n → (p ≡ at + length (acts_text s m)) × (b ≡ sets b₀ at (acts_text s m))
  acts_put w q h l =
      let e : i ≡ m = omega arith in
      let t = sym (acts_text_lem s i) ∙ ap (acts_text s) e in
      (w.place ∙ ap (λ u. at + length u) t, w.bytes ∙ ap (sets b₀ at) t)

-- a sound state's row written at the front of a buffer that has room for any: its word
module _ (K : Table) (s : State) (wf : wellformed K ≡ true) (ok : T (sound K s)) {b : List ℕ} (room : longest_row ≤ length b) {w : ℕ} {b₁ : List ℕ} (h₁ : Put b 0 (115 ∷ 116 ∷ 97 ∷ 116 ∷ 101 ∷ []) w b₁) where
  -- the word stands there
  word_put : (w ≡ 0 + length state_word) × (b₁ ≡ sets b 0 state_word)
  unfolding state_word
  word_put = put_fits (omega arith) h₁

  -- the buffer keeps its length
  word_kept : (w ≡ 5) × (length b₁ ≡ length b)
  unfolding state_word
  word_kept = (word_put.0, ap length word_put.1 ∙ length-sets b 0 state_word)

  -- the date's field is at most 14 bytes long
  date_short : length (date_text s) ≤ 14
  unfolding values_ok row_forms row_values
  date_short = let t = picked (form_ok a_number s.date) false_true (values_ok_lem K s wf ok) in text_short (a_number ∷ []) (s.date ∷ []) (rw t.0)

  -- there is room for it
  pub date_room : (1 ≤ 1) × (w + length (date_text s) ≤ length b₁)
  date_room = (omega arith, omega (arith, date_short, word_kept))

  -- the date
  module _ {p : ℕ} {b₂ : List ℕ} (h₂ : (p ≡ w + length (date_text s)) × (b₂ ≡ sets b₁ w (date_text s))) where
    -- the buffer keeps its length
    date_kept : length b₂ ≡ length b
    date_kept = ap length h₂.1 ∙ length-sets b₁ w (date_text s) ∙ word_kept.1

    -- there is room for the tasks
    pub tasks_room : p + longest_tasks ≤ length b₂
    tasks_room = omega (arith, h₂.0, date_short, word_kept.0, date_kept)

    -- the tasks
    module _ {q : ℕ} {b₃ : List ℕ} (h₃ : (q ≡ p + length (tasks_text K s K.ntasks)) × (b₃ ≡ sets b₂ p (tasks_text K s K.ntasks))) where
      -- the buffer keeps its length
      tasks_kept : length b₃ ≡ length b
      tasks_kept = ap length h₃.1 ∙ length-sets b₂ p (tasks_text K s K.ntasks) ∙ date_kept

      -- there is room for the activities
      pub acts_room : q + longest_acts ≤ length b₃
      acts_room =
          omega (
            arith,
            h₂.0,
            h₃.0,
            date_short,
            word_kept.0,
            tasks_kept,
            ap length (tasks_text_lem K s K.ntasks),
            parts_short task_forms (task_part K s) K.ntasks (task_ok K s wf ok),
            (formed K (true_T _ wf)).fits.0,
          )

      -- the activities
      module _ {e : ℕ} {b₄ : List ℕ} (h₄ : (e ≡ q + length (acts_text s K.nacts)) × (b₄ ≡ sets b₃ q (acts_text s K.nacts))) where
        -- the buffer keeps its length
        acts_kept : length b₄ ≡ length b
        acts_kept = ap length h₄.1 ∙ length-sets b₃ q (acts_text s K.nacts) ∙ tasks_kept

        -- with the newline it is as long as the row
        row_length : e + 1 ≡ length (row_text K s)
        row_length =
            let d = date_text s in
            let t = tasks_text K s K.ntasks in
            let a = acts_text s K.nacts in
            omega (
              arith,
              word_put.0,
              h₂.0,
              h₃.0,
              h₄.0,
              ap length (row_text_lem K s),
              length-append state_word (d ++ (t ++ (a ++ 10 ∷ []))),
              length-append d (t ++ (a ++ 10 ∷ [])),
              length-append t (a ++ 10 ∷ []),
              length-append a (10 ∷ []),
            )

        -- the newline comes within the longest row
        pub end_room : e < longest_row
        end_room = omega (arith, row_length, row_short K wf s ok)

        -- so there is room for it
        pub newline_room : e < length b₄
        newline_room = omega (arith, end_room, acts_kept)

        -- the buffer keeps its length
        pub row_kept : (x : ℕ) → length (set b₄ e x) ≡ length b
        row_kept x = length-set b₄ e x ∙ acts_kept

        -- the row stands there
        pub row_put : (e + 1 ≡ length (row_text K s)) × (set b₄ e 10 ≡ sets b 0 (row_text K s))
        row_put =
            (row_length, rw (h₄.1, h₄.0, h₃.1, h₃.0, h₂.1, h₂.0, word_put.1, word_put.0, row_text_lem K s, sets_append, sets_append, sets_append, sets_append))
