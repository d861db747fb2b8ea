-- A row that is looked for at a place: its parts one after another, each with its fields one after another.
use Prim.Native.Nat.{ℕ, suc, ◌+◌, ◌≤◌}
use mathlib.Core.Path.{◌≡◌, refl, sym, ap, ◌∙◌}
use mathlib.Core.Bool.{Bool, true, not}
use mathlib.Core.List.{List, [], ◌∷◌, ◌++◌, append-nil, append_assoc}
use native.Mathlib.Omega.{arith}
use native.Mathlib.Numerals.{add-one}
use lib.Dec.{T, ltb, ltb→lt, eqb→eq}
use borrow.Author.Tests.{ne_eqb, not-true}
use Rattle.text.specs.Number.{width_of, digits}
use Rattle.text.specs.Fields.{ether_word}
use Rattle.text.specs.Standing.{past}
use Rattle.text.proofs.Picks.{false_true}
use Rattle.text.proofs.Standing.{past_append}
use Rattle.model.specs.Tests.{one}
use Rattle.model.specs.Tables.{Table, is_ether}
use Rattle.model.specs.States.{task_at}
use Rattle.model.specs.declared.Task.{Task}
use Rattle.model.specs.declared.Act.{Act}
use Rattle.model.specs.declared.State.{State}
use Rattle.model.specs.declared.Place.{Place}
use Rattle.model.specs.declared.Place.TheVariants.{Ether, Codel}
use Rattle.model.specs.declared.Holder.{Holder}
use Rattle.model.specs.declared.Holder.TheVariants.{Manager, Activity}
use Rattle.model.proofs.Tests.{and_both, true_T, T_true}
use Rattle.model.proofs.Soundness.{Sound}
use Rattle.managing.specs.Listed.{listed_in}
use Rattle.fields.specs.Forms.{a_number, a_yes, a_holder, a_set, a_place, no_number, manager_word, word_text, form_text}
use Rattle.fields.specs.Fields.{repeated, fields_text}
use Rattle.fields.proofs.Standing.{past_first, past_last_lem, past_both}
use Rattle.saved.specs.Rows.{state_word, task_forms, act_forms, holder_value, place_value, task_values, act_values, row_line}
use Rattle.saved.specs.Written.{tasks_text, acts_text}
use Rattle.saved.specs.Listed.{run_by, halt_by, ListsOf}
use Rattle.saved.specs.Standing.{holder_fits, place_fits, is_idle, Unlisted, head_text}
use Rattle.saved.specs.declared.Lists.{Lists}
use Rattle.saved.proofs.Values.{task_part, act_part}
use Rattle.saved.proofs.Listed.{lists_are, lists_empty}
use Rattle.saved.proofs.Lengths.{parts_more, tasks_text_lem, acts_text_lem, row_line_lem}

-- a number of a table is not what stands for `manager` and `ether`
not_word : (word : List ℕ) (n most : ℕ) → T (ltb n most) → most ≤ no_number → word_text word n ≡ digits n
unfolding word_text
not_word word n most h l = let k = ltb→lt n most h in let o : n ≡ no_number → ⊥ = λ e. omega arith in rw (ne_eqb _ _ o)

-- who holds, and where an activity is
module _ (log : List ℕ) (at r : ℕ) where
  -- the manager
  pub manager_past : (h : Holder) → h ≡ Manager → r ≡ past log at (9 ∷ manager_word) → r ≡ past log at (9 ∷ form_text a_holder (holder_value h))
  unfolding form_text word_text
  manager_past h e q = rw e q

  -- an activity
  pub activity_past : (h : Holder) (a : ℕ) → h ≡ Activity a → T (holder_fits h) → r ≡ past log at (9 ∷ digits a) → r ≡ past log at (9 ∷ form_text a_holder (holder_value h))
  unfolding form_text
  activity_past h a e f q = rw (e, not_word manager_word a 64 (rw e at f) (omega arith)) q

  -- at ether
  pub ether_past : (p : Place) → p ≡ Ether → r ≡ past log at (9 ∷ ether_word) → r ≡ past log at (9 ∷ form_text a_place (place_value p))
  unfolding form_text word_text
  ether_past p e q = rw e q

  -- at a codel
  pub codel_past : (p : Place) (c : ℕ) → p ≡ Codel c → T (place_fits p) → r ≡ past log at (9 ∷ digits c) → r ≡ past log at (9 ∷ form_text a_place (place_value p))
  unfolding form_text
  codel_past p c e f q = rw (e, not_word ether_word c 256 (rw e at f) (omega arith)) q

-- a row's word and its date
pub date_past : (log : List ℕ) (at date p r : ℕ) → p ≡ past log at state_word → r ≡ past log p (9 ∷ digits date) → r ≡ past log at (head_text date)
unfolding form_text
date_past log at date p r e q = past_last_lem log p a_number date r q ∙ rw e (sym (past_append log at state_word (fields_text (a_number ∷ []) (date ∷ []))))

-- a place that is said to be ether is
ether_is : (p : Place) → is_ether p ≡ true → p ≡ Ether
ether_is Ether e = refl
ether_is (Codel c) e = absurd (false_true e)

-- what one that rests there says
idle_text : (y : Act) → is_idle y ≡ true → fields_text act_forms (act_values y) ≡ 9 ∷ 101 ∷ 116 ∷ 104 ∷ 101 ∷ 114 ∷ 9 ∷ 48 ∷ 9 ∷ 48 ∷ []
unfolding fields_text form_text word_text ether_word digits width_of
idle_text y h =
    let p = and_both (is_ether y.place) _ (true_T _ h) in
    let x = and_both (not y.executing) _ p.1 in
    rw (ether_is y.place (T_true _ p.0), not-true y.executing (T_true _ x.0), eqb→eq y.clock 0 x.1)

-- an activity's part
module _ (log : List ℕ) (at : ℕ) where
  -- of one that rests at ether
  pub idle_past : (y : Act) (i : Bool) (r : ℕ) → i ≡ is_idle y → i ≡ true → r ≡ past log at (9 ∷ 101 ∷ 116 ∷ 104 ∷ 101 ∷ 114 ∷ 9 ∷ 48 ∷ 9 ∷ 48 ∷ []) → r ≡ past log at (fields_text act_forms (act_values y))
  idle_past y i r e b q = rw (idle_text y (sym e ∙ b)) q

  -- of any
  pub act_past : (y : Act) (e a b r : ℕ) → e ≡ one y.executing → a ≡ past log at (9 ∷ form_text a_place (place_value y.place)) → b ≡ past log a (9 ∷ digits e) → r ≡ past log b (9 ∷ digits y.clock) → r ≡ past log at (fields_text act_forms (act_values y))
  unfolding form_text
  act_past y e a b r q u v w = past_first log at a_place _ _ _ a r u (past_first log a a_yes _ _ _ b r (rw q at v) (past_last_lem log b a_number _ r w))

-- N and R of a task
module _ (K : Table) (log : List ℕ) (at : ℕ) (l : List ℕ) (t : ℕ) where
  -- their fields
  abbrev lists_text : List ℕ
  lists_text = fields_text (a_set ∷ a_set ∷ []) (run_by K l t K.nacts ∷ halt_by K l t K.nacts ∷ [])

  -- of one that is not managing
  pub none_past : (m : Bool) (r : ℕ) → Unlisted K l t m → not m ≡ true → r ≡ past log at (fields_text (a_set ∷ a_set ∷ []) (0 ∷ 0 ∷ [])) → r ≡ past log at lists_text
  none_past m r u h q = let e = not-true m h in rw (u.run e, u.halt e) q

  -- of any
  pub lists_past : (x : Lists) (p r : ℕ) → ListsOf K l t x → p ≡ past log at (9 ∷ form_text a_set x.run) → r ≡ past log p (9 ∷ form_text a_set x.halt) → r ≡ past log at lists_text
  lists_past x p r o u v = past_first log at a_set _ _ _ p r (rw o.run at u) (past_last_lem log p a_set _ r (rw o.halt at v))

-- in a sound state they are empty where a task is not managing
pub unlisted : (K : Table) (s : State) → Sound K s → (t : ℕ) → Unlisted K (listed_in s) t (task_at s t).managing
unlisted K s S t =
    let l = lists_are K s t K.nacts in
    record { run = λ e. l.0 ∙ (lists_empty K s S t e).0; halt = λ e. l.1 ∙ (lists_empty K s S t e).1 }

-- a task's part
pub task_past : (log : List ℕ) (at : ℕ) (x : Task) (n w : ℕ) (y z a b c d e f g i r : ℕ)
    → a ≡ past log at (9 ∷ digits x.timer)
    → y ≡ one x.signal
    → b ≡ past log a (9 ∷ digits y)
    → z ≡ one x.managing
    → c ≡ past log b (9 ∷ digits z)
    → d ≡ past log c (9 ∷ form_text a_holder (holder_value x.holder))
    → e ≡ past log d (fields_text (a_set ∷ a_set ∷ []) (n ∷ w ∷ []))
    → f ≡ past log e (9 ∷ digits x.cycle)
    → g ≡ past log f (9 ∷ digits x.opened)
    → i ≡ past log g (9 ∷ digits x.missed)
    → r ≡ past log i (9 ∷ digits x.longest)
    → r ≡ past log at (fields_text task_forms (task_values x n w))
unfolding form_text
task_past log at x n w y z a b c d e f g i r ha qy hb qz hc hd he hf hg hi hr =
    past_first log at a_number _ _ _ a r ha
    (past_first log a a_yes _ _ _ b r (rw qy at hb)
    (past_first log b a_yes _ _ _ c r (rw qz at hc)
    (past_first log c a_holder _ _ _ d r hd
    (past_both log d (a_set ∷ a_set ∷ []) (n ∷ w ∷ []) _ _ refl e r he
    (past_first log e a_number _ _ _ f r hf
    (past_first log f a_number _ _ _ g r hg
    (past_first log g a_number _ _ _ i r hi
    (past_last_lem log i a_number _ r hr))))))))

-- A row part after part.
-- no task and no activity says nothing
pub tasks_none : (K : Table) (s : State) → tasks_text K s 0 ≡ []
unfolding fields_text repeated
tasks_none K s = refl

pub acts_none : (s : State) → acts_text s 0 ≡ []
unfolding fields_text repeated
acts_none s = refl

-- one more says its part behind the others
pub tasks_more : (K : Table) (s : State) (t : ℕ) → tasks_text K s (t + 1) ≡ tasks_text K s t ++ fields_text task_forms (task_part K s t)
tasks_more K s t = rw (add-one t, tasks_text_lem K s (suc t), tasks_text_lem K s t) (parts_more task_forms (task_part K s) (λ i. refl) t)

pub acts_more : (s : State) (a : ℕ) → acts_text s (a + 1) ≡ acts_text s a ++ fields_text act_forms (act_part s a)
acts_more s a = rw (add-one a, acts_text_lem s (suc a), acts_text_lem s a) (parts_more act_forms (act_part s) (λ i. refl) a)

-- a row's line is its word and date, its tasks and its activities
pub row_parts_lem : (K : Table) (s : State) → row_line K s ≡ head_text s.date ++ (tasks_text K s K.ntasks ++ acts_text s K.nacts)
row_parts_lem K s = row_line_lem K s ∙ sym (append_assoc state_word (fields_text (a_number ∷ []) (s.date ∷ [])) (tasks_text K s K.ntasks ++ acts_text s K.nacts))

module _ (K : Table) (s : State) (log : List ℕ) (at : ℕ) where
  -- before the first task stands the head
  pub past_head : past log at (head_text s.date) ≡ past log at (head_text s.date ++ tasks_text K s 0)
  past_head = rw (tasks_none K s, append-nil)

  -- behind the first t tasks, one more
  pub past_tasks : (t : ℕ) → past log (past log at (head_text s.date ++ tasks_text K s t)) (fields_text task_forms (task_part K s t)) ≡ past log at (head_text s.date ++ tasks_text K s (t + 1))
  past_tasks t = rw (tasks_more K s t, ← append_assoc) (sym (past_append log at (head_text s.date ++ tasks_text K s t) (fields_text task_forms (task_part K s t))))

  -- behind all tasks stands no activity yet
  pub past_between : past log at (head_text s.date ++ tasks_text K s K.ntasks) ≡ past log at (head_text s.date ++ (tasks_text K s K.ntasks ++ acts_text s 0))
  past_between = rw (acts_none s, append-nil)

  -- behind all tasks and the first a activities, one more
  pub past_acts : (a : ℕ) → past log (past log at (head_text s.date ++ (tasks_text K s K.ntasks ++ acts_text s a))) (fields_text act_forms (act_part s a)) ≡ past log at (head_text s.date ++ (tasks_text K s K.ntasks ++ acts_text s (a + 1)))
  past_acts a =
      let h = head_text s.date in
      let t = tasks_text K s K.ntasks in
      let p = fields_text act_forms (act_part s a) in
      sym (past_append log at (h ++ (t ++ acts_text s a)) p)
      ∙ ap (past log at) (append_assoc h (t ++ acts_text s a) p ∙ ap (h ++◌) (append_assoc t (acts_text s a) p ∙ ap (t ++◌) (sym (acts_more s a))))

  -- behind them all, the row
  pub past_row_lem : past log at (head_text s.date ++ (tasks_text K s K.ntasks ++ acts_text s K.nacts)) ≡ past log at (row_line K s)
  past_row_lem = ap (past log at) (sym (row_parts_lem K s))
