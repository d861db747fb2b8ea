-- A row read in place, part after part: the parts stored so far stay as they are, and where N and R are the state's own, they are its row.
use Prim.Native.Nat.{ℕ, zero, suc, ◌+◌, ◌≤◌, ◌<◌}
use mathlib.Core.Path.{◌≡◌, refl, sym, ◌∙◌}
use mathlib.Core.List.{List, [], ◌++◌}
use native.Mathlib.Omega.{arith}
use native.Mathlib.Numerals.{add-one}
use lib.ListN.{length, get_or, set}
use lib.Seq.{get_or-set_same, get_or-set_other}
use Rattle.text.specs.Set.{member}
use Rattle.model.specs.Limits.{most_acts}
use Rattle.model.specs.Tables.{Table}
use Rattle.model.specs.States.{no_task, no_act, act_at}
use Rattle.model.specs.declared.Task.{Task}
use Rattle.model.specs.declared.Act.{Act}
use Rattle.model.specs.declared.State.{State}
use Rattle.fields.specs.Fields.{fields_text}
use Rattle.saved.specs.Rows.{task_forms, act_forms, task_values, act_values, run_bits, halt_bits, row_line}
use Rattle.saved.specs.Written.{tasks_text, acts_text}
use Rattle.saved.specs.Standing.{head_text}
use Rattle.saved.specs.Reading.{as_set, OwnLists, parts_by}
use Rattle.saved.proofs.Back.{set_back}
use Rattle.saved.proofs.Standing.{tasks_none, tasks_more, acts_none, acts_more, row_parts_lem}

-- no task says nothing
pub parts_none : (xs : List Task) (ns rs : List ℕ) → parts_by xs ns rs 0 ≡ []
unfolding parts_by
parts_none xs ns rs = refl

-- a task that is stored with its N and R
module _ (xs : List Task) (ns rs : List ℕ) (k : ℕ) (x : Task) (n r : ℕ) where
  -- leaves those before it as they are
  parts_kept : (t : ℕ) → t ≤ k → parts_by (set xs k x) (set ns k n) (set rs k r) t ≡ parts_by xs ns rs t
  unfolding parts_by
  parts_kept zero h = refl
  parts_kept (suc t) h =
      let o : t ≡ k → ⊥ = λ e. omega arith in
      rw (get_or-set_other xs k t x no_task o, get_or-set_other ns k t n 0 o, get_or-set_other rs k t r 0 o, parts_kept t (omega arith))

  -- and says its part behind them
  pub parts_set : k < length xs → k < length ns → k < length rs → parts_by (set xs k x) (set ns k n) (set rs k r) (k + 1) ≡ parts_by xs ns rs k ++ fields_text task_forms (task_values x n r)
  unfolding parts_by
  parts_set a b c = rw (add-one k, get_or-set_same xs k x no_task a, get_or-set_same ns k n 0 b, get_or-set_same rs k r 0 c, parts_kept k (omega arith))

-- an activity that is stored
module _ (s : State) (k : ℕ) (y : Act) where
  -- leaves those before it as they are
  acts_kept : (a : ℕ) → a ≤ k → acts_text (record { date = s.date; tasks = s.tasks; acts = set s.acts k y }) a ≡ acts_text s a
  acts_kept zero h = acts_none _ ∙ sym (acts_none s)
  acts_kept (suc a) h =
      let u : State = record { date = s.date; tasks = s.tasks; acts = set s.acts k y } in
      let o : a ≡ k → ⊥ = λ e. omega arith in
      let p : acts_text u (suc a) ≡ acts_text u a ++ fields_text act_forms (act_values (act_at u a)) = rw add-one at (acts_more u a) in
      let q : acts_text s (suc a) ≡ acts_text s a ++ fields_text act_forms (act_values (act_at s a)) = rw add-one at (acts_more s a) in
      p ∙ rw (get_or-set_other s.acts k a y no_act o, acts_kept a (omega arith)) (sym q)

  -- and says its part behind them
  pub acts_set : k < length s.acts → acts_text (record { date = s.date; tasks = s.tasks; acts = set s.acts k y }) (k + 1) ≡ acts_text s k ++ fields_text act_forms (act_values y)
  acts_set h = acts_more _ k ∙ rw (get_or-set_same s.acts k y no_act h, acts_kept k (omega arith))

-- an activity is in N and R as those read for its task say
abbrev pub Has : Table → State → List ℕ → List ℕ → ℕ → Type 0
Has K s ns rs a = ((act_at s a).run ≡ member (as_set (get_or ns (K.task a) 0)) a) × ((act_at s a).halt ≡ member (as_set (get_or rs (K.task a) 0)) a)

module _ (K : Table) (s : State) (ns rs : List ℕ) where
  -- N and R of the first k tasks are those of the state
  record Own (k : ℕ) : Type 0 where
    run : (t : ℕ) → t < k → run_bits K s t K.nacts ≡ get_or ns t 0
    halt : (t : ℕ) → t < k → halt_bits K s t K.nacts ≡ get_or rs t 0

  -- so their parts are those of the state
  parts_own : (k : ℕ) → Own k → parts_by s.tasks ns rs k ≡ tasks_text K s k
  unfolding parts_by
  parts_own zero W = sym (tasks_none K s)
  parts_own (suc t) W =
      let q : tasks_text K s (suc t) ≡ tasks_text K s t ++ fields_text task_forms (task_values (get_or s.tasks t no_task) (run_bits K s t K.nacts) (halt_bits K s t K.nacts)) = rw add-one at (tasks_more K s t) in
      rw (← W.run t (omega arith), ← W.halt t (omega arith), parts_own t (record { run = λ i h. W.run i (omega arith); halt = λ i h. W.halt i (omega arith) })) (sym q)

  -- N and R that were read are of the tasks' activities alone, and these are in them
  module _ (room : K.nacts ≤ most_acts) (L : (t : ℕ) → t < K.ntasks → OwnLists K t (get_or ns t 0) (get_or rs t 0)) (M : (a : ℕ) → a < K.nacts → Has K s ns rs a) where
    -- so they are those of the state
    lists_own : Own K.ntasks
    unfolding run_bits halt_bits
    lists_own = record {
      run = λ t h. set_back K t (get_or ns t 0) room (L t h).run_fits (L t h).run (λ a. (act_at s a).run) (λ a l e. rw e at (M a l).0);
      halt = λ t h. set_back K t (get_or rs t 0) room (L t h).halt_fits (L t h).halt (λ a. (act_at s a).halt) (λ a l e. rw e at (M a l).1);
    }

    -- and all parts are its row
    pub parts_row : head_text s.date ++ (parts_by s.tasks ns rs K.ntasks ++ acts_text s K.nacts) ≡ row_line K s
    parts_row = rw (parts_own K.ntasks lists_own) (sym (row_parts_lem K s))
