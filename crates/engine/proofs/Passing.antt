-- A `state` row compared with the state reached, part after part where it stands in the log: it goes by where its line is that state's row.
use Prim.Native.Nat.{ℕ, ◌+◌, ◌-◌, ◌≤◌, ◌<◌}
use mathlib.Core.Bool.{true, false}
use mathlib.Core.List.{List, ◌++◌}
use mathlib.Core.Path.{◌≡◌, refl, ap, sym, ◌∙◌}
use native.Mathlib.Omega.{arith}
use lib.Dec.{T, ltb, eqb}
use lib.ListN.{length, get_or, take, drop}
use borrow.Author.Tests.{lt-ltb, le-ltb, eq-eqb, ne_eqb}
use Rattle.text.specs.Parts.{pick, before, first_at}
use Rattle.text.specs.Words.{same_list}
use Rattle.text.specs.Standing.{is_at, past}
use Rattle.text.proofs.Picks.{cases, order}
use Rattle.text.proofs.Seeking.{part_ends}
use Rattle.text.proofs.Standing.{past_within, line_from, past_line_lem, past_newline}
use Rattle.text.proofs.Words.{same_list_lem}
use Rattle.model.specs.Tests.{accepted}
use Rattle.model.specs.Tables.{Table}
use Rattle.model.specs.Rows.{wellformed}
use Rattle.model.specs.States.{task_at, act_at}
use Rattle.model.specs.declared.State.{State}
use Rattle.model.proofs.Soundness.{Sound}
use Rattle.managing.specs.Listed.{listed_in}
use Rattle.fields.specs.Fields.{fields_text}
use Rattle.saved.specs.Rows.{task_forms, act_forms, task_values, act_values, begins_row, row_line}
use Rattle.saved.specs.Written.{tasks_text, acts_text}
use Rattle.saved.specs.Listed.{run_by, halt_by}
use Rattle.saved.specs.Standing.{head_text}
use Rattle.saved.proofs.Rows.{row_begins, row_free}
use Rattle.saved.proofs.Listed.{lists_are}
use Rattle.saved.proofs.Standing.{past_head, past_tasks, past_between, past_acts, past_row_lem}
use Rattle.entries.specs.Entries.{row_number, row_refusal}
use Rattle.entries.proofs.Owning.{row_of}
use Rattle.tally.specs.Tallies.{lines_of}
use Rattle.tally.specs.declared.Tally.{Tally}
use Rattle.engine.specs.Play.{goes_by}
use Rattle.engine.specs.Turns.{passes_at}

-- on line 1 none goes by
pub first_stays : (K : Table) (s : State) (c : Tally) (log : List ℕ) (at e : ℕ) → lines_of c ≡ 0 → passes_at K s c log at e ≡ false
unfolding goes_by
first_stays K s c log at e z =
    cases (eqb e (length log)) (λ y. rw y) (λ y. cases (begins_row (take (e - at) (drop at log))) (λ b. rw (y, b, eq-eqb (lines_of c) 0 z)) (λ b. rw (y, b)))

module _ (K : Table) (wf : T (wellformed K)) (s : State) (S : Sound K s) where
  -- a row is accepted on a later line where it is the row of the state reached
  later_is : (p : List ℕ) → accepted (row_refusal K s p) ≡ same_list p (row_line K s)
  unfolding row_refusal
  later_is p =
      cases (same_list p (row_line K s))
      (λ y.
      let q : p ≡ row_line K s = same_list_lem p (row_line K s) y in
      let n : row_number K p ≡ 0 = ap (row_number K) q ∙ (row_of K wf s S).0 in
      rw (y, n))
      (λ y. cases (accepted (row_number K p)) (λ a. rw (y, a)) (λ a. rw (y, a, a)))

  module _ (c : Tally) (n : eqb (lines_of c) 0 ≡ false) where
    goes_is : (p : List ℕ) → goes_by K s c p ≡ same_list p (row_line K s)
    unfolding goes_by
    goes_is p =
        cases (same_list p (row_line K s))
        (λ y. let b : begins_row p ≡ true = ap begins_row (same_list_lem p (row_line K s) y) ∙ row_begins K s in rw (b, n, y) (later_is p ∙ y))
        (λ y. cases (begins_row p) (λ b. rw (b, n, y) (later_is p ∙ y)) (λ b. rw (b, y)))

    -- so it goes by where a newline stands behind that row's text
    pub passes_is : (log : List ℕ) (at : ℕ) → at ≤ length log → passes_at K s c log at (first_at log at 10) ≡ is_at log (past log at (row_line K s)) 10
    passes_is log at h =
        let e = first_at log at 10 in
        let t = row_line K s in
        let l : e ≤ length log = part_ends log at e 10 h refl in
        let q : (p : List ℕ) → pick (eqb e (length log)) false (goes_by K s c p) ≡ pick (ltb e (length log)) (same_list p t) false =
        λ p. order e (length log) (λ o. let z : e ≡ length log → ⊥ = λ i. omega arith in rw (ne_eqb _ _ z, lt-ltb _ _ o) (goes_is p)) (λ o. let z : e ≡ length log = omega arith in rw (eq-eqb _ _ z, le-ltb _ _ o)) in
        let z : e - at ≡ before 10 (drop at log) = omega arith in
        rw z (q (line_from log at)) ∙ sym (past_line_lem log at t (row_free K s))

    -- what stands behind its text says whether it goes by, and where it ends
    module _ (log : List ℕ) (at p : ℕ) (h : at ≤ length log) (e : p ≡ past log at (row_line K s)) where
      pub row_cut : length log ≤ p → passes_at K s c log at (first_at log at 10) ≡ false
      row_cut l = passes_is log at h ∙ rw (← e, le-ltb _ _ l)

      pub row_other : p < length log → (get_or log p 0 ≡ 10 → ⊥) → passes_at K s c log at (first_at log at 10) ≡ false
      row_other l n = passes_is log at h ∙ rw (← e, lt-ltb _ _ l, ne_eqb _ _ n)

      pub row_same : p < length log → get_or log p 0 ≡ 10 → (passes_at K s c log at (first_at log at 10) ≡ true) × (p ≡ first_at log at 10)
      row_same l q =
          let y : is_at log (past log at (row_line K s)) 10 ≡ true = rw (← e, lt-ltb _ _ l, eq-eqb _ _ q) in
          (passes_is log at h ∙ y, e ∙ past_newline log at (row_line K s) (row_free K s) y)

-- The row's parts, compared one after another: the place behind the head and the first k tasks, and behind all tasks and the first k
-- activities.
pub record TasksPast (K : Table) (s : State) (log : List ℕ) (at p k : ℕ) : Type 0 where
  pub place : p ≡ past log at (head_text s.date ++ tasks_text K s k)

pub record ActsPast (K : Table) (s : State) (log : List ℕ) (at p k : ℕ) : Type 0 where
  pub place : p ≡ past log at (head_text s.date ++ (tasks_text K s K.ntasks ++ acts_text s k))

module _ {K : Table} {s : State} {log : List ℕ} {at : ℕ} where
  pub tasks_first : {p : ℕ} → p ≡ past log at (head_text s.date) → TasksPast K s log at p 0
  tasks_first q = record { place = q ∙ past_head K s log at }

  pub acts_first : {p : ℕ} → p ≡ past log at (head_text s.date ++ tasks_text K s K.ntasks) → ActsPast K s log at p 0
  acts_first q = record { place = q ∙ past_between K s log at }

  pub tasks_all : {p k : ℕ} → TasksPast K s log at p k → k ≡ K.ntasks → p ≡ past log at (head_text s.date ++ tasks_text K s K.ntasks)
  tasks_all W z = W.place ∙ rw z refl

  pub acts_all : {p k : ℕ} → ActsPast K s log at p k → k ≡ K.nacts → p ≡ past log at (row_line K s)
  acts_all W z = W.place ∙ rw z (past_row_lem K s log at)

  module _ (h : at ≤ length log) where
    pub tasks_within : {p k : ℕ} → TasksPast K s log at p k → p ≤ length log
    tasks_within W = rw W.place (past_within log at _ h)

    pub acts_within : {p k : ℕ} → ActsPast K s log at p k → p ≤ length log
    acts_within W = rw W.place (past_within log at _ h)

  pub tasks_more : {l : List ℕ} → l ≡ listed_in s → {p k : ℕ} → TasksPast K s log at p k → {r : ℕ} → r ≡ past log p (fields_text task_forms (task_values (task_at s k) (run_by K l k K.nacts) (halt_by K l k K.nacts))) → TasksPast K s log at r (k + 1)
  tasks_more e {k = k} W q = let w = lists_are K s k K.nacts in record { place = q ∙ rw (e, w.0, w.1, W.place) (past_tasks K s log at k) }

  pub acts_more : {p k : ℕ} → ActsPast K s log at p k → {r : ℕ} → r ≡ past log p (fields_text act_forms (act_values (act_at s k))) → ActsPast K s log at r (k + 1)
  acts_more {k = k} W q = record { place = q ∙ rw W.place (past_acts K s log at k) }
