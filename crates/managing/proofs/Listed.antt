-- What stands beside a state of N and R says what `fm` asks of it; the walk over a task's activities, one law for each way through it.
use mathlib.Core.Bool.{Bool, true, false, not}
use mathlib.Core.List.{List}
use mathlib.Core.Path.{◌≡◌, refl, ◌∙◌}
use Prim.Native.Nat.{ℕ, ◌+◌, ◌*◌, ◌≤◌, ◌<◌}
use native.Mathlib.Omega.{arith}
use lib.Dec.{eqb}
use lib.ListN.{get_or, get_or-map}
use borrow.Author.Tests.{ne_eqb}
use Rattle.model.specs.Tests.{◌and◌, ◌or◌, ◌implies◌, one, some}
use Rattle.model.specs.Tables.{Table}
use Rattle.model.specs.States.{no_act, act_at}
use Rattle.model.specs.Rules.{none_in}
use Rattle.model.specs.declared.State.{State}
use Rattle.model.specs.declared.TaskStep.{TaskStep}
use Rattle.model.specs.declared.TaskStep.TheVariants.{St, Fm}
use Rattle.table.proofs.Tests.{each_same, each_not}
use Rattle.prepared.specs.Prepared.{table_in, begin_of, end_of, acts_at, Prepared}
use Rattle.prepared.proofs.Walks.{Passed, found, absent}
use Rattle.rules.specs.Local.{empty_for}
use Rattle.managing.specs.Listed.{listed_of, listed_in, none_by, empty_for_by}

-- in which of N and R an activity is
pub listed_at_lem : (s : State) (a : ℕ) → get_or (listed_in s) a 0 ≡ listed_of (act_at s a)
listed_at_lem s a = get_or-map listed_of s.acts a no_act

-- N and R of a task are empty
pub none_by_lem : (K : Table) (s : State) (t : ℕ) → none_by K (listed_in s) t ≡ none_in K s t
unfolding none_by none_in
none_by_lem K s t = each_same _ _ K.nacts (λ a h. rw (listed_at_lem s a) (neither (eqb (K.task a) t) (act_at s a).run (act_at s a).halt))
  where
    neither : (b x y : Bool) → (b implies eqb (one x + 2 * one y) 0) ≡ not (b and (x or y))
    neither true true true = refl
    neither true true false = refl
    neither true false true = refl
    neither true false false = refl
    neither false x y = refl

pub empty_for_by_lem : (K : Table) (s : State) (t : ℕ) (k : TaskStep) → empty_for_by K (listed_in s) t k ≡ empty_for K s t k
empty_for_by_lem K s t St = refl
empty_for_by_lem K s t Fm = none_by_lem K s t

-- the walk over a task's activities
abbrev pub listed_at : List ℕ → ℕ → Bool
listed_at listed a = not (eqb (get_or listed a 0) 0)

pub listed_yes : (listed : List ℕ) (a : ℕ) → (get_or listed a 0 ≡ 0 → ⊥) → listed_at listed a ≡ true
listed_yes listed a n = rw (ne_eqb (get_or listed a 0) 0 n)

none_some : (K : Table) (listed : List ℕ) (t : ℕ) → none_by K listed t ≡ not (some K.nacts (λ a. eqb (K.task a) t and listed_at listed a))
unfolding none_by
none_some K listed t =
    each_same _ _ K.nacts (λ a h. unless (eqb (K.task a) t) (eqb (get_or listed a 0) 0))
    ∙ each_not K.nacts (λ a. eqb (K.task a) t and listed_at listed a)
  where
    unless : (b x : Bool) → (b implies x) ≡ not (b and not x)
    unless true true = refl
    unless true false = refl
    unless false x = refl

-- a task's activities end among them
pub task_end : {rows index : List ℕ} (P : Prepared rows index) (t end : ℕ) → t < (table_in rows index).ntasks → end ≡ end_of index acts_at t → end ≤ (table_in rows index).nacts
task_end P t end h e = omega (arith, P.acts.ends t h)

module _ {rows index : List ℕ} (P : Prepared rows index) (listed : List ℕ) (t from end : ℕ) (h : t < (table_in rows index).ntasks) (b : from ≡ begin_of index acts_at t) (n : end ≡ end_of index acts_at t) where
  pub none_found : (a : ℕ) → from ≤ a → a < end → listed_at listed a ≡ true → false ≡ none_by (table_in rows index) listed t
  none_found a k l e =
      let q = found (table_in rows index).nacts t from end (table_in rows index).task _ (listed_at listed) (λ a i. refl) (task_end P t end h n) (λ a i j. P.acts.inside t a h (rw b at i) (rw n at j)) a k l e in
      rw (none_some (table_in rows index) listed t, ← q)

  pub none_absent : (a : ℕ) → end ≤ a → Passed (listed_at listed) from a → true ≡ none_by (table_in rows index) listed t
  none_absent a l none =
      let q = absent (table_in rows index).nacts t from end (table_in rows index).task _ (listed_at listed) (λ a i. refl) (λ a i o. rw (b, n) (P.acts.outside t a h i o)) a l none in
      rw (none_some (table_in rows index) listed t, ← q)
