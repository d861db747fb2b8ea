-- What an accepted step adds to the tally, by its kind, and that there is room for it, and for a `state` row.
use Prim.Native.Nat.{ℕ, ◌+◌, ◌≤◌, ◌<◌}
use mathlib.Core.Bool.{Bool, true, false}
use mathlib.Core.Path.{◌≡◌, refl}
use native.Mathlib.Omega.{arith}
use native.Mathlib.Nat.{add-zero}
use Rattle.text.specs.Parts.{pick}
use Rattle.text.specs.declared.Set.{Set}
use Rattle.model.specs.Tables.{Table}
use Rattle.model.specs.States.{task_at}
use Rattle.model.specs.Logs.{is_wait}
use Rattle.model.specs.Cycles.{Verdict, none, kept, dropped, verdict, opens, drops}
use Rattle.model.specs.declared.State.{State}
use Rattle.model.specs.declared.TaskStep.{TaskStep}
use Rattle.model.specs.declared.TaskStep.TheVariants.{St, Fm}
use Rattle.model.specs.declared.Step.{Step}
use Rattle.model.specs.declared.Step.TheVariants.{Wait, Sm, OfTask, OfAct}
use Rattle.tally.specs.Tallies.{ruling_of, keeps_one, counted, tallied, after_wait, after_sm, after_step, after_row, ruling_by, Roomy}
use Rattle.tally.specs.declared.Tally.{Tally}
use Rattle.tally.specs.declared.Ruling.{Ruling}
use Rattle.tally.specs.declared.Ruling.TheVariants.{Open, Kept, Dropped}

-- the verdict told by the task's record
module _ (K : Table) (s : State) where
  pub ruling_is : (t : ℕ) (k : TaskStep) → ruling_by K t k s.date (task_at s t) ≡ ruling_of (verdict K s (OfTask t k))
  unfolding verdict
  ruling_is t St = refl
  ruling_is t Fm = refl

  -- the tally after a step, by its kind
  module _ (c : Tally) where
    pub wait_counts : (d : ℕ) → after_wait c ≡ tallied K s (Wait d) c
    unfolding verdict
    wait_counts d = simp add-zero

    pub sm_counts : (t : ℕ) (n r : Set) → after_sm c ≡ tallied K s (Sm t n r) c
    unfolding verdict
    sm_counts t n r = simp add-zero

    by_verdict : (x : Step) (v : Verdict) → opens x ≡ 0 → is_wait x ≡ false → after_step c (ruling_of v) ≡ counted x v c
    by_verdict x none e f = rw (e, f) (simp add-zero)
    by_verdict x (kept r) e f = rw (e, f) (simp add-zero)
    by_verdict x dropped e f = rw (e, f) (simp add-zero)

    pub step_counts : (x : Step) → is_wait x ≡ false → opens x ≡ 0 → after_step c (ruling_of (verdict K s x)) ≡ tallied K s x c
    step_counts x w o = by_verdict x (verdict K s x) o w

-- room for one more, and what is left then
module _ (c : Tally) (n : ℕ) (R : Roomy c n) where
  pub roomy_one : 0 < n → Roomy c 1
  roomy_one h = record { lines = omega arith; opened = omega arith; kept = omega arith; dropped = omega arith; since = omega arith }

  module _ (m : ℕ) (h : m < n) where
    pub wait_roomy : Roomy (after_wait c) m
    wait_roomy = record { lines = omega arith; opened = omega arith; kept = omega arith; dropped = omega arith; since = omega arith }

    pub sm_roomy : Roomy (after_sm c) m
    sm_roomy = record { lines = omega arith; opened = omega arith; kept = omega arith; dropped = omega arith; since = omega arith }

    pub step_roomy : (w : Ruling) → Roomy (after_step c w) m
    step_roomy Open = record { lines = omega arith; opened = omega arith; kept = omega arith; dropped = omega arith; since = omega arith }
    step_roomy (Kept r) = record { lines = omega arith; opened = omega arith; kept = omega arith; dropped = omega arith; since = omega arith }
    step_roomy Dropped = record { lines = omega arith; opened = omega arith; kept = omega arith; dropped = omega arith; since = omega arith }

    -- a `state` row
    pub row_roomy : Roomy (after_row c) m
    row_roomy = record { lines = omega arith; opened = omega arith; kept = omega arith; dropped = omega arith; since = omega arith }

-- a step and its verdict add one at most to what they count
pub opens_most : (x : Step) → opens x ≤ 1
opens_most (Wait d) = omega arith
opens_most (Sm t n r) = omega arith
opens_most (OfTask t k) = omega arith
opens_most (OfAct a k) = omega arith

pub since_most : (w : Bool) (n : ℕ) → pick w 0 (n + 1) ≤ n + 1
since_most true n = omega arith
since_most false n = omega arith

pub verdict_most : (v : Verdict) → keeps_one v + drops v ≤ 1
verdict_most none = omega arith
verdict_most (kept r) = omega arith
verdict_most dropped = omega arith

-- so there is room for any step, by its verdict
pub counted_roomy : (x : Step) (v : Verdict) (c : Tally) {n m : ℕ} → Roomy c n → m < n → Roomy (counted x v c) m
counted_roomy x v c R h = record {
  lines = omega (arith, R.lines);
  opened = omega (arith, R.opened, opens_most x);
  kept = omega (arith, R.kept, verdict_most v);
  dropped = omega (arith, R.dropped, verdict_most v);
  since = omega (arith, R.since, since_most (is_wait x) c.since);
}
