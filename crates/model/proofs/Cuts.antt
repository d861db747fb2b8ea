-- The cut at noon: a log judged whole, and the same log judged in two files.
use mathlib.Core.Bool.{Bool, true, false, cond}
use mathlib.Core.Path.{◌≡◌, refl, ap, ◌∙◌}
use mathlib.Core.List.{List, [], ◌∷◌, ◌++◌}
use Prim.Native.Nat.{ℕ, suc, ◌+◌}
use native.Mathlib.Omega.{arith}
use borrow.Author.Tests.{eqb-false}
use lib.Dec.{eqb→eq}
use lib.ListN.{length, length-append}
use Rattle.model.specs.Tests.{accepted}
use Rattle.model.specs.Tables.{Table}
use Rattle.model.specs.Rules.{refusal, next}
use Rattle.model.specs.Logs.{reached}
use Rattle.model.specs.Cycles.{KeptRow, Verdict, none, kept, dropped, verdict, opened_in, with_kept, kept_in, dropped_in, managing, Entry, step, row, neither, steps_of, lines_done, stop_on, Report, report}
use Rattle.model.specs.declared.State.{State}
use Rattle.model.specs.declared.Step.{Step}
use Rattle.model.proofs.Tests.{true_T}
use Rattle.model.proofs.StepsKeep.{parts_reached}
use Rattle.model.proofs.Reports.{line_some}

-- a verdict adds its row before those of both parts
with_append : (v : Verdict) (rs qs : List KeptRow) → with_kept v (rs ++ qs) ≡ with_kept v rs ++ qs
with_append none rs qs = refl
with_append (kept r) rs qs = refl
with_append dropped rs qs = refl

-- the rows of steps in two parts: those of the first, then those of the second from the state that the first reaches
pub kept_append : (K : Table) (xs ys : List Step) (s : State) → kept_in K s (xs ++ ys) ≡ kept_in K s xs ++ kept_in K (reached K s xs) ys
unfolding kept_in reached
kept_append K [] ys s = refl
kept_append K (x ∷ xs) ys s = ap (with_kept (verdict K s x)) (kept_append K xs ys (next K s x)) ∙ with_append (verdict K s x) (kept_in K (next K s x) xs) _

-- the dropped of two parts add up
pub dropped_append : (K : Table) (xs ys : List Step) (s : State) → dropped_in K s (xs ++ ys) ≡ dropped_in K s xs + dropped_in K (reached K s xs) ys
unfolding dropped_in reached
dropped_append K [] ys s = omega arith
dropped_append K (x ∷ xs) ys s = omega (arith, dropped_append K xs ys (next K s x))

-- the opened of two parts add up
pub opened_append : (xs ys : List Step) → opened_in (xs ++ ys) ≡ opened_in xs + opened_in ys
unfolding opened_in
opened_append [] ys = omega arith
opened_append (x ∷ xs) ys = omega (arith, opened_append xs ys)

-- no refusal at a line or behind it: none at the line, and none behind it
none_at : (r n : ℕ) → cond (accepted r) n r ≡ 0 → (r ≡ 0) × (n ≡ 0)
none_at r n = go (accepted r) refl
  where
    go : (b : Bool) → accepted r ≡ b → cond b n r ≡ 0 → (r ≡ 0) × (n ≡ 0)
    go true e h = (eqb→eq r 0 (true_T _ e), h)
    go false e h = absurd (eqb-false r 0 e h)

-- a log in two parts goes on behind the first from the state that it reaches
pub record Onward (K : Table) (s : State) (es ds : List Entry) : Type 0 where
  pub steps : steps_of K s (es ++ ds) ≡ steps_of K s es ++ steps_of K (reached K s (steps_of K s es)) ds
  pub number : stop_on K s (es ++ ds) ≡ stop_on K (reached K s (steps_of K s es)) ds
  pub lines : lines_done K s (es ++ ds) ≡ length es + lines_done K (reached K s (steps_of K s es)) ds

-- it does so wherever every line of the first part is accepted
pub onward : (K : Table) (es ds : List Entry) (s : State) → stop_on K s es ≡ 0 → Onward K s es ds
unfolding steps_of lines_done stop_on reached
onward K [] ds s ok = record { steps = refl; number = refl; lines = omega arith }
onward K (step x ∷ es) ds s ok =
    let g = none_at (refusal K s x) (stop_on K (next K s x) es) ok in
    let h = onward K es ds (next K s x) g.1 in
    record { steps = rw g.0 (ap (λ l. x ∷ l) h.steps); number = rw g.0 h.number; lines = rw g.0 (omega (arith, h.lines)) }
onward K (row f ∷ es) ds s ok =
    let g = none_at (f s) (stop_on K s es) ok in
    let h = onward K es ds s g.1 in
    record { steps = rw g.0 h.steps; number = rw g.0 h.number; lines = rw g.0 (omega (arith, h.lines)) }
onward K (neither ∷ es) ds s ok = absurd (omega arith)

module _ (K : Table) (s : State) (es ds : List Entry) (f : State → ℕ) where
  -- the state at the cut, the report on the log judged whole, and those on its two files, of which the second has the state's row first
  abbrev pub at_cut : State
  at_cut = reached K s (steps_of K s es)

  abbrev pub whole : Report
  whole = report K s (es ++ ds)

  abbrev pub first : Report
  first = report K s es

  abbrev pub second : Report
  second = report K at_cut (row f ∷ ds)

  -- A log judged whole, and the same log cut behind any accepted line, with the row of the state reached put first in the second file: the kept
  -- rows are the same, one file's behind the other's; steps, kept and dropped add up; the second's opened counts the tasks managing at the cut
  -- once more; date, managing and refusal are the second's, and the refused line is counted there, where the row is the first line.
  pub record Cut : Type 0 where
    pub kept : whole.kept ≡ first.kept ++ second.kept
    pub steps : whole.sum.steps ≡ first.sum.steps + second.sum.steps
    pub keeps : whole.sum.kept ≡ first.sum.kept + second.sum.kept
    pub dropped : whole.sum.dropped ≡ first.sum.dropped + second.sum.dropped
    pub opened : whole.sum.opened + managing K at_cut ≡ first.sum.opened + second.sum.opened
    pub date : whole.sum.date ≡ second.sum.date
    pub managing : whole.sum.managing ≡ second.sum.managing
    pub refusal : whole.sum.refusal ≡ second.sum.refusal
    pub line : (whole.sum.refusal ≡ 0 → ⊥) → whole.sum.line + 1 ≡ length es + second.sum.line
    pub through : first.sum.refusal ≡ 0

-- every cut whose row is accepted in the state that it is cut at
pub cut : (K : Table) (s : State) (es ds : List Entry) (f : State → ℕ) → stop_on K s es ≡ 0 → f (reached K s (steps_of K s es)) ≡ 0 → Cut K s es ds f
unfolding report steps_of lines_done stop_on
cut K s es ds f ok fine = record {
  kept = rw (e.steps, fine) (kept_append K xs ys s);
  steps = rw (e.steps, fine) (length-append xs ys);
  keeps = rw (e.steps, fine, kept_append K xs ys s) (length-append (kept_in K s xs) (kept_in K z ys));
  dropped = rw (e.steps, fine) (dropped_append K xs ys s);
  opened = rw (e.steps, fine) (omega (arith, opened_append xs ys));
  date = rw (e.steps, fine) (ap (λ u. u.date) (parts_reached K xs ys s));
  managing = rw (e.steps, fine) (ap (managing K) (parts_reached K xs ys s));
  refusal = rw (e.number, fine) refl;
  line = rw (e.number, e.lines, fine) (λ h. omega (arith, line_some (stop_on K z ds) (length es + lines_done K z ds) h, line_some (stop_on K z ds) (suc (lines_done K z ds)) h));
  through = ok;
}
  where
    xs : List Step
    xs = steps_of K s es

    z : State
    z = reached K s xs

    ys : List Step
    ys = steps_of K z ds

    e : Onward K s es ds
    e = onward K es ds s ok
