-- The report on any log from any state: its steps are accepted, its cycles balance, its longest stretch is bounded, and it stops at the first
-- refused line.
use mathlib.Core.Bool.{Bool, true, false, cond}
use mathlib.Core.Path.{◌≡◌, refl, ap}
use mathlib.Core.Logic.{◌⊎◌, inl, inr}
use mathlib.Core.List.{List, [], ◌∷◌, ◌++◌}
use Prim.Native.Nat.{ℕ, zero, suc, ◌+◌, ◌*◌, ◌≤◌}
use native.Mathlib.Omega.{arith}
use borrow.Author.Tests.{eqb-false}
use lib.Dec.{T}
use lib.ListN.{length}
use Rattle.model.specs.Tests.{accepted}
use Rattle.model.specs.Tables.{Table}
use Rattle.model.specs.Rows.{wellformed}
use Rattle.model.specs.Rules.{refusal, next}
use Rattle.model.specs.Sound.{sound}
use Rattle.model.specs.Logs.{all_accepted, reached}
use Rattle.model.specs.Cycles.{Entry, step, row, neither, entry_refusal, steps_of, lines_done, stop_on, steps_in, line_of, report}
use Rattle.model.specs.declared.State.{State}
use Rattle.model.proofs.Tests.{true_T, and_i}
use Rattle.model.proofs.Formed.{formed}
use Rattle.model.proofs.Soundness.{Shaped, Sound}
use Rattle.model.proofs.Demand.{demand_three_from}
use Rattle.model.proofs.Balance.{balance_from}

-- the steps of a report are accepted, one after another
pub steps_accepted : (K : Table) (s : State) (es : List Entry) → T (all_accepted K s (steps_of K s es))
unfolding steps_of all_accepted
steps_accepted K s [] = tt
steps_accepted K s (step x ∷ es) = go (accepted (refusal K s x)) refl (steps_accepted K (next K s x) es)
  where
    go : (b : Bool) → accepted (refusal K s x) ≡ b → T (all_accepted K (next K s x) (steps_of K (next K s x) es)) → T (all_accepted K s (cond b (x ∷ steps_of K (next K s x) es) []))
    go true e h = and_i (accepted (refusal K s x)) _ (true_T _ e) h
    go false e h = tt
steps_accepted K s (row f ∷ es) = go (accepted (f s)) (steps_accepted K s es)
  where
    go : (b : Bool) → T (all_accepted K s (steps_of K s es)) → T (all_accepted K s (cond b (steps_of K s es) []))
    go true h = h
    go false h = tt
steps_accepted K s (neither ∷ es) = tt

-- the cycles of a report balance
pub report_balance : (K : Table) → T (wellformed K) → (s : State) → Sound K s → (es : List Entry) → (report K s es).sum.opened ≡ (report K s es).sum.kept + (report K s es).sum.dropped + (report K s es).sum.managing
unfolding report
report_balance K wf s S es = omega (arith, balance_from K (formed K wf) (steps_of K s es) s S (steps_accepted K s es))

-- the longest stretch of a report is bounded
pub report_bound : (K : Table) → T (wellformed K) → (s : State) → Shaped s → T (sound K s) → (es : List Entry) → (report K s es).sum.most ≤ K.ntasks * 6 + K.nacts * 6
unfolding report
report_bound K wf s shape ok es = (demand_three_from K wf s shape ok (steps_of K s es) (steps_accepted K s es)).bound

-- the line of a refusal: the one behind the accepted lines
pub line_some : (r n : ℕ) → (r ≡ 0 → ⊥) → n + 1 ≡ line_of r n
line_some zero n h = absurd (h refl)
line_some (suc r) n h = refl

-- every line is accepted, the steps are those that the lines say, and the number is 0
pub record Through (K : Table) (s : State) (es : List Entry) : Type 0 where
  pub lines : lines_done K s es ≡ length es
  pub steps : steps_in es ≡ steps_of K s es
  pub number : stop_on K s es ≡ 0

-- behind the accepted lines, which say the steps, stands a line that is refused in the state that they reach, and the number is its refusal
pub record StoppedAt (K : Table) (s : State) (es : List Entry) : Type 0 where
  pub before : List Entry
  pub line : Entry
  pub rest : List Entry
  pub parts : es ≡ before ++ line ∷ rest
  pub lines : lines_done K s es ≡ length before
  pub steps : steps_in before ≡ steps_of K s es
  pub number : stop_on K s es ≡ entry_refusal K (reached K s (steps_of K s es)) line
  pub refused : stop_on K s es ≡ 0 → ⊥

-- a log goes through whole, or stops at the first line that is refused
pub stop_exact : (K : Table) (s : State) (es : List Entry) → Through K s es ⊎ StoppedAt K s es
unfolding steps_of lines_done stop_on steps_in reached entry_refusal
stop_exact K s [] = inl (record { lines = refl; steps = refl; number = refl })
stop_exact K s (step x ∷ es) = go (accepted (refusal K s x)) refl (stop_exact K (next K s x) es)
  where
    go : (b : Bool) → accepted (refusal K s x) ≡ b → Through K (next K s x) es ⊎ StoppedAt K (next K s x) es → Through K s (step x ∷ es) ⊎ StoppedAt K s (step x ∷ es)
    go true e (inl h) = inl (record { lines = rw e (ap suc h.lines); steps = rw e (ap (λ l. x ∷ l) h.steps); number = rw e h.number })
    go true e (inr h) = inr (record {
      before = step x ∷ h.before;
      line = h.line;
      rest = h.rest;
      parts = ap (λ l. step x ∷ l) h.parts;
      lines = rw e (ap suc h.lines);
      steps = rw e (ap (λ l. x ∷ l) h.steps);
      number = rw e h.number;
      refused = rw e h.refused;
    })
    go false e h = inr (record { before = []; line = step x; rest = es; parts = refl; lines = rw e refl; steps = rw e refl; number = rw e refl; refused = rw e (eqb-false (refusal K s x) 0 e) })
stop_exact K s (row f ∷ es) = go (accepted (f s)) refl (stop_exact K s es)
  where
    go : (b : Bool) → accepted (f s) ≡ b → Through K s es ⊎ StoppedAt K s es → Through K s (row f ∷ es) ⊎ StoppedAt K s (row f ∷ es)
    go true e (inl h) = inl (record { lines = rw e (ap suc h.lines); steps = rw e h.steps; number = rw e h.number })
    go true e (inr h) = inr (record {
      before = row f ∷ h.before;
      line = h.line;
      rest = h.rest;
      parts = ap (λ l. row f ∷ l) h.parts;
      lines = rw e (ap suc h.lines);
      steps = rw e h.steps;
      number = rw e h.number;
      refused = rw e h.refused;
    })
    go false e h = inr (record { before = []; line = row f; rest = es; parts = refl; lines = rw e refl; steps = rw e refl; number = rw e refl; refused = rw e (eqb-false (f s) 0 e) })
stop_exact K s (neither ∷ es) = inr (record { before = []; line = neither; rest = es; parts = refl; lines = refl; steps = refl; number = refl; refused = λ e. omega arith })
