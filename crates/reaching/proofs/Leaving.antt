-- Counts that have room for a log's bytes and for more have room for more behind the log.
use Prim.Native.Nat.{ℕ, suc, ◌+◌, ◌≤◌, ◌<◌}
use mathlib.Core.Bool.{true}
use mathlib.Core.List.{List, [], ◌∷◌}
use mathlib.Core.Path.{◌≡◌, refl, ap, subst}
use native.Mathlib.Omega.{arith}
use lib.Dec.{T, eqb}
use lib.ListN.{length, length-append}
use Rattle.std.specs.Prelude.{Option, Some, None}
use Rattle.text.specs.Parts.{split_on, join_on}
use Rattle.text.proofs.Picks.{cases}
use Rattle.text.proofs.Parts.{join_split}
use Rattle.model.specs.Tests.{accepted}
use Rattle.model.specs.Tables.{Table}
use Rattle.model.specs.Rows.{wellformed}
use Rattle.model.specs.Rules.{refusal, next}
use Rattle.model.specs.Cycles.{verdict}
use Rattle.model.specs.declared.State.{State}
use Rattle.model.specs.declared.Step.{Step}
use Rattle.model.specs.declared.Step.TheVariants.{Wait, Sm, OfTask, OfAct}
use Rattle.logs.specs.Lines.{set_digits, read_step}
use Rattle.saved.specs.Rows.{begins_row}
use Rattle.entries.specs.Entries.{row_state, row_number, row_refusal, resumed}
use Rattle.entries.proofs.Owning.{RowLaws, row_laws}
use Rattle.tally.specs.Tallies.{ruling_of, tallied, lines_of, began, Roomy}
use Rattle.tally.specs.declared.Tally.{Tally}
use Rattle.tally.proofs.Tallying.{wait_counts, sm_counts, step_counts, wait_roomy, sm_roomy, step_roomy, row_roomy}
use Rattle.judging.proofs.Hands.{less_roomy}
use Rattle.reaching.specs.Passing.{Passed, past_line, passed}

module _ (K : Table) (R : RowLaws K) where
  module _ (s : State) (c : Tally) (n : ℕ) (r : Roomy c n) (m : ℕ) where
    -- behind an accepted step
    step_leaves : (x : Step) → m < n → Roomy (tallied K s x c) m
    step_leaves (Wait d) h = subst (λ d. Roomy d m) (wait_counts K s c d) (wait_roomy c n r m h)
    step_leaves (Sm t a b) h = subst (λ d. Roomy d m) (sm_counts K s c t a b) (sm_roomy c n r m h)
    step_leaves (OfTask t k) h = subst (λ d. Roomy d m) (step_counts K s c (OfTask t k) refl refl) (step_roomy c n r m h (ruling_of (verdict K s (OfTask t k))))
    step_leaves (OfAct a k) h = subst (λ d. Roomy d m) (step_counts K s c (OfAct a k) refl refl) (step_roomy c n r m h (ruling_of (verdict K s (OfAct a k))))

    -- behind a row that sets the state: it has bytes for each cycle that it opens
    began_leaves : (p : List ℕ) → accepted (row_number K p) ≡ true → length p + m < n → Roomy (began K (row_state K p)) m
    unfolding began
    began_leaves p a h =
        let w = R.wide p a in
        record {
          lines = omega (arith, r.lines);
          opened = omega (arith, r.opened);
          kept = omega (arith, r.kept);
          dropped = omega (arith, r.dropped);
          since = omega (arith, r.since);
        }

    -- behind any row that is taken
    row_leaves : (p : List ℕ) → length p + m < n → Roomy (resumed K s c p).tally m
    unfolding resumed
    row_leaves p h =
        cases (eqb (lines_of c) 0)
        (λ f. rw f (cases (accepted (row_number K p)) (λ a. rw a (began_leaves p a h)) (λ a. rw a less)))
        (λ f. rw f (cases (accepted (row_refusal K s p)) (λ a. rw a (row_roomy c n r m (omega arith))) (λ a. rw a less)))
      where
        less : Roomy c m
        less = less_roomy r (omega arith)

  -- a line with its newline
  on_line_lem : (l : Option Step) (s : State) (c : Tally) (p : List ℕ) (n m : ℕ) (go : State → Tally → Passed) → ((w : State) (d : Tally) → Roomy d (n + m) → Roomy (go w d).tally m)
      → Roomy c (length p + suc n + m) → Roomy (past_line K s c p l go).tally m
  on_line_lem None s c p n m go h r =
      let u = resumed K s c p in
      let less = less_roomy {m = m} r (omega arith) in
      cases (begins_row p)
      (λ b. rw b
      (cases (accepted u.number)
      (λ y. rw y (h u.state u.tally (row_leaves s c (length p + suc n + m) r (n + m) p (omega arith))))
      (λ y. rw y less)))
      (λ b. rw b less)
  on_line_lem (Some x) s c p n m go h r =
      cases (accepted (refusal K s x))
      (λ y. rw y (h (next K s x) (tallied K s x c) (step_leaves s c (length p + suc n + m) r (n + m) x (omega arith))))
      (λ y. rw y (less_roomy r (omega arith)))

  -- all lines
  lines_leave : (ps : List (List ℕ)) (s : State) (c : Tally) (m : ℕ) → Roomy c (length (join_on 10 ps) + m) → Roomy (passed K s c ps).tally m
  unfolding passed
  lines_leave [] s c m r = less_roomy r (omega arith)
  lines_leave ([] ∷ []) s c m r = less_roomy r (omega arith)
  lines_leave ((b ∷ p) ∷ []) s c m r = less_roomy r (omega arith)
  lines_leave (p ∷ q ∷ ps) s c m r =
      on_line_lem (read_step set_digits p) s c p (length (join_on 10 (q ∷ ps))) m _ (λ w d. lines_leave (q ∷ ps) w d m)
      (subst (λ n. Roomy c (n + m)) (length-append p (10 ∷ join_on 10 (q ∷ ps))) r)

-- a log
pub passed_roomy : (K : Table) → T (wellformed K) → (s : State) (c : Tally) (log : List ℕ) (n m : ℕ) → length log ≤ n → Roomy c (n + m) → Roomy (passed K s c (split_on 10 log)).tally m
passed_roomy K wf s c log n m h r = lines_leave K (row_laws K wf) (split_on 10 log) s c m (less_roomy r (omega (arith, ap length (join_split 10 log))))
