-- What the lines of a log leave to those that follow: a sound state, and counts that grew by no more than there are bytes.
use Prim.Native.Nat.{ℕ, suc, ◌+◌, ◌*◌, ◌≤◌}
use mathlib.Core.Bool.{false}
use mathlib.Core.List.{List, [], ◌∷◌}
use mathlib.Core.Path.{◌≡◌, refl, ap}
use native.Mathlib.Omega.{arith}
use lib.Dec.{eqb, leb}
use lib.ListN.{length, length-append}
use borrow.Author.Tests.{eqb-true}
use Rattle.std.specs.Prelude.{Option, Some, None}
use Rattle.text.specs.Parts.{split_on, join_on}
use Rattle.text.proofs.Picks.{cases}
use Rattle.text.proofs.Parts.{join_split}
use Rattle.model.specs.Tests.{accepted}
use Rattle.model.specs.Tables.{Table}
use Rattle.model.specs.Rules.{refusal, next}
use Rattle.model.specs.Logs.{is_wait}
use Rattle.model.specs.Cycles.{Verdict, none, kept, dropped, verdict, managing}
use Rattle.model.specs.declared.State.{State}
use Rattle.model.specs.declared.Step.{Step}
use Rattle.model.proofs.Formed.{Formed}
use Rattle.model.proofs.Soundness.{Sound}
use Rattle.model.proofs.StepsKeep.{step_keeps}
use Rattle.logs.specs.Lines.{set_digits, read_step}
use Rattle.saved.specs.Rows.{begins_row}
use Rattle.entries.specs.Entries.{row_state, row_number, row_refusal, resumed}
use Rattle.entries.proofs.Owning.{RowLaws}
use Rattle.report.specs.Rows.{cycle_of, cycle_text}
use Rattle.tally.specs.Tallies.{counted, tallied, lines_of, after_row, began, Roomy}
use Rattle.tally.specs.declared.Tally.{Tally}
use Rattle.tally.proofs.Tallying.{opens_most, since_most, verdict_most}
use Rattle.engine.specs.Play.{Played, on_verdict, on_line, played, is_row}

-- each count grew by n at most
record Grown (n : ℕ) (c d : Tally) : Type 0 where
  lines : d.steps + d.rows ≤ c.steps + c.rows + n
  opened : d.opened ≤ c.opened + n
  kept : d.kept ≤ c.kept + n
  dropped : d.dropped ≤ c.dropped + n
  since : d.since ≤ c.since + n

-- so that there is room for more where there was room for both
grown_roomy : {k n m : ℕ} {c d : Tally} → Grown k c d → k ≤ n → Roomy c (n + m) → Roomy d m
grown_roomy h l r = record {
  lines = omega (arith, h.lines, r.lines);
  opened = omega (arith, h.opened, r.opened);
  kept = omega (arith, h.kept, r.kept);
  dropped = omega (arith, h.dropped, r.dropped);
  since = omega (arith, h.since, r.since);
}

-- nothing grew
grown_none : (n : ℕ) (c : Tally) → Grown n c c
grown_none n c = record { lines = omega arith; opened = omega arith; kept = omega arith; dropped = omega arith; since = omega arith }

-- a line of n bytes with its newline, and those behind it
grown_more : {n m : ℕ} {b c d : Tally} → Grown (suc n) b c → Grown m c d → Grown (n + suc m) b d
grown_more g h = record {
  lines = omega (arith, g.lines, h.lines);
  opened = omega (arith, g.opened, h.opened);
  kept = omega (arith, g.kept, h.kept);
  dropped = omega (arith, g.dropped, h.dropped);
  since = omega (arith, g.since, h.since);
}

-- a step adds one at most to each
grown_step : (n : ℕ) (x : Step) (v : Verdict) (c : Tally) → Grown (suc n) c (counted x v c)
grown_step n x v c =
    let h = opens_most x in
    let k = verdict_most v in
    record { lines = omega arith; opened = omega arith; kept = omega arith; dropped = omega arith; since = omega (arith, since_most (is_wait x) c.since) }

-- a row counts as a line; on line 1 it opens the cycles of the tasks that manage in it, for each of which it has bytes
grown_row : (n : ℕ) (c : Tally) → Grown (suc n) c (after_row c)
grown_row n c = record { lines = omega arith; opened = omega arith; kept = omega arith; dropped = omega arith; since = omega arith }

grown_began : (K : Table) (s : State) (n : ℕ) (c : Tally) → 39 * managing K s ≤ n → Grown (suc n) c (began K s)
unfolding began
grown_began K s n c h = record { lines = omega arith; opened = omega arith; kept = omega arith; dropped = omega arith; since = omega arith }

-- what is left where a log stopped: a sound state, such counts, and no row that is still to be taken
record Leaves (K : Table) (n : ℕ) (c : Tally) (p : Played) : Type 0 where
  sound : Sound K p.state
  grown : Grown n c p.tally
  whole : is_row p.stop ≡ false

-- behind a line of n bytes
leaves_more : {K : Table} {n m : ℕ} {c d : Tally} {p : Played} → Grown (suc n) c d → Leaves K m d p → Leaves K (n + suc m) c p
leaves_more g h = record { sound = h.sound; grown = grown_more g h.grown; whole = h.whole }

module _ (K : Table) (F : Formed K) (R : RowLaws K) where
  -- an accepted step, told or without room
  on_verdict_lem : (v : Verdict) (n m : ℕ) (s : State) (c d : Tally) (room : ℕ) (rest : List (List ℕ)) (go : ℕ → Played)
      → Sound K s → Grown (suc n) c d → ((k : ℕ) → Leaves K m d (go k)) → Leaves K (n + suc m) c (on_verdict v s d room rest go)
  on_verdict_lem none n m s c d room rest go S g h = leaves_more g (h room)
  on_verdict_lem (kept r) n m s c d room rest go S g h =
      cases (leb (length (cycle_text (cycle_of r))) room)
      (λ y. rw y (record { sound = (h _).sound; grown = grown_more g (h _).grown; whole = (h _).whole }))
      (λ y. rw y (record { sound = S; grown = grown_more g (grown_none m d); whole = refl }))
  on_verdict_lem dropped n m s c d room rest go S g h = leaves_more g (h room)

  -- a row leaves a sound state, whether it sets it, equals it or is refused
  row_leaves : (s : State) → Sound K s → (c : Tally) (p : List ℕ) → Sound K (resumed K s c p).state × Grown (suc (length p)) c (resumed K s c p).tally
  unfolding resumed
  row_leaves s S c p =
      cases (eqb (lines_of c) 0)
      (λ f. rw f
      (cases (accepted (row_number K p))
      (λ a. rw a (R.sound p a, grown_began K (row_state K p) (length p) c (R.wide p a)))
      (λ a. rw a (S, grown_none (suc (length p)) c))))
      (λ f. rw f
      (cases (accepted (row_refusal K s p))
      (λ a. rw a (S, grown_row (length p) c))
      (λ a. rw a (S, grown_none (suc (length p)) c))))

  -- a line of p's bytes and its newline
  on_line_lem : (l : Option Step) (m : ℕ) (s : State) (c : Tally) (room : ℕ) (p : List ℕ) (here rest : List (List ℕ)) (go : State → Tally → ℕ → Played) → Sound K s
      → ((w : State) (d : Tally) (k : ℕ) → Sound K w → Leaves K m d (go w d k)) → Leaves K (length p + suc m) c (on_line K s c room p l here rest go)
  on_line_lem None m s c room p here rest go S h =
      let u = resumed K s c p in
      let r = row_leaves s S c p in
      cases (begins_row p)
      (λ b. rw b
      (cases (accepted u.number)
      (λ y. rw y (leaves_more r.1 (h u.state u.tally room r.0)))
      (λ y. rw y (record { sound = S; grown = grown_none (length p + suc m) c; whole = refl }))))
      (λ b. rw b (record { sound = S; grown = grown_none (length p + suc m) c; whole = refl }))
  on_line_lem (Some x) m s c room p here rest go S h =
      cases (accepted (refusal K s x))
      (λ y.
      let S' = step_keeps K F s S x (eqb-true _ _ y) in
      rw y
      (on_verdict_lem (verdict K s x) (length p) m (next K s x) c (tallied K s x c) room rest _ S' (grown_step (length p) x (verdict K s x) c)
      (λ k. h (next K s x) (tallied K s x c) k S')))
      (λ y. rw y (record { sound = S; grown = grown_none (length p + suc m) c; whole = refl }))

  -- all lines: each count grew by no more than there are bytes
  leaves : (ps : List (List ℕ)) (s : State) (c : Tally) (room : ℕ) → Sound K s → Leaves K (length (join_on 10 ps)) c (played K s c room ps)
  unfolding played
  leaves [] s c room S = record { sound = S; grown = grown_none 0 c; whole = refl }
  leaves ([] ∷ []) s c room S = record { sound = S; grown = grown_none 0 c; whole = refl }
  leaves ((b ∷ p) ∷ []) s c room S = record { sound = S; grown = grown_none (length (b ∷ p)) c; whole = refl }
  leaves (p ∷ q ∷ ps) s c room S =
      rw (length-append p (10 ∷ join_on 10 (q ∷ ps)))
      (on_line_lem (read_step set_digits p) (length (join_on 10 (q ∷ ps))) s c room p (p ∷ q ∷ ps) (q ∷ ps) _ S (λ w d k. leaves (q ∷ ps) w d k))

module _ (K : Table) (F : Formed K) (R : RowLaws K) (s : State) (S : Sound K s) (c : Tally) (room : ℕ) (log : List ℕ) where
  -- what lines leave behind them is sound
  pub played_sound : Sound K (played K s c room (split_on 10 log)).state
  played_sound = (leaves K F R (split_on 10 log) s c room S).sound

  -- no row stops them: it is taken, or refused
  pub played_whole : is_row (played K s c room (split_on 10 log)).stop ≡ false
  played_whole = (leaves K F R (split_on 10 log) s c room S).whole

  -- a count that has room for a log's bytes, and one more, has room for what follows
  pub played_roomy : (n m : ℕ) → length log ≤ n → Roomy c (n + 1 + m) → Roomy (played K s c room (split_on 10 log)).tally m
  played_roomy n m h r = grown_roomy (leaves K F R (split_on 10 log) s c room S).grown (omega (arith, ap length (join_split 10 log))) r
