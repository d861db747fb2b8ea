-- What is still to be told of a log, from a state and a tally on: the rows of the cycles that will be kept, and the `sum` row. Where the log
-- has no line before, its first line may be a `state` row that sets both.
use Prim.Native.Nat.{ℕ, suc, ◌+◌, max}
use mathlib.Core.Bool.{Bool, true, false, cond}
use mathlib.Core.List.{List, [], ◌∷◌, ◌++◌, append_assoc}
use mathlib.Core.Path.{◌≡◌, refl, sym, ap, ◌∙◌}
use native.Mathlib.Omega.{arith}
use lib.ListN.{length}
use lib.Dec.{eqb}
use borrow.Author.Tests.{ne_eqb}
use Rattle.std.specs.Prelude.{Option, Some, None}
use Rattle.text.specs.Parts.{pick, split_on}
use Rattle.text.proofs.Picks.{cases, false_true}
use Rattle.model.specs.Tests.{◌and◌, accepted}
use Rattle.model.specs.Tables.{Table}
use Rattle.model.specs.States.{fresh}
use Rattle.model.specs.Rules.{refusal, next}
use Rattle.model.specs.Logs.{reached, is_wait, most}
use Rattle.model.specs.Cycles.{KeptRow, SumRow, Verdict, none, kept, dropped, verdict, with_kept, kept_in, drops, dropped_in, opened_in, opens, managing, Entry, step, row, neither, steps_of, lines_done, stop_on, line_of, report_of, report}
use Rattle.model.specs.declared.State.{State}
use Rattle.model.specs.declared.Step.{Step}
use Rattle.model.proofs.Balance.{fresh_managing}
use Rattle.logs.specs.Lines.{set_digits, read_step}
use Rattle.logs.proofs.Shapes.{no_step_lem}
use Rattle.saved.specs.Rows.{begins_row}
use Rattle.entries.specs.Entries.{row_state, row_number, row_refusal, entry_by, entries_in, sets, start_of, resumed}
use Rattle.entries.proofs.Owning.{RowLaws}
use Rattle.report.specs.Rows.{head_text, rows_text, sum_text, kept_text}
use Rattle.tally.specs.Tallies.{no_tally, keeps_one, tallied, lines_of, after_row, began, sum_of}
use Rattle.tally.specs.declared.Tally.{Tally}
use Rattle.engine.specs.Play.{pieces}
use Rattle.judging.specs.Report.{log_text}

-- the `sum` row once these steps are done, with so many lines accepted and this refusal behind them
abbrev pub sum_after : Table → State → Tally → List Step → ℕ → ℕ → SumRow
sum_after K s c xs n r = record {
  steps = c.steps + length xs;
  date = (reached K s xs).date;
  opened = c.opened + opened_in xs;
  kept = c.kept + length (kept_in K s xs);
  dropped = c.dropped + dropped_in K s xs;
  managing = managing K (reached K s xs);
  most = max c.most (most c.since xs);
  refusal = r;
  line = line_of r (lines_of c + n);
}

-- what is to be told of these lines
abbrev pub tell_lines : Table → State → Tally → List Entry → List ℕ
tell_lines K s c es = rows_text (kept_in K s (steps_of K s es)) ++ sum_text (sum_after K s c (steps_of K s es) (lines_done K s es) (stop_on K s es))

-- a log that begins at a state: "managing tasks at the start count as opened"
abbrev pub start_tally : Table → State → Tally
start_tally K s = record { steps = 0; rows = 0; opened = managing K s; kept = 0; dropped = 0; since = 0; most = 0 }

-- the state and the tally that these lines are told from: a row that sets them does so on line 1
abbrev pub start_at : Table → State → Tally → List (List ℕ) → State
start_at K s c [] = s
start_at K s c (p ∷ []) = s
start_at K s c (p ∷ q ∷ ps) = pick (eqb (lines_of c) 0 and sets K p) (row_state K p) s

abbrev pub tally_at : Table → Tally → List (List ℕ) → Tally
tally_at K c [] = c
tally_at K c (p ∷ []) = c
tally_at K c (p ∷ q ∷ ps) = pick (eqb (lines_of c) 0 and sets K p) (start_tally K (row_state K p)) c

unfoldable pub tell : Table → State → Tally → List (List ℕ) → List ℕ
tell K s c ps = tell_lines K (start_at K s c ps) (tally_at K c ps) (entries_in K ps)

-- the counts grow as the steps are counted one by one
pub kept_more : (v : Verdict) (n : ℕ) (rs : List KeptRow) → n + length (with_kept v rs) ≡ n + keeps_one v + length rs
kept_more none n rs = omega arith
kept_more (kept r) n rs = omega arith
kept_more dropped n rs = omega arith

stretch : (b : Bool) (m n : ℕ) (xs : List Step)
    → max m (cond b (max n (most 0 xs)) (most (n + 1) xs)) ≡ max (pick b (max m n) m) (most (pick b 0 (n + 1)) xs)
stretch true m n xs = omega arith
stretch false m n xs = refl

-- before any line, with one step more, and with one row more
sum_none : (K : Table) (s : State) (c : Tally) (r : ℕ) → sum_after K s c [] 0 r ≡ sum_of K s c r
unfolding opened_in kept_in dropped_in most reached
sum_none K s c r = let a : (k : ℕ) → k + 0 ≡ k = λ k. omega arith in simp a

sum_more : (K : Table) (s : State) (c : Tally) (x : Step) (xs : List Step) (n r : ℕ) → sum_after K s c (x ∷ xs) (suc n) r ≡ sum_after K (next K s x) (tallied K s x c) xs n r
unfolding opened_in kept_in dropped_in most reached
sum_more K s c x xs n r =
    let a : c.steps + length (x ∷ xs) ≡ c.steps + 1 + length xs = omega arith in
    let b : c.opened + (opens x + opened_in xs) ≡ c.opened + opens x + opened_in xs = omega arith in
    let d : c.dropped + (drops (verdict K s x) + dropped_in K (next K s x) xs) ≡ c.dropped + drops (verdict K s x) + dropped_in K (next K s x) xs = omega arith in
    let e : c.steps + c.rows + suc n ≡ c.steps + 1 + c.rows + n = omega arith in
    rw (a, b, d, e, kept_more (verdict K s x) c.kept (kept_in K (next K s x) xs), stretch (is_wait x) c.most c.since xs)

sum_row : (K : Table) (s : State) (c : Tally) (xs : List Step) (n r : ℕ) → sum_after K s c xs (suc n) r ≡ sum_after K s (after_row c) xs n r
sum_row K s c xs n r = let e : c.steps + c.rows + suc n ≡ c.steps + (c.rows + 1) + n = omega arith in rw e

-- the row that a verdict gives
abbrev pub verdict_text : Verdict → List ℕ
verdict_text none = []
verdict_text (kept r) = kept_text r
verdict_text dropped = []

pub rows_more : (v : Verdict) (rs : List KeptRow) → rows_text (with_kept v rs) ≡ verdict_text v ++ rows_text rs
unfolding rows_text
rows_more none rs = refl
rows_more (kept r) rs = refl
rows_more dropped rs = refl

-- what is told of no line, of a line that says nothing, of a refused step and a refused row, of an accepted row and an accepted step
tell_none : (K : Table) (s : State) (c : Tally) → tell_lines K s c [] ≡ sum_text (sum_of K s c 0)
unfolding steps_of lines_done stop_on kept_in rows_text
tell_none K s c = ap sum_text (sum_none K s c 0)

tell_bad : (K : Table) (s : State) (c : Tally) (es : List Entry) → tell_lines K s c (neither ∷ es) ≡ sum_text (sum_of K s c 11)
unfolding steps_of lines_done stop_on kept_in rows_text
tell_bad K s c es = ap sum_text (sum_none K s c 11)

tell_refused : (K : Table) (s : State) (c : Tally) (x : Step) (es : List Entry) → accepted (refusal K s x) ≡ false
    → tell_lines K s c (step x ∷ es) ≡ sum_text (sum_of K s c (refusal K s x))
unfolding steps_of lines_done stop_on kept_in rows_text
tell_refused K s c x es e = rw e (ap sum_text (sum_none K s c (refusal K s x)))

tell_differs : (K : Table) (s : State) (c : Tally) (f : State → ℕ) (es : List Entry) → accepted (f s) ≡ false
    → tell_lines K s c (row f ∷ es) ≡ sum_text (sum_of K s c (f s))
unfolding steps_of lines_done stop_on kept_in rows_text
tell_differs K s c f es e = rw e (ap sum_text (sum_none K s c (f s)))

tell_equals : (K : Table) (s : State) (c : Tally) (f : State → ℕ) (es : List Entry) → accepted (f s) ≡ true
    → tell_lines K s c (row f ∷ es) ≡ tell_lines K s (after_row c) es
unfolding steps_of lines_done stop_on
tell_equals K s c f es e = rw e (ap (λ r. rows_text (kept_in K s (steps_of K s es)) ++ sum_text r) (sum_row K s c (steps_of K s es) (lines_done K s es) (stop_on K s es)))

steps_more : (K : Table) (s : State) (c : Tally) (x : Step) (xs : List Step) (n r : ℕ)
    → rows_text (kept_in K s (x ∷ xs)) ++ sum_text (sum_after K s c (x ∷ xs) (suc n) r)
    ≡ verdict_text (verdict K s x) ++ (rows_text (kept_in K (next K s x) xs) ++ sum_text (sum_after K (next K s x) (tallied K s x c) xs n r))
unfolding kept_in
steps_more K s c x xs n r =
    let v = verdict K s x in
    let rs = kept_in K (next K s x) xs in
    ap (λ l. l ++ sum_text (sum_after K s c (x ∷ xs) (suc n) r)) (rows_more v rs)
    ∙ append_assoc (verdict_text v) (rows_text rs) (sum_text (sum_after K s c (x ∷ xs) (suc n) r))
    ∙ ap (λ z. verdict_text v ++ (rows_text rs ++ sum_text z)) (sum_more K s c x xs n r)

tell_accepted : (K : Table) (s : State) (c : Tally) (x : Step) (es : List Entry) → accepted (refusal K s x) ≡ true
    → tell_lines K s c (step x ∷ es) ≡ verdict_text (verdict K s x) ++ tell_lines K (next K s x) (tallied K s x c) es
unfolding steps_of lines_done stop_on
tell_accepted K s c x es e = rw e (steps_more K s c x (steps_of K (next K s x) es) (lines_done K (next K s x) es) (stop_on K (next K s x) es))

module _ (K : Table) (s : State) (c : Tally) where
  -- behind the last newline: nothing, or a line without newline
  pub tell_over : tell K s c [] ≡ sum_text (sum_of K s c 0)
  unfolding tell entries_in
  tell_over = tell_none K s c

  pub tell_end : tell K s c ([] ∷ []) ≡ sum_text (sum_of K s c 0)
  unfolding tell entries_in
  tell_end = tell_none K s c

  pub tell_cut : (b : ℕ) (p : List ℕ) → tell K s c ((b ∷ p) ∷ []) ≡ sum_text (sum_of K s c 11)
  unfolding tell entries_in
  tell_cut b p = tell_bad K s c []

  -- behind a line no row sets anything
  tell_later : (ps : List (List ℕ)) → eqb (lines_of c) 0 ≡ false → tell K s c ps ≡ tell_lines K s c (entries_in K ps)
  unfolding tell
  tell_later [] e = refl
  tell_later (p ∷ []) e = refl
  tell_later (p ∷ q ∷ ps) e = rw e

-- what the first line says
first_entry : (K : Table) (l : Option Step) (p q : List ℕ) (ps : List (List ℕ)) → read_step set_digits p ≡ l → entries_in K (p ∷ q ∷ ps) ≡ entry_by K p l ∷ entries_in K (q ∷ ps)
unfolding entries_in
first_entry K l p q ps e = ap (λ m. entry_by K p m ∷ entries_in K (q ∷ ps)) e

pub row_entry : (K : Table) (p q : List ℕ) (ps : List (List ℕ)) → read_step set_digits p ≡ None → begins_row p ≡ true → entries_in K (p ∷ q ∷ ps) ≡ row (λ s. row_refusal K s p) ∷ entries_in K (q ∷ ps)
unfolding entry_by
row_entry K p q ps e b = first_entry K None p q ps e ∙ rw b

-- a row that does not read, or is not sound, is refused with that number in every state
number_first : (K : Table) (s : State) (p : List ℕ) → accepted (row_number K p) ≡ false → row_refusal K s p ≡ row_number K p
unfolding row_refusal
number_first K s p a = rw a

-- a test and one that fails
and_false : (a b : Bool) → b ≡ false → a and b ≡ false
and_false true b e = e
and_false false b e = refl

-- what is told of a log whose first line is p, by what it says
module _ (K : Table) (R : RowLaws K) (s : State) (c : Tally) (p q : List ℕ) (ps : List (List ℕ)) where
  -- it sets nothing
  plain : eqb (lines_of c) 0 and sets K p ≡ false → (e : Entry) → entries_in K (p ∷ q ∷ ps) ≡ e ∷ entries_in K (q ∷ ps) → tell K s c (p ∷ q ∷ ps) ≡ tell_lines K s c (e ∷ entries_in K (q ∷ ps))
  unfolding tell
  plain f e u = rw f (ap (tell_lines K s c) u)

  module _ (x : Step) (e : read_step set_digits p ≡ Some x) where
    said : tell K s c (p ∷ q ∷ ps) ≡ tell_lines K s c (step x ∷ entries_in K (q ∷ ps))
    unfolding entry_by
    said =
        let b : sets K p ≡ false = cases (begins_row p) (λ b. absurd (no_step_lem (sym (R.no_step p b) ∙ e))) (λ b. rw b) in
        plain (and_false (eqb (lines_of c) 0) (sets K p) b) (step x) (first_entry K (Some x) p q ps e)

    -- a refused step
    pub step_refused : accepted (refusal K s x) ≡ false → tell K s c (p ∷ q ∷ ps) ≡ sum_text (sum_of K s c (refusal K s x))
    step_refused h = said ∙ tell_refused K s c x (entries_in K (q ∷ ps)) h

    -- an accepted one
    pub step_accepted : accepted (refusal K s x) ≡ true → tell K s c (p ∷ q ∷ ps) ≡ verdict_text (verdict K s x) ++ tell K (next K s x) (tallied K s x c) (q ∷ ps)
    step_accepted h =
        let n : eqb (c.steps + 1 + c.rows) 0 ≡ false = ne_eqb (c.steps + 1 + c.rows) 0 (λ z. omega arith) in
        said ∙ tell_accepted K s c x (entries_in K (q ∷ ps)) h
        ∙ ap (λ l. verdict_text (verdict K s x) ++ l) (sym (tell_later K (next K s x) (tallied K s x c) (q ∷ ps) n))

  module _ (e : read_step set_digits p ≡ None) where
    -- a line that is neither step nor row
    pub line_bad : begins_row p ≡ false → tell K s c (p ∷ q ∷ ps) ≡ sum_text (sum_of K s c 11)
    unfolding entry_by
    line_bad b = plain (and_false (eqb (lines_of c) 0) (sets K p) (rw b)) neither (first_entry K None p q ps e ∙ rw b) ∙ tell_bad K s c (entries_in K (q ∷ ps))

    module _ (b : begins_row p ≡ true) where
      -- a row that sets nothing is refused with its number
      differs : (n : ℕ) → row_refusal K s p ≡ n → accepted n ≡ false → eqb (lines_of c) 0 and sets K p ≡ false → tell K s c (p ∷ q ∷ ps) ≡ sum_text (sum_of K s c n)
      differs n r h f =
          plain f (row (λ z. row_refusal K z p)) (row_entry K p q ps e b)
          ∙ tell_differs K s c (λ z. row_refusal K z p) (entries_in K (q ∷ ps)) (ap accepted r ∙ h)
          ∙ ap (λ m. sum_text (sum_of K s c m)) r

      -- or equals the state
      equals : accepted (row_refusal K s p) ≡ true → eqb (lines_of c) 0 ≡ false → tell K s c (p ∷ q ∷ ps) ≡ tell K s (after_row c) (q ∷ ps)
      equals h f =
          let n : eqb (c.steps + (c.rows + 1)) 0 ≡ false = ne_eqb (c.steps + (c.rows + 1)) 0 (λ z. omega arith) in
          plain (rw f) (row (λ z. row_refusal K z p)) (row_entry K p q ps e b)
          ∙ tell_equals K s c (λ z. row_refusal K z p) (entries_in K (q ∷ ps)) h
          ∙ sym (tell_later K s (after_row c) (q ∷ ps) n)

      -- one that sets the state
      begins : eqb (lines_of c) 0 ≡ true → accepted (row_number K p) ≡ true → tell K s c (p ∷ q ∷ ps) ≡ tell K (row_state K p) (began K (row_state K p)) (q ∷ ps)
      unfolding tell began
      begins f a =
          let z = row_state K p in
          let here : start_at K s c (p ∷ q ∷ ps) ≡ z = rw (f, b, a) in
          let now : tally_at K c (p ∷ q ∷ ps) ≡ start_tally K z = rw (f, b, a) in
          ap (λ w. tell_lines K w (tally_at K c (p ∷ q ∷ ps)) (entries_in K (p ∷ q ∷ ps))) here
          ∙ ap (λ d. tell_lines K z d (entries_in K (p ∷ q ∷ ps))) now
          ∙ ap (tell_lines K z (start_tally K z)) (row_entry K p q ps e b)
          ∙ tell_equals K z (start_tally K z) (λ w. row_refusal K w p) (entries_in K (q ∷ ps)) (ap accepted (R.own p a))
          ∙ sym (tell_later K z (began K z) (q ∷ ps) refl)

      -- a row that is refused
      pub row_refused : accepted (resumed K s c p).number ≡ false → tell K s c (p ∷ q ∷ ps) ≡ sum_text (sum_of K s c (resumed K s c p).number)
      unfolding resumed
      row_refused =
          cases (eqb (lines_of c) 0)
          (λ f. rw f
          (cases (accepted (row_number K p))
          (λ a. rw a (λ h. absurd (false_true (sym h))))
          (λ a. rw a (λ h. differs (row_number K p) (number_first K s p a) h (rw (f, b, a))))))
          (λ f. rw f
          (cases (accepted (row_refusal K s p))
          (λ a. rw a (λ h. absurd (false_true (sym h))))
          (λ a. rw a (λ h. differs (row_refusal K s p) refl h (rw f)))))

      -- one that is taken
      pub row_taken : accepted (resumed K s c p).number ≡ true → tell K s c (p ∷ q ∷ ps) ≡ tell K (resumed K s c p).state (resumed K s c p).tally (q ∷ ps)
      unfolding resumed
      row_taken =
          cases (eqb (lines_of c) 0)
          (λ f. rw f
          (cases (accepted (row_number K p))
          (λ a. rw a (λ h. begins f a))
          (λ a. rw a (λ h. absurd (false_true (sym a ∙ h))))))
          (λ f. rw f
          (cases (accepted (row_refusal K s p))
          (λ a. rw a (λ h. equals a f))
          (λ a. rw a (λ h. absurd (false_true (sym a ∙ h))))))

-- the tally of a log's start, and its state
start_tally_lem : (K : Table) (ps : List (List ℕ)) → tally_at K no_tally ps ≡ start_tally K (start_of K ps)
unfolding start_of
start_tally_lem K [] = rw (fresh_managing K)
start_tally_lem K (p ∷ []) = rw (fresh_managing K)
start_tally_lem K (p ∷ q ∷ ps) = cases (sets K p) (λ e. rw e) (λ e. rw (e, fresh_managing K))

pub start_state : (K : Table) (ps : List (List ℕ)) → start_at K fresh no_tally ps ≡ start_of K ps
unfolding start_of
start_state K [] = refl
start_state K (p ∷ []) = refl
start_state K (p ∷ q ∷ ps) = refl

-- from the start of a log, with nothing else counted, the `sum` row is the report's
sum_start : (K : Table) (s : State) (xs : List Step) (n r : ℕ) → sum_after K s (start_tally K s) xs n r ≡ (report_of K s xs r n).sum
sum_start K s xs n r =
    let a : (k : ℕ) → 0 + k ≡ k = λ k. omega arith in
    let b : max 0 (most 0 xs) ≡ most 0 xs = omega arith in
    simp (a, b)

-- what is told of a whole log, from the state that it begins with
tell_start : (K : Table) (ps : List (List ℕ)) → tell K fresh no_tally ps ≡ tell_lines K (start_of K ps) (start_tally K (start_of K ps)) (entries_in K ps)
unfolding tell
tell_start K ps =
    ap (λ z. tell_lines K z (tally_at K no_tally ps) (entries_in K ps)) (start_state K ps)
    ∙ ap (λ d. tell_lines K (start_of K ps) d (entries_in K ps)) (start_tally_lem K ps)

-- the report on a log is the header and what is told of the whole log
pub log_text_lem : (K : Table) (log : List ℕ) → log_text K log ≡ head_text ++ tell K fresh no_tally (pieces log 0)
unfolding log_text report
log_text_lem K log =
    let ps = split_on 10 log in
    let z = start_of K ps in
    let es = entries_in K ps in
    ap (λ r. head_text ++ (rows_text (kept_in K z (steps_of K z es)) ++ sum_text r)) (sym (sum_start K z (steps_of K z es) (lines_done K z es) (stop_on K z es)))
    ∙ ap (λ l. head_text ++ l) (sym (tell_start K ps))
