-- How long a report is at most: 202 bytes, and 75 for each 44 bytes of its log.
use Prim.Native.Nat.{ℕ, ◌+◌, ◌-◌, ◌*◌, ◌/◌, ◌≤◌, ◌<◌}
use mathlib.Core.Bool.{Bool, true, false, cond}
use mathlib.Core.List.{List, [], ◌∷◌}
use mathlib.Core.Path.{◌≡◌, refl, ap, ◌∙◌}
use native.Mathlib.Omega.{arith}
use lib.Dec.{T, leb, leb→le, eqb, eqb→eq}
use lib.ListN.{length, get_or, length-append}
use Rattle.std.specs.Prelude.{Option, Some, None}
use Rattle.text.specs.Parts.{split_on, join_on}
use Rattle.text.specs.Words.{word_in, word_at}
use Rattle.text.specs.Fields.{most_digits}
use Rattle.text.proofs.Picks.{cases}
use Rattle.text.proofs.Parts.{join_split}
use Rattle.text.proofs.Words.{word_read}
use Rattle.text.proofs.Numbers.{digits_read, digits_short, length_digits, width_within}
use Rattle.text.proofs.Sets.{set_length}
use Rattle.model.specs.Tests.{◌and◌, one, each, accepted}
use Rattle.model.specs.Limits.{most_tasks, most_ticks, ceiling}
use Rattle.model.specs.Tables.{Table}
use Rattle.model.specs.Rows.{wellformed}
use Rattle.model.specs.States.{fresh, task_at}
use Rattle.model.specs.Rules.{refusal, next}
use Rattle.model.specs.Logs.{all_accepted}
use Rattle.model.specs.Cycles.{KeptRow, SumRow, Verdict, none, kept, dropped, kept_row, keeps, verdict, is_fm, is_verdict, opens, opened_in, kept_in, drops, dropped_in, managing, steps_of, lines_done, stop_on}
use Rattle.model.specs.declared.State.{State}
use Rattle.model.specs.declared.TaskStep.TheVariants.{St, Fm}
use Rattle.model.specs.declared.Step.{Step}
use Rattle.model.specs.declared.Step.TheVariants.{Wait, Sm, OfTask, OfAct}
use Rattle.model.proofs.Balance.{balance_from, fresh_managing}
use Rattle.model.proofs.Tests.{T_true, true_T, and_r, and_both, each_at}
use Rattle.model.proofs.Formed.{Formed, formed}
use Rattle.model.proofs.Soundness.{Sound, start_sound, task_at_lem}
use Rattle.model.proofs.Accepted.{fm_goes}
use Rattle.model.proofs.StepsKeep.{step_keeps}
use Rattle.model.proofs.Verdicts.{verdict_at_fm}
use Rattle.model.proofs.Sums.{sum_bound}
use Rattle.model.proofs.Reports.{steps_accepted}
use Rattle.logs.specs.Lines.{step_words, set_digits, a_number, read_step}
use Rattle.logs.proofs.Words.{nine, nine_words}
use Rattle.logs.proofs.Shapes.{either, Shapes, shaped}
use Rattle.saved.specs.Rows.{begins_row}
use Rattle.entries.specs.Entries.{row_state, row_number, row_refusal, entry_by, entries_in, sets}
use Rattle.entries.proofs.Owning.{RowLaws}
use Rattle.tally.specs.Tallies.{no_tally, keeps_one, lines_of}
use Rattle.report.specs.Rows.{numbers_text, line_text, sum_word, kept_text, rows_text, sum_numbers, sum_text}
use Rattle.judging.specs.Report.{log_text, surely}
use Rattle.tally.specs.declared.Tally.{Tally}
use Rattle.judging.proofs.Telling.{sum_after, start_at, tally_at, tell, kept_more, verdict_text, rows_more, row_entry, log_text_lem}
use Rattle.report.proofs.Lines.{line_length, numbers_most, head_length}

-- a row's numbers are small enough for 75 bytes
record Small (r : KeptRow) : Type 0 where
  task : r.task < most_tasks
  cycle : r.cycle ≤ ceiling
  opened : r.opened ≤ ceiling
  closed : r.closed ≤ ceiling
  missed : r.missed ≤ ceiling
  longest : r.longest ≤ most_ticks

row_length : (r : KeptRow) → Small r → length (kept_text r) ≤ 75
unfolding line_text numbers_text
row_length r h =
    let a = digits_short r.task 2 (omega (arith, h.task)) (omega arith) in
    let b = digits_short r.cycle 13 (omega (arith, h.cycle)) (omega arith) in
    let c = digits_short r.opened 13 (omega (arith, h.opened)) (omega arith) in
    let d = digits_short r.closed 13 (omega (arith, h.closed)) (omega arith) in
    let e = digits_short r.missed 13 (omega (arith, h.missed)) (omega arith) in
    let f = digits_short r.longest 10 (omega (arith, h.longest)) (omega arith) in
    simp length-append (omega arith)

sum_length : (r : SumRow) → length (sum_text r) ≤ 193
sum_length r = omega (arith, line_length sum_word (sum_numbers r), numbers_most (sum_numbers r))

-- in a sound state the cycle of a task has such numbers
cycle_small : (K : Table) → Formed K → (s : State) → Sound K s → (t : ℕ) → t < K.ntasks → Small (kept_row s t)
cycle_small K F s S t h =
    let x = task_at_lem K s S t h in
    let counts = x.counts in
    let missed = x.missed in
    let opened = x.opened in
    let date = S.date in
    record { task = omega (arith, F.fits.0); cycle = omega arith; opened = omega arith; closed = date; missed = omega arith; longest = x.longest }

-- so the row that an accepted step gives has at most 75 bytes
step_row : (K : Table) → Formed K → (s : State) → Sound K s → (x : Step) → refusal K s x ≡ 0 → length (verdict_text (verdict K s x)) ≤ 75 * keeps_one (verdict K s x)
unfolding verdict refusal
step_row K F s S (Wait d) ok = omega arith
step_row K F s S (Sm t n r) ok = omega arith
step_row K F s S (OfTask t St) ok = omega arith
step_row K F s S (OfAct a k) ok = omega arith
step_row K F s S (OfTask t Fm) ok = go (keeps K (kept_row s t))
  where
    go : (b : Bool) → length (verdict_text (cond b (kept (kept_row s t)) dropped)) ≤ 75 * keeps_one (cond b (kept (kept_row s t)) dropped)
    go true = row_length (kept_row s t) (cycle_small K F s S t (fm_goes K s t ok).in_t)
    go false = omega arith

-- and the rows of accepted steps at most 75 each
rows_length : (K : Table) → Formed K → (xs : List Step) (s : State) → Sound K s → T (all_accepted K s xs) → length (rows_text (kept_in K s xs)) ≤ 75 * length (kept_in K s xs)
unfolding all_accepted kept_in rows_text
rows_length K F [] s S ok = omega arith
rows_length K F (x ∷ xs) s S ok =
    let now = and_both (accepted (refusal K s x)) _ ok in
    let acc : refusal K s x ≡ 0 = eqb→eq _ _ now.0 in
    let v = verdict K s x in
    let rs = kept_in K (next K s x) xs in
    rw (rows_more v rs) (omega (arith, length-append (verdict_text v) (rows_text rs), step_row K F s S x acc, kept_more v 0 rs, rows_length K F xs (next K s x) (step_keeps K F s S x acc) now.1))

-- how long the fields and the word of a step's line are
number_length : (p : List ℕ) (v : ℕ) → a_number p ≡ Some v → 1 ≤ length p
number_length p v u = omega (arith, ap length (digits_read most_digits p v u).0, length_digits v, (width_within v).0)

word_length : (w : List ℕ) (k : ℕ) → word_in step_words w ≡ Some k → 2 ≤ length w
unfolding each word_at
word_length w k u =
    let r = word_read step_words w k u in
    let e : get_or nine k [] ≡ w = rw nine_words at r.0 in
    let h : k < 9 = rw nine_words at r.1 in
    rw (← e) (leb→le _ _ (each_at (λ i. leb 2 (length (get_or nine i []))) 9 tt k h))

-- what a step takes at least: `sm` 39 bytes with its newline, `fm` 5
abbrev cost : Step → ℕ
cost x = 39 * opens x + 5 * one (is_fm x)

-- a word and its fields, with a tab before each, and the newline
costs : Shapes set_digits (λ s x. cost x ≤ length s + 1)
costs = record {
  one = λ w p k a i e.
      let n = length (join_on 9 (w ∷ p ∷ [])) + 1 in
      let h = word_length w k i in
      let l = number_length p a e in
      let five : 5 ≤ n = simp length-append (omega arith) in
      either (λ x. cost x ≤ n) (eqb k 0) _ _ (omega arith)
      (either (λ x. cost x ≤ n) (eqb k 1) _ _ (omega arith)
      (either (λ x. cost x ≤ n) (eqb k 4) _ _ (omega arith)
      (either (λ x. cost x ≤ n) (eqb k 6) _ _ (omega arith) five)));
  two = λ w p q k a b i e f. either (λ x. cost x ≤ length (join_on 9 (w ∷ p ∷ q ∷ [])) + 1) (eqb k 3) _ _ (omega arith) (omega arith);
  manager = λ w p q s k t n r i e f g.
      let h = word_length w k i in
      let l = number_length p t e in
      let m = set_length set_digits q n f in
      let o = set_length set_digits s r g in
      simp length-append (omega arith);
  leaving = λ w p q k a c i e f. omega arith;
}

-- what a verdict closes
closes_one : (v : Verdict) → keeps_one v + drops v ≡ one (is_verdict v)
closes_one none = refl
closes_one (kept r) = refl
closes_one dropped = refl

-- the bytes that some steps from a state on take at least
abbrev taken : Table → State → List Step → ℕ
taken K s xs = 39 * opened_in xs + 5 * (length (kept_in K s xs) + dropped_in K s xs)

-- the accepted steps of a log take no more bytes than it has
steps_cost : (K : Table) (ps : List (List ℕ)) (s : State) → taken K s (steps_of K s (entries_in K ps)) ≤ length (join_on 10 ps)
unfolding entries_in entry_by steps_of opened_in kept_in dropped_in
steps_cost K [] s = omega arith
steps_cost K ([] ∷ []) s = omega arith
steps_cost K ((b ∷ p) ∷ []) s = omega arith
steps_cost K (p ∷ q ∷ ps) s = rw length-append (go (read_step set_digits p) refl (λ w. steps_cost K (q ∷ ps) w))
  where
    more : (x : Step) (xs : List Step) → cost x ≤ length p + 1 → taken K (next K s x) xs ≤ length (join_on 10 (q ∷ ps))
        → taken K s (x ∷ xs) ≤ length p + length (10 ∷ join_on 10 (q ∷ ps))
    more x xs h l = omega (arith, kept_more (verdict K s x) 0 (kept_in K (next K s x) xs), closes_one (verdict K s x), ap one (verdict_at_fm K s x))

    go : (l : Option Step) → read_step set_digits p ≡ l → ((w : State) → taken K w (steps_of K w (entries_in K (q ∷ ps))) ≤ length (join_on 10 (q ∷ ps)))
        → taken K s (steps_of K s (entry_by K p l ∷ entries_in K (q ∷ ps))) ≤ length p + length (10 ∷ join_on 10 (q ∷ ps))
    go None e f =
        cases (begins_row p)
        (λ b. rw b (cases (accepted (row_refusal K s p)) (λ a. rw a (omega (arith, f s))) (λ a. rw a (omega arith))))
        (λ b. rw b (omega arith))
    go (Some x) e f =
        cases (accepted (refusal K s x))
        (λ a. rw a (more x (steps_of K (next K s x) (entries_in K (q ∷ ps))) (shaped costs x p e) (f (next K s x))))
        (λ a. rw a (omega arith))

-- the steps told of a log, from a state and a tally on
abbrev steps_at : Table → State → Tally → List (List ℕ) → List Step
steps_at K s c ps = steps_of K (start_at K s c ps) (entries_in K ps)

module _ (K : Table) (R : RowLaws K) where
  -- the tests of a row that sets the state
  set_by_lem : (c : Tally) (p : List ℕ) → eqb (lines_of c) 0 and sets K p ≡ true → (begins_row p ≡ true) × (accepted (row_number K p) ≡ true)
  set_by_lem c p e =
      let t = and_both (begins_row p) _ (and_r (eqb (lines_of c) 0) _ (true_T _ e)) in
      (T_true _ t.0, T_true _ t.1)

  -- a log is told from a sound state on: from the one before, or from the one that its first row sets
  pub start_sound_at : (s : State) → Sound K s → (c : Tally) (ps : List (List ℕ)) → Sound K (start_at K s c ps)
  start_sound_at s S c [] = S
  start_sound_at s S c (p ∷ []) = S
  start_sound_at s S c (p ∷ q ∷ ps) = cases (eqb (lines_of c) 0 and sets K p) (λ e. rw e (R.sound p (set_by_lem c p e).1)) (λ e. rw e S)

  -- that row takes 39 bytes for each task that manages in it
  row_cost : (p q : List ℕ) (ps : List (List ℕ)) → begins_row p ≡ true → accepted (row_number K p) ≡ true
      → 39 * managing K (row_state K p) + taken K (row_state K p) (steps_of K (row_state K p) (entries_in K (p ∷ q ∷ ps))) ≤ length (join_on 10 (p ∷ q ∷ ps))
  unfolding steps_of
  row_cost p q ps b a =
      let z = row_state K p in
      let e : steps_of K z (entries_in K (p ∷ q ∷ ps)) ≡ steps_of K z (entries_in K (q ∷ ps)) = ap (steps_of K z) (row_entry K p q ps (R.no_step p b) b) ∙ rw (R.own p a) in
      rw e (omega (arith, steps_cost K (q ∷ ps) z, R.wide p a, length-append p (10 ∷ join_on 10 (q ∷ ps))))

  -- so a log's bytes pay for its steps and for the tasks that manage where it begins, but for those that managed before it: their `sm` stands
  -- before it
  log_cost : (s : State) (c : Tally) (ps : List (List ℕ))
      → 39 * managing K (start_at K s c ps) + taken K (start_at K s c ps) (steps_at K s c ps) ≤ length (join_on 10 ps) + 39 * managing K s
  log_cost s c [] = omega (arith, steps_cost K [] s)
  log_cost s c (p ∷ []) = omega (arith, steps_cost K (p ∷ []) s)
  log_cost s c (p ∷ q ∷ ps) =
      cases (eqb (lines_of c) 0 and sets K p)
      (λ e. let t = set_by_lem c p e in rw e (omega (arith, row_cost p q ps t.0 t.1)))
      (λ e. rw e (omega (arith, steps_cost K (p ∷ q ∷ ps) s)))

-- what is told of a log from a sound state on: 193 bytes at most and 75 for each kept cycle
module _ (K : Table) (wf : T (wellformed K)) (R : RowLaws K) (s : State) (S : Sound K s) (c : Tally) (log : List ℕ) where
  abbrev rows_at : List KeptRow
  rows_at = kept_in K (start_at K s c (split_on 10 log)) (steps_at K s c (split_on 10 log))

  tell_length : length (tell K s c (split_on 10 log)) ≤ 193 + 75 * length rows_at
  unfolding tell
  tell_length =
      let ps = split_on 10 log in
      let z = start_at K s c ps in
      let es = entries_in K ps in
      let xs = steps_of K z es in
      let rows = rows_length K (formed K wf) xs z (start_sound_at K R s S c ps) (steps_accepted K z es) in
      let sum = sum_length (sum_after K z (tally_at K c ps) xs (lines_done K z es) (stop_on K z es)) in
      simp length-append (omega arith)

  -- a kept cycle takes 44 bytes of the log at least, but for the cycles that are open before it
  kept_cost : 44 * length rows_at ≤ length log + 39 * managing K s
  kept_cost =
      let ps = split_on 10 log in
      let z = start_at K s c ps in
      let es = entries_in K ps in
      let b = balance_from K (formed K wf) (steps_of K z es) z (start_sound_at K R s S c ps) (steps_accepted K z es) in
      omega (arith, log_cost K R s c ps, ap length (join_split 10 log))

  few_managing : managing K s ≤ most_tasks
  unfolding managing
  few_managing = omega (arith, sum_bound K.ntasks 1 (λ t. one (task_at s t).managing) (λ t h. one_most (task_at s t).managing), (formed K wf).fits.0)
    where
      one_most : (b : Bool) → one b ≤ 1
      one_most true = omega arith
      one_most false = omega arith

  pub tell_bound : length (tell K s c (split_on 10 log)) ≤ 193 + 75 * ((length log + 624) / 44)
  tell_bound = omega (arith, tell_length, kept_cost, few_managing)

module _ (K : Table) (wf : T (wellformed K)) (R : RowLaws K) (log : List ℕ) where
  -- the report has 202 bytes at most and 75 for each kept cycle, which takes 44 bytes of the log at least
  pub text_bound : length (log_text K log) ≤ 202 + 75 * (length log / 44)
  text_bound =
      let told = tell_length K wf R fresh (start_sound K) no_tally log in
      let cost = kept_cost K wf R fresh (start_sound K) no_tally log in
      rw (log_text_lem K log) (simp length-append (omega (arith, head_length, fresh_managing K)))

  -- a buffer that surely holds a report holds it
  pub surely_holds : (room : ℕ) → T (surely room (length log)) → length (log_text K log) ≤ room
  surely_holds room t =
      let both = and_both (leb 202 room) _ t in
      omega (arith, leb→le 202 room both.0, leb→le (length log / 44) ((room - 202) / 75) both.1, text_bound)
