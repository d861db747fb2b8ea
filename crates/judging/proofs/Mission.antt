-- What the report on an accepted table's text and any log says, in the words of documents 01 and 02, over the bytes of both. The log may begin
-- with a `state` row, and have such rows between its steps.
use Prim.Native.Nat.{ℕ, ◌+◌, ◌*◌, ◌/◌, ◌≤◌, ◌<◌}
use mathlib.Core.List.{List, [], ◌∷◌, ◌++◌}
use mathlib.Core.Logic.{⊎_elim}
use mathlib.Core.Path.{◌≡◌, refl, sym, subst}
use native.Mathlib.Omega.{arith}
use lib.Dec.{T}
use lib.ListN.{length}
use Rattle.text.specs.Parts.{split_on}
use Rattle.text.specs.declared.Set.{Set}
use Rattle.model.specs.Tables.{Table}
use Rattle.model.specs.Rows.{wellformed}
use Rattle.model.specs.States.{fresh, task_at}
use Rattle.model.specs.Rules.{next}
use Rattle.model.specs.Logs.{all_accepted, reached, most}
use Rattle.model.specs.Cycles.{KeptRow, Report, verdict, verdict_on, is_fm, is_verdict, opened_in, signals_in, stays_open, cycle_row, with_kept, kept_in, managing, Entry, steps_of, lines_done, stop_on, report}
use Rattle.model.specs.declared.State.{State}
use Rattle.model.specs.declared.TaskStep.TheVariants.{Fm}
use Rattle.model.specs.declared.Step.{Step}
use Rattle.model.specs.declared.Step.TheVariants.{Sm, OfTask}
use Rattle.model.proofs.Tests.{true_T}
use Rattle.model.proofs.Formed.{formed}
use Rattle.model.proofs.Soundness.{Sound, of_sound, start_sound}
use Rattle.model.proofs.StepsKeep.{reached_sound, parts_reached, parts_accepted}
use Rattle.model.proofs.Verdicts.{verdict_at_fm}
use Rattle.model.proofs.Signals.{stays_open_lem, cycle_told_from}
use Rattle.model.proofs.Demand.{DemandThree, demand_three_from}
use Rattle.model.proofs.Reports.{Through, StoppedAt, steps_accepted, report_balance, report_bound, line_some, stop_exact}
use Rattle.model.proofs.Cuts.{kept_append}
use Rattle.table.specs.Tables.{table_of}
use Rattle.table.specs.Texts.{read_table}
use Rattle.table.proofs.Trips.{read_wellformed}
use Rattle.entries.specs.Entries.{entries_in, start_of}
use Rattle.entries.proofs.Owning.{row_laws}
use Rattle.tally.specs.Tallies.{no_tally}
use Rattle.judging.specs.Report.{report_text, log_text, report_on}
use Rattle.judging.proofs.Telling.{start_state}
use Rattle.judging.proofs.Bounds.{start_sound_at, text_bound}

-- the table that a text says, what a log's lines say under it, the state that the log begins with, and the steps and lines accepted of them
abbrev pub table_said : List ℕ → Table
table_said table = table_of (read_table table).table

abbrev pub entries_said : List ℕ → List ℕ → List Entry
entries_said table log = entries_in (table_said table) (split_on 10 log)

abbrev pub start_said : List ℕ → List ℕ → State
start_said table log = start_of (table_said table) (split_on 10 log)

abbrev pub steps_done : List ℕ → List ℕ → List Step
steps_done table log = steps_of (table_said table) (start_said table log) (entries_said table log)

abbrev pub lines_taken : List ℕ → List ℕ → ℕ
lines_taken table log = lines_done (table_said table) (start_said table log) (entries_said table log)

abbrev pub judged : List ℕ → List ℕ → Report
judged table log = report (table_said table) (start_said table log) (entries_said table log)

-- a cycle of t that is open in s, closed by an `fm` in z, with n signals between
abbrev pub carried_row : State → State → ℕ → ℕ → KeptRow
carried_row s z t n = record { task = t; cycle = (task_at s t).cycle; opened = (task_at s t).opened; closed = z.date; missed = (task_at s t).missed + n; longest = (task_at z t).longest }

pub record Mission (table log : List ℕ) : Type 0 where
  -- the bytes are those of the report on the log's lines, and they are few
  pub bytes : report_on table log ≡ report_text (judged table log)
  pub few : length (report_on table log) ≤ 202 + 75 * (length log / 44)
  -- the state that the log begins with, fresh or the one that a `state` row on its first line sets, is sound
  pub start : Sound (table_said table) (start_said table log)
  -- "No refusal: 0 and 0.": every line is accepted, and the steps are those that the lines say
  pub through : (judged table log).sum.refusal ≡ 0 → Through (table_said table) (start_said table log) (entries_said table log) × ((judged table log).sum.line ≡ 0)
  -- "The first refusal ends the judging.", and its line is counted from the log's first, `state` rows with it
  pub refused : ((judged table log).sum.refusal ≡ 0 → ⊥) → StoppedAt (table_said table) (start_said table log) (entries_said table log) × ((judged table log).sum.line ≡ lines_taken table log + 1)
  -- "accepted steps", and "managing tasks at the start count as opened"
  pub steps : (judged table log).sum.steps ≡ length (steps_done table log)
  pub opened : (judged table log).sum.opened ≡ managing (table_said table) (start_said table log) + opened_in (steps_done table log)
  -- "Opened .. equals kept plus dropped plus the tasks managing at the end."
  pub balance : (judged table log).sum.opened ≡ (judged table log).sum.kept + (judged table log).sum.dropped + (judged table log).sum.managing
  -- "most steps other than waits between two neighbouring waits or at either end of the log": the number equals the definition over the
  -- log and meets the bound
  pub most : (judged table log).sum.most ≡ most 0 (steps_done table log)
  pub bound : (judged table log).sum.most ≤ 6 * (table_said table).nacts + 6 * (table_said table).ntasks
  -- "At `fm` a cycle is kept .. else dropped. No earlier step gives a verdict.": of each step of the log, and its row stands in its place
  pub verdicts : (ys : List Step) (x : Step) (zs : List Step) → steps_done table log ≡ ys ++ x ∷ zs
      → is_verdict (verdict (table_said table) (reached (table_said table) (start_said table log) ys) x) ≡ is_fm x
  pub rows : (ys : List Step) (x : Step) (zs : List Step) → steps_done table log ≡ ys ++ x ∷ zs
      → (judged table log).kept
      ≡ kept_in (table_said table) (start_said table log) ys ++ with_kept (verdict (table_said table) (reached (table_said table) (start_said table log) ys) x) (kept_in (table_said table) (next (table_said table) (reached (table_said table) (start_said table log) ys) x) zs)
  -- "missed grows at each `st` accepted while the cycle is open": each cycle that the log opens is judged by its own lines
  pub cycles : (ys : List Step) (t : ℕ) (n r : Set) (xs zs : List Step) → steps_done table log ≡ ys ++ ((Sm t n r ∷ xs) ++ OfTask t Fm ∷ zs) → T (stays_open t xs)
      → verdict (table_said table) (reached (table_said table) (start_said table log) (ys ++ Sm t n r ∷ xs)) (OfTask t Fm)
      ≡ verdict_on (table_said table) (cycle_row (reached (table_said table) (start_said table log) ys) (reached (table_said table) (start_said table log) (ys ++ Sm t n r ∷ xs)) t (signals_in t xs))
  -- and each cycle that is open at the start by what the start says of it and the log's lines
  pub carried : (t : ℕ) (xs zs : List Step) → t < (table_said table).ntasks → T (task_at (start_said table log) t).managing → steps_done table log ≡ xs ++ OfTask t Fm ∷ zs → T (stays_open t xs)
      → verdict (table_said table) (reached (table_said table) (start_said table log) xs) (OfTask t Fm)
      ≡ verdict_on (table_said table) (carried_row (start_said table log) (reached (table_said table) (start_said table log) xs) t (signals_in t xs))
  -- demand 3, at the end of the log and at each place before it
  pub demand : (ys zs : List Step) → steps_done table log ≡ ys ++ zs → DemandThree (table_said table) (start_said table log) ys

-- a text that was read is a well-formed table's
pub fine_wellformed : (table : List ℕ) → (read_table table).numbers ≡ [] → T (wellformed (table_said table))
fine_wellformed table e = true_T _ (read_wellformed table (read_table table).table (rw e refl))

-- what a report's last two numbers say
module _ (K : Table) (s : State) (es : List Entry) where
  line_through : (report K s es).sum.refusal ≡ 0 → Through K s es × ((report K s es).sum.line ≡ 0)
  unfolding report
  line_through e = (⊎_elim (λ h. h) (λ h. absurd (h.refused e)) (stop_exact K s es), rw e refl)

  line_refused : ((report K s es).sum.refusal ≡ 0 → ⊥) → StoppedAt K s es × ((report K s es).sum.line ≡ lines_done K s es + 1)
  unfolding report
  line_refused h = (⊎_elim (λ t. absurd (h t.number)) (λ t. t) (stop_exact K s es), sym (line_some (stop_on K s es) (lines_done K s es) h))

-- the rows of steps in two parts and a step between: the row of the step's verdict stands where the step does
rows_parted : (K : Table) (s : State) (ys : List Step) (x : Step) (zs : List Step)
    → kept_in K s (ys ++ x ∷ zs) ≡ kept_in K s ys ++ with_kept (verdict K (reached K s ys) x) (kept_in K (next K (reached K s ys) x) zs)
unfolding kept_in
rows_parted K s ys x zs = kept_append K ys (x ∷ zs) s

-- what holds of the report on lines from a sound state
module _ (K : Table) (wf : T (wellformed K)) (s : State) (S : Sound K s) (es : List Entry) where
  -- the seventh number is the definition's over the accepted steps, and within the bound
  pub most_told_lem : ((report K s es).sum.most ≡ most 0 (steps_of K s es)) × ((report K s es).sum.most ≤ 6 * K.nacts + 6 * K.ntasks)
  unfolding report
  most_told_lem = (refl, omega (arith, report_bound K wf s S.shape (of_sound K s S) es))

  -- a cycle among the accepted steps
  cycle_told_at : (ys : List Step) (t : ℕ) (n r : Set) (xs zs : List Step) → steps_of K s es ≡ ys ++ ((Sm t n r ∷ xs) ++ zs) → T (stays_open t xs)
      → verdict K (reached K s (ys ++ Sm t n r ∷ xs)) (OfTask t Fm) ≡ verdict_on K (cycle_row (reached K s ys) (reached K s (ys ++ Sm t n r ∷ xs)) t (signals_in t xs))
  cycle_told_at ys t n r xs zs e on =
      let F = formed K wf in
      let parts = parts_accepted K ys ((Sm t n r ∷ xs) ++ zs) s (subst (λ l. T (all_accepted K s l)) e (steps_accepted K s es)) in
      let z = reached K s ys in
      rw (parts_reached K ys (Sm t n r ∷ xs) s) (cycle_told_from K F z (reached_sound K F ys s S parts.0) t n r xs (parts_accepted K (Sm t n r ∷ xs) zs z parts.1).0 on)

  -- one that is open before them
  carried_told : (t : ℕ) (xs zs : List Step) → t < K.ntasks → T (task_at s t).managing → steps_of K s es ≡ xs ++ zs → T (stays_open t xs)
      → verdict K (reached K s xs) (OfTask t Fm) ≡ verdict_on K (carried_row s (reached K s xs) t (signals_in t xs))
  unfolding verdict
  carried_told t xs zs h m e on =
      let parts = parts_accepted K xs zs s (subst (λ l. T (all_accepted K s l)) e (steps_accepted K s es)) in
      let o = stays_open_lem K (formed K wf) t h xs s S m parts.0 on in
      rw (o.cycle, o.opened, o.missed) refl

  -- demand 3 at each place of the accepted steps
  demand_at : (ys zs : List Step) → steps_of K s es ≡ ys ++ zs → DemandThree K s ys
  demand_at ys zs e = demand_three_from K wf s S.shape (of_sound K s S) ys (parts_accepted K ys zs s (subst (λ xs. T (all_accepted K s xs)) e (steps_accepted K s es))).0

-- the report on a table that is read and any log
pub mission : (table log : List ℕ) → (read_table table).numbers ≡ [] → Mission table log
unfolding report_on log_text report
mission table log e =
    let K = table_said table in
    let wf = fine_wellformed table e in
    let R = row_laws K wf in
    let s = start_said table log in
    let es = entries_said table log in
    let S : Sound K s = subst (Sound K) (start_state K (split_on 10 log)) (start_sound_at K R fresh (start_sound K) no_tally (split_on 10 log)) in
    record {
      bytes = rw e refl;
      few = rw e (text_bound K wf R log);
      start = S;
      through = line_through K s es;
      refused = line_refused K s es;
      steps = refl;
      opened = refl;
      balance = report_balance K wf s S es;
      most = (most_told_lem K wf s S es).0;
      bound = (most_told_lem K wf s S es).1;
      verdicts = λ ys x zs h. verdict_at_fm K (reached K s ys) x;
      rows = λ ys x zs h. rw h (rows_parted K s ys x zs);
      cycles = λ ys t n r xs zs h. cycle_told_at K wf s S es ys t n r xs (OfTask t Fm ∷ zs) h;
      carried = λ t xs zs h m e. carried_told K wf s S es t xs (OfTask t Fm ∷ zs) h m e;
      demand = λ ys zs h. demand_at K wf s S es ys zs h;
    }
