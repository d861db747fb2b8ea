-- Cycles, their verdicts, and the report's rows as values.
use Rattle.std.specs.Prelude.{Bool, true, false, not, cond, List, [], ◌∷◌, ℕ, zero, suc, ◌+◌, ◌-◌, length, leb, eqb}
use Rattle.model.specs.Tests.{◌and◌, ◌or◌, one, sum, accepted}
use Rattle.model.specs.Tables.{Table}
use Rattle.model.specs.States.{task_at}
use Rattle.model.specs.Rules.{refusal, next}
use Rattle.model.specs.Logs.{reached, most}
use Rattle.model.specs.declared.Task.{Task}
use Rattle.model.specs.declared.State.{State}
use Rattle.model.specs.declared.TaskStep.TheVariants.{St, Fm}
use Rattle.model.specs.declared.Step.{Step}
use Rattle.model.specs.declared.Step.TheVariants.{Wait, Sm, OfTask, OfAct}

-- "a `kept` row for each kept cycle as it closes (task, cycle number, open date, close date, missed, longest)"
pub record KeptRow : Type 0 where
  pub task : ℕ
  pub cycle : ℕ
  pub opened : ℕ
  pub closed : ℕ
  pub missed : ℕ
  pub longest : ℕ

-- of the task t, whose record is x, at a date
abbrev pub row_at : ℕ → ℕ → Task → KeptRow
row_at t date x = record { task = t; cycle = x.cycle; opened = x.opened; closed = date; missed = x.missed; longest = x.longest }

abbrev pub kept_row : State → ℕ → KeptRow
kept_row s t = row_at t s.date (task_at s t)

pub data Verdict : Type 0 where
  none : Verdict
  kept : KeptRow → Verdict
  dropped : Verdict

-- "At `fm` a cycle is kept if close date minus open date is at least the task's keep, or missed is at least 1; else dropped."
abbrev pub keeps : Table → KeptRow → Bool
keeps K r = leb (K.keep r.task) (r.closed - r.opened) or leb 1 r.missed

abbrev pub verdict_on : Table → KeptRow → Verdict
verdict_on K r = cond (keeps K r) (kept r) dropped

-- "No earlier step gives a verdict."
unfoldable pub verdict : Table → State → Step → Verdict
verdict K s (Wait d) = none
verdict K s (Sm t n r) = none
verdict K s (OfTask t St) = none
verdict K s (OfTask t Fm) = verdict_on K (kept_row s t)
verdict K s (OfAct a k) = none

abbrev pub is_fm : Step → Bool
is_fm (Wait d) = false
is_fm (Sm t n r) = false
is_fm (OfTask t St) = false
is_fm (OfTask t Fm) = true
is_fm (OfAct a k) = false

abbrev pub is_verdict : Verdict → Bool
is_verdict none = false
is_verdict (kept r) = true
is_verdict dropped = true

-- "Opened (accepted `sm`)"
abbrev pub opens : Step → ℕ
opens (Wait d) = 0
opens (Sm t n r) = 1
opens (OfTask t k) = 0
opens (OfAct a k) = 0

unfoldable pub opened_in : List Step → ℕ
opened_in [] = 0
opened_in (x ∷ xs) = opens x + opened_in xs

-- how many of the steps are `st` of the task t, and whether none is its `fm`, so that its cycle stays open
abbrev pub signals : ℕ → Step → Bool
signals t (Wait d) = false
signals t (Sm u n r) = false
signals t (OfTask u St) = eqb u t
signals t (OfTask u Fm) = false
signals t (OfAct a k) = false

unfoldable pub signals_in : ℕ → List Step → ℕ
signals_in t [] = 0
signals_in t (x ∷ xs) = one (signals t x) + signals_in t xs

abbrev pub closes : ℕ → Step → Bool
closes t (Wait d) = false
closes t (Sm u n r) = false
closes t (OfTask u St) = false
closes t (OfTask u Fm) = eqb u t
closes t (OfAct a k) = false

unfoldable pub stays_open : ℕ → List Step → Bool
stays_open t [] = true
stays_open t (x ∷ xs) = not (closes t x) and stays_open t xs

-- a cycle of t as the log tells it: opened by an `sm` in s, closed by an `fm` in z, with n signals between them
abbrev pub cycle_row : State → State → ℕ → ℕ → KeptRow
cycle_row s z t n = record { task = t; cycle = (task_at s t).cycle + 1; opened = s.date; closed = z.date; missed = n; longest = (task_at z t).longest }

-- the kept cycles as they close, and how many are dropped
abbrev pub with_kept : Verdict → List KeptRow → List KeptRow
with_kept none rs = rs
with_kept (kept r) rs = r ∷ rs
with_kept dropped rs = rs

unfoldable pub kept_in : Table → State → List Step → List KeptRow
kept_in K s [] = []
kept_in K s (x ∷ xs) = with_kept (verdict K s x) (kept_in K (next K s x) xs)

abbrev pub drops : Verdict → ℕ
drops none = 0
drops (kept r) = 0
drops dropped = 1

unfoldable pub dropped_in : Table → State → List Step → ℕ
dropped_in K s [] = 0
dropped_in K s (x ∷ xs) = drops (verdict K s x) + dropped_in K (next K s x) xs

-- "the tasks managing at the end"
unfoldable pub managing : Table → State → ℕ
managing K s = sum K.ntasks (λ t. one (task_at s t).managing)

-- What a line of a log says: a step; a `state` row, by the refusal that it gets in each state; or neither. A row "is a line but no step": it
-- changes no state, and 11 is the refusal of a line that says neither.
pub data Entry : Type 0 where
  step : Step → Entry
  row : (State → ℕ) → Entry
  neither : Entry

unfoldable pub entry_refusal : Table → State → Entry → ℕ
entry_refusal K s (step x) = refusal K s x
entry_refusal K s (row f) = f s
entry_refusal K s neither = 11

-- "The first refusal ends the judging.": the steps accepted before it, how many lines that were, and its number, 0 where there is none
unfoldable pub steps_of : Table → State → List Entry → List Step
steps_of K s [] = []
steps_of K s (step x ∷ es) = cond (accepted (refusal K s x)) (x ∷ steps_of K (next K s x) es) []
steps_of K s (row f ∷ es) = cond (accepted (f s)) (steps_of K s es) []
steps_of K s (neither ∷ es) = []

unfoldable pub lines_done : Table → State → List Entry → ℕ
lines_done K s [] = 0
lines_done K s (step x ∷ es) = cond (accepted (refusal K s x)) (suc (lines_done K (next K s x) es)) 0
lines_done K s (row f ∷ es) = cond (accepted (f s)) (suc (lines_done K s es)) 0
lines_done K s (neither ∷ es) = 0

unfoldable pub stop_on : Table → State → List Entry → ℕ
stop_on K s [] = 0
stop_on K s (step x ∷ es) = cond (accepted (refusal K s x)) (stop_on K (next K s x) es) (refusal K s x)
stop_on K s (row f ∷ es) = cond (accepted (f s)) (stop_on K s es) (f s)
stop_on K s (neither ∷ es) = 11

-- the steps that these lines say, and the lines that say these steps
unfoldable pub steps_in : List Entry → List Step
steps_in [] = []
steps_in (step x ∷ es) = x ∷ steps_in es
steps_in (row f ∷ es) = steps_in es
steps_in (neither ∷ es) = steps_in es

unfoldable pub lines_of : List Step → List Entry
lines_of [] = []
lines_of (x ∷ xs) = step x ∷ lines_of xs

-- "a `sum` row (accepted steps, date, opened, kept, dropped, managing, most steps other than waits between two neighbouring waits or at
-- either end of the log, refusal, its line)"
pub record SumRow : Type 0 where
  pub steps : ℕ
  pub date : ℕ
  pub opened : ℕ
  pub kept : ℕ
  pub dropped : ℕ
  pub managing : ℕ
  pub most : ℕ
  pub refusal : ℕ
  pub line : ℕ

pub record Report : Type 0 where
  pub kept : List KeptRow
  pub sum : SumRow

-- "Lines count from the first line of table or log. .. No refusal: 0 and 0."
abbrev pub line_of : ℕ → ℕ → ℕ
line_of zero n = 0
line_of (suc r) n = n + 1

-- the report on the steps accepted from a state, with the refusal behind them and the lines before it: "managing tasks at the start count as
-- opened"
abbrev pub report_of : Table → State → List Step → ℕ → ℕ → Report
report_of K s xs r n = record {
  kept = kept_in K s xs;
  sum = record {
    steps = length xs;
    date = (reached K s xs).date;
    opened = managing K s + opened_in xs;
    kept = length (kept_in K s xs);
    dropped = dropped_in K s xs;
    managing = managing K (reached K s xs);
    most = most 0 xs;
    refusal = r;
    line = line_of r n;
  };
}

-- the report on a log, judged from a state
unfoldable pub report : Table → State → List Entry → Report
report K s es = report_of K s (steps_of K s es) (stop_on K s es) (lines_done K s es)

-- "A refused table gives `cycles 1` and a `sum` row of zeros but for the last two numbers."
abbrev pub refused_report : ℕ → ℕ → Report
refused_report n l = record {
  kept = [];
  sum = record { steps = 0; date = 0; opened = 0; kept = 0; dropped = 0; managing = 0; most = 0; refusal = n; line = l };
}
