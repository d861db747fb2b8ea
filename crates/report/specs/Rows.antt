-- The report's rows as bytes.
use Rattle.std.specs.Prelude.{ℕ, List, [], ◌∷◌, ◌++◌}
use Rattle.text.specs.Number.{digits}
use Rattle.model.specs.Cycles.{KeptRow, SumRow}
use Rattle.report.specs.declared.Cycle.{Cycle}

-- numbers, a tab before each, and the line's newline
unfoldable pub numbers_text : List ℕ → List ℕ
numbers_text [] = 10 ∷ []
numbers_text (n ∷ ns) = 9 ∷ (digits n ++ numbers_text ns)

-- a word with its numbers
unfoldable pub line_text : List ℕ → List ℕ → List ℕ
line_text word ns = word ++ numbers_text ns

-- `cycles`, `kept`, `sum`
abbrev pub cycles_word : List ℕ
cycles_word = 99 ∷ 121 ∷ 99 ∷ 108 ∷ 101 ∷ 115 ∷ []

abbrev pub kept_word : List ℕ
kept_word = 107 ∷ 101 ∷ 112 ∷ 116 ∷ []

abbrev pub sum_word : List ℕ
sum_word = 115 ∷ 117 ∷ 109 ∷ []

-- "`cycles 1` (the number of this layout)"
abbrev pub layout : ℕ
layout = 1

abbrev pub head_text : List ℕ
head_text = line_text cycles_word (layout ∷ [])

-- "a `kept` row .. (task, cycle number, open date, close date, missed, longest)"
abbrev pub cycle_numbers : Cycle → List ℕ
cycle_numbers r = r.task ∷ r.cycle ∷ r.opened ∷ r.closed ∷ r.missed ∷ r.longest ∷ []

abbrev pub cycle_text : Cycle → List ℕ
cycle_text r = line_text kept_word (cycle_numbers r)

-- a kept cycle as the code has it
abbrev pub cycle_of : KeptRow → Cycle
cycle_of r = record { task = r.task; cycle = r.cycle; opened = r.opened; closed = r.closed; missed = r.missed; longest = r.longest }

abbrev pub kept_text : KeptRow → List ℕ
kept_text r = cycle_text (cycle_of r)

unfoldable pub rows_text : List KeptRow → List ℕ
rows_text [] = []
rows_text (r ∷ rs) = kept_text r ++ rows_text rs

-- "a `sum` row (accepted steps, date, opened, kept, dropped, managing, most steps other than waits .., refusal, its line)"
abbrev pub sum_numbers : SumRow → List ℕ
sum_numbers r = r.steps ∷ r.date ∷ r.opened ∷ r.kept ∷ r.dropped ∷ r.managing ∷ r.most ∷ r.refusal ∷ r.line ∷ []

abbrev pub sum_text : SumRow → List ℕ
sum_text r = line_text sum_word (sum_numbers r)
