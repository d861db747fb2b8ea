-- Document 01's limits, each named once.
use Rattle.std.specs.Prelude.{Bool, ℕ, leb}
use Rattle.model.specs.Tests.{◌and◌}

-- "most rows"
abbrev pub most_tasks : ℕ
most_tasks = 16

abbrev pub most_acts : ℕ
most_acts = 64

abbrev pub most_codels : ℕ
most_codels = 256

abbrev pub most_edges : ℕ
most_edges = 512

abbrev pub most_mutexes : ℕ
most_mutexes = 512

-- "Period, keep and limit are 1 to 1,000,000,000"; so is the d of a wait
abbrev pub most_ticks : ℕ
most_ticks = 1000000000

abbrev pub in_range : ℕ → Bool
in_range n = leb 1 n and leb n most_ticks

-- "date at most 1,000,000,000,000"
abbrev pub ceiling : ℕ
ceiling = 1000000000000
