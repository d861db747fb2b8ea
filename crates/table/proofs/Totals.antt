-- How many rows a table has in all: counted kind by kind, and never more than there is room for.
use Prim.Native.Nat.{ℕ, zero, suc, ◌≤◌}
use mathlib.Core.Path.{◌≡◌}
use mathlib.Core.List.{List, [], ◌∷◌}
use native.Mathlib.Omega.{arith}
use lib.ListN.{length, get_or}
use Rattle.row.specs.Kinds.{stored_kinds, most_of}
use Rattle.model.specs.Tests.{sum}
use Rattle.model.proofs.Sums.{sum_le}
use Rattle.table.specs.Tables.{most_rows, base_of, Counted, total_of}
use Rattle.std.specs.List as list
use Rattle.table.proofs.Stored.{base_first, base_next, base_last}

-- the room for the first n kinds is what they may have
base_sum : (n : ℕ) → base_of n ≡ sum n most_of
unfolding sum
base_sum zero = base_first
base_sum (suc n) = omega (arith, base_next n, base_sum n)

-- so there are never more rows
pub few_counted : (counts : List ℕ) → Counted counts → total_of counts ≤ most_rows
few_counted counts c = omega (arith, sum_le stored_kinds (λ k. get_or counts k 0) most_of c.most, base_sum stored_kinds, base_last)

-- the counts of all kinds, summed
pub sum_counts : (counts : List ℕ) → length counts ≡ stored_kinds → list.sum counts ≡ total_of counts
unfolding sum
sum_counts [] h = absurd (omega arith)
sum_counts (a ∷ []) h = absurd (omega arith)
sum_counts (a ∷ b ∷ []) h = absurd (omega arith)
sum_counts (a ∷ b ∷ c ∷ []) h = absurd (omega arith)
sum_counts (a ∷ b ∷ c ∷ d ∷ []) h = absurd (omega arith)
sum_counts (a ∷ b ∷ c ∷ d ∷ e ∷ []) h = omega arith
sum_counts (a ∷ b ∷ c ∷ d ∷ e ∷ x ∷ xs) h = absurd (omega arith)
