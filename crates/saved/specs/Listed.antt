-- N and R of a task by what stands beside the state.
use Rattle.std.specs.Prelude.{ℕ, ◌%◌, ◌≡◌, List, get_or, leb, eqb}
use Rattle.model.specs.Tests.{◌and◌, sum}
use Rattle.model.specs.Tables.{Table}
use Rattle.saved.specs.Rows.{bit_of}
use Rattle.saved.specs.declared.Lists.{Lists}

-- bit a for its activity a
unfoldable pub run_by : Table → List ℕ → ℕ → ℕ → ℕ
run_by K l t n = sum n (λ a. bit_of (eqb (K.task a) t and eqb (get_or l a 0 % 2) 1) a)

unfoldable pub halt_by : Table → List ℕ → ℕ → ℕ → ℕ
halt_by K l t n = sum n (λ a. bit_of (eqb (K.task a) t and leb 2 (get_or l a 0)) a)

-- what a pair of sets is then
pub record ListsOf (K : Table) (l : List ℕ) (t : ℕ) (r : Lists) : Type 0 where
  pub run : r.run ≡ run_by K l t K.nacts
  pub halt : r.halt ≡ halt_by K l t K.nacts
