-- `sm` told by its task's record and its activities.
use Rattle.std.specs.Prelude.{ℕ, zero, suc, ◌+◌, true, not, List, get_or, set, ltb}
use Rattle.text.specs.declared.Set.{Set}
use Rattle.model.specs.Tests.{◌and◌, need}
use Rattle.model.specs.Tables.{Table}
use Rattle.model.specs.States.{no_act}
use Rattle.model.specs.Rules.{within, listed}
use Rattle.model.specs.declared.Task.{Task}
use Rattle.model.specs.declared.Act.{Act}

-- the refusal of `sm`
abbrev pub sm_number : Table → ℕ → Set → Set → Task → ℕ
sm_number K t n r x =
    need (ltb t K.ntasks and within K t n and within K t r) 12
    (need (not x.managing and x.signal) 13
    0)

-- m activities from the first on, put into N and R as the sets n and r say
unfoldable pub flagged_from : Set → Set → ℕ → ℕ → List Act → List Act
flagged_from n r first zero l = l
flagged_from n r first (suc m) l = set (flagged_from n r first m l) (first + m) (listed true n r (first + m) (get_or l (first + m) no_act))
