-- The conflict test by what stands beside the state: of each activity the codel that it executes.
use Rattle.std.specs.Prelude.{ℕ, Bool, true, false, not, List, map, get_or, ltb}
use Rattle.model.specs.Tests.{◌implies◌, each}
use Rattle.model.specs.Limits.{most_codels}
use Rattle.model.specs.Tables.{Table}
use Rattle.model.specs.declared.Act.{Act}
use Rattle.model.specs.declared.State.{State}
use Rattle.model.specs.declared.Place.{Place}
use Rattle.model.specs.declared.Place.TheVariants.{Ether, Codel}
use Rattle.model.specs.declared.ActStep.{ActStep}
use Rattle.model.specs.declared.ActStep.TheVariants.{Lm, Ia, Ea, Cx, Fa}
use Rattle.prepared.specs.Prepared.{conflict}

-- no codel has this number
abbrev pub no_codel : ℕ
no_codel = most_codels

-- the codel that an activity executes
abbrev pub busy_at : Bool → Place → ℕ
busy_at false p = no_codel
busy_at true Ether = no_codel
busy_at true (Codel c) = c

abbrev pub busy_of : Act → ℕ
busy_of y = busy_at y.executing y.place

-- of each activity of a state
abbrev pub busy_in : State → List ℕ
busy_in s = map busy_of s.acts

-- no codel of those executing conflicts with c
abbrev pub far_from : Table → ℕ → ℕ → Bool
far_from K c d = ltb d K.ncodels implies not (conflict K c d)

unfoldable pub clear_by : Table → List ℕ → ℕ → Bool
clear_by K busy c = each K.nacts (λ a. far_from K c (get_or busy a no_codel))

abbrev pub clear_by_at : Table → List ℕ → Place → Bool
clear_by_at K busy Ether = true
clear_by_at K busy (Codel c) = clear_by K busy c

-- what `cx` of an activity at the place p asks beside the records
abbrev pub clear_for_by : Table → List ℕ → ActStep → Place → Bool
clear_for_by K busy (Lm t) p = true
clear_for_by K busy Ia p = true
clear_for_by K busy (Ea q) p = true
clear_for_by K busy Cx p = clear_by_at K busy p
clear_for_by K busy (Fa q) p = true
