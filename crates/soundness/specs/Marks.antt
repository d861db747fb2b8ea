-- The codels that a pause leads to, marked in one pass over the edges.
use Rattle.std.specs.Prelude.{ℕ, zero, suc, Bool, true, false, List, set, replicate}
use Rattle.model.specs.Limits.{most_codels}
use Rattle.model.specs.Tables.{Table}
use Rattle.model.specs.declared.Place.{Place}
use Rattle.model.specs.declared.Place.TheVariants.{Ether, Codel}
use Rattle.prepared.specs.Prepared.{pause_of}

-- a place marked, where it is a codel
abbrev pub mark_at : Place → List Bool → List Bool
mark_at Ether l = l
mark_at (Codel c) l = set l c true

-- the pause targets of the first n edges marked
unfoldable pub pause_marks : Table → ℕ → List Bool
pause_marks K zero = replicate most_codels false
pause_marks K (suc n) = mark_at (pause_of (K.edge n)) (pause_marks K n)
