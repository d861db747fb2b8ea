-- The promise of a log played with its `state` rows leaves no choice.
use Prim.Native.Nat.{ℕ}
use mathlib.Core.List.{List}
use mathlib.Core.Path.{◌≡◌}
use Rattle.model.specs.Tables.{Table}
use Rattle.engine.specs.declared.Going.{Going}
use Rattle.engine.specs.declared.Ran.{Ran}
use Rattle.engine.proofs.Unique.{runs_unique}
use Rattle.playing.specs.Plays.{Plays}

-- two results are equal, and so are two contents of the buffer
pub plays_unique : {K : Table} {log : List ℕ} {from : ℕ} {g : Going} {buf : List ℕ} {place : ℕ} {r₁ r₂ : Ran} {after₁ after₂ : List ℕ}
    → Plays K log from g buf place r₁ after₁ → Plays K log from g buf place r₂ after₂ → (r₁ ≡ r₂) × (after₁ ≡ after₂)
plays_unique h k = runs_unique h.runs k.runs h.whole k.whole
