-- A row compared in place with a state: what is asked of the state's records, and the row's beginning.
use Rattle.std.specs.Prelude.{ℕ, Bool, true, false, not, ◌≡◌, List, [], ◌∷◌, ◌++◌, ltb, eqb}
use Rattle.model.specs.Tests.{◌and◌}
use Rattle.model.specs.Limits.{most_acts, most_codels}
use Rattle.model.specs.Tables.{Table, is_ether}
use Rattle.model.specs.declared.Act.{Act}
use Rattle.model.specs.declared.Place.{Place}
use Rattle.model.specs.declared.Place.TheVariants.{Ether, Codel}
use Rattle.model.specs.declared.Holder.{Holder}
use Rattle.model.specs.declared.Holder.TheVariants.{Manager, Activity}
use Rattle.fields.specs.Forms.{a_number}
use Rattle.fields.specs.Fields.{fields_text}
use Rattle.saved.specs.Rows.{state_word}
use Rattle.saved.specs.Listed.{run_by, halt_by}

-- a holder and a place with a number that a table may have, so that none is taken for `manager` or `ether`
abbrev pub holder_fits : Holder → Bool
holder_fits Manager = true
holder_fits (Activity a) = ltb a most_acts

abbrev pub place_fits : Place → Bool
place_fits Ether = true
place_fits (Codel c) = ltb c most_codels

-- an activity rests at ether
abbrev pub is_idle : Act → Bool
is_idle y = is_ether y.place and not y.executing and eqb y.clock 0

-- N and R of a task that is not managing, by what stands beside the state, are empty
pub record Unlisted (K : Table) (l : List ℕ) (t : ℕ) (managing : Bool) : Type 0 where
  pub run : managing ≡ false → run_by K l t K.nacts ≡ 0
  pub halt : managing ≡ false → halt_by K l t K.nacts ≡ 0

-- the row's word and its date
abbrev pub head_text : ℕ → List ℕ
head_text date = state_word ++ fields_text (a_number ∷ []) (date ∷ [])
