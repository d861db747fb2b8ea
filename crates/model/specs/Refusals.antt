-- The numbers of the refusals.
use Rattle.std.specs.Prelude.{ℕ, Option, Some, None, Result, Ok, Err}
use Rattle.model.specs.declared.refusal.Refusal.{Refusal}
use Rattle.model.specs.declared.refusal.Refusal.TheVariants.{NoStep, Unknown, NotAllowed, TooEarly, InConflict, StillEnabled, TooLate, PastCeiling, NotGiven, Unsound, NotReached}

abbrev pub number_of : Refusal → ℕ
number_of NoStep = 11
number_of Unknown = 12
number_of NotAllowed = 13
number_of TooEarly = 14
number_of InConflict = 15
number_of StillEnabled = 16
number_of TooLate = 17
number_of PastCeiling = 18
number_of NotGiven = 19
number_of Unsound = 20
number_of NotReached = 21

-- the number of a refusal, if it is one: "No refusal: 0"
abbrev pub refusal_in : Option Refusal → ℕ
refusal_in None = 0
refusal_in (Some r) = number_of r

abbrev pub numbered : {A : Type 0} → Result A Refusal → ℕ
numbered (Ok a) = 0
numbered (Err r) = number_of r
