-- The numbers of a table's refusals.
use Rattle.std.specs.Prelude.{ℕ, Result, Ok, Err}
use Rattle.table.specs.declared.fault.Fault.{Fault}
use Rattle.table.specs.declared.fault.Fault.TheVariants as fault

abbrev pub number_of : Fault → ℕ
number_of fault.Form = 1
number_of fault.Order = 2
number_of fault.Limit = 3
number_of fault.Unknown = 4
number_of fault.Graph = 5
number_of fault.End = 6
number_of fault.Missing = 7
number_of fault.NoRoom = 31

-- the number of a check's refusal, 0 where nothing is refused
abbrev pub fault_in : {A : Type 0} → Result A Fault → ℕ
fault_in (Ok a) = 0
fault_in (Err f) = number_of f
