-- A refusal at a line.
use Prim.Native.Nat.{ℕ, zero, suc}
use mathlib.Core.Path.{◌≡◌}
use native.Mathlib.Omega.{arith}
use Rattle.table.specs.Faults.{number_of}
use Rattle.table.specs.Checks.{Said, refused, on_fault}
use Rattle.table.specs.declared.fault.Fault.{Fault}
use Rattle.table.specs.declared.fault.Fault.TheVariants as fault
use Rattle.table.specs.declared.fault.Refused.{Refused}

-- each refusal has a number
number_some : (f : Fault) → number_of f ≡ 0 → ⊥
number_some fault.Form e = omega arith
number_some fault.Order e = omega arith
number_some fault.Limit e = omega arith
number_some fault.Unknown e = omega arith
number_some fault.Graph e = omega arith
number_some fault.End e = omega arith
number_some fault.Missing e = omega arith
number_some fault.NoRoom e = omega arith

-- a refusal at a line
pub stops : (f : Fault) (n line : ℕ) (go : Said) → number_of f ≡ n → refused (number_of f) line ≡ on_fault n line go
stops f n line go e = at n e
  where
    at : (m : ℕ) → number_of f ≡ m → refused (number_of f) line ≡ on_fault m line go
    at zero q = absurd (number_some f q)
    at (suc m) q = rw q

-- a refusal of the code is one of the page
abbrev pub Is : Refused → Fault → ℕ → Type 0
Is r f l = (r.fault ≡ f) × (r.line ≡ l)

pub told : (r : Refused) (f : Fault) (l : ℕ) → Is r f l → refused (number_of r.fault) r.line ≡ refused (number_of f) l
told r f l q = rw (q.0, q.1)
