-- Tests as code asks for them: what a result says of the test that it stands for.
use mathlib.Core.Bool.{Bool, true, false, not}
use mathlib.Core.Path.{◌≡◌, subst}
use Prim.Native.Nat.{ℕ, ◌<◌}
use lib.Dec.{T, ltb→lt}
use borrow.Author.Tests.{not-true, not-false}
use Rattle.model.specs.Tables.{Table, known}
use Rattle.model.specs.declared.Place.{Place}
use Rattle.model.specs.declared.Place.TheVariants.{Codel}

-- a test by its result in code, which was tested for its opposite
pub no_by : (r b : Bool) → r ≡ b → not r ≡ true → b ≡ false
no_by r b e n = rw e at (not-true r n)

pub yes_by : (r b : Bool) → r ≡ b → not r ≡ false → b ≡ true
yes_by r b e n = rw e at (not-false r n)

-- the codel of a known place has a row
pub known_codel : (K : Table) (p : Place) (c : ℕ) → T (known K p) → p ≡ Codel c → c < K.ncodels
known_codel K p c h e = ltb→lt c K.ncodels (subst (λ q. T (known K q)) e h)
