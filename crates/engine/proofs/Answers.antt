-- The line at a place of a log, and the reason to stop there, by the tests that lead to them.
use Rattle.std.specs.Prelude.{Option, None}
use Rattle.model.specs.declared.Step.{Step}
use mathlib.Core.List.{List}
use mathlib.Core.Path.{◌≡◌}
use Prim.Native.Nat.{ℕ, ◌-◌}
use lib.ListN.{length, take, drop}
use borrow.Author.Tests.{eq-eqb, ne_eqb}
use Rattle.logs.specs.Lines.{set_digits, read_step}
use Rattle.engine.specs.Turns.{line_at}

-- the line at a place
module _ (log : List ℕ) (at e : ℕ) where
  pub line_none : e ≡ length log → None ≡ line_at log at e
  line_none h = rw (eq-eqb e (length log) h)

  pub line_is : (r : Option Step) → (e ≡ length log → ⊥) → r ≡ read_step set_digits (take (e - at) (drop at log)) → r ≡ line_at log at e
  line_is r n h = rw (ne_eqb e (length log) n) h
