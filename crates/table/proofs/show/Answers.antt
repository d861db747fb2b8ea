-- `show` meets its contract.
use mathlib.Core.Logic.{inl, inr}
use Rattle.table.specs.Tables.{shown}
use Rattle.table.proofs.show.Goals as goal

pub returns-in_default : goal.returns-in_default
unfolding shown
returns-in_default c = rw c.in_default.is

pub returns-in-Kind : goal.returns-in-Kind
unfolding shown
returns-in-Kind c = rw (c.in-Some.is, c.in-Kind.is, c.from.ensures) c.min.ensures

pub returns-in-Mode : goal.returns-in-Mode
unfolding shown
returns-in-Mode c = rw (c.in-Some.is, c.in-Mode.is, c.from-in-Mode.ensures) c.min-in-Mode.ensures

pub returns-in-Number : goal.returns-in-Number
unfolding shown
returns-in-Number c = elim c.in-Number.is [ inl e ↦ rw (c.in-Some.is, e) c.widen.ensures | inr e ↦ rw (c.in-Some.is, e) c.widen.ensures ]
