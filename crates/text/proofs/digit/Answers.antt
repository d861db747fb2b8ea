-- `digit` meets its contract.
use native.Mathlib.Omega.{arith}
use Rattle.std.proofs.lemmas.Grind.{common_steps}
use Rattle.text.proofs.Digits.{value_low, value_decimal, value_between, value_letter, value_high}
use Rattle.text.proofs.digit.Goals as goal
use Rattle.text.proofs.digit.Goals.{in-48-to-57, in-97-to-102}

pub returns-in_default : goal.returns-in_default
returns-in_default c = grind (arith, value_low)

pub returns-in_default-2 : goal.returns-in_default-2
returns-in_default-2 c = grind (arith, value_between)

pub returns-in_default-3 : goal.returns-in_default-3
returns-in_default-3 c = grind (arith, value_high)

pub returns : goal.returns
returns c =
    elim c.if-b-lt58.branch [
      | in-48-to-57 w ↦ grind (arith, common_steps, value_decimal)
      | in-97-to-102 w ↦ grind (arith, common_steps, value_letter)
    ]
