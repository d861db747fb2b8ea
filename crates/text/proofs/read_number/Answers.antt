-- `read_number` meets its contract.
use Rattle.text.proofs.Decimals.{number_empty, number_over, number_wide, number_one, number_zero, number_more}
use Rattle.text.proofs.read_number.Goals as goal
use Rattle.text.proofs.read_number.Goals.{then-n-eq0-via-then-n-eq0, then-n-eq0-via-else-n-eq0+then-most-n, then-n-eq0-via-else-n-eq0+else-most-n+then-n-gt-WIDEST, else-n-ne1-via-then-n-ne1+else-s-eq48, else-n-ne1-via-else-n-ne1}

pub returns-then-n-eq0 : goal.returns-then-n-eq0
returns-then-n-eq0 c =
    elim c.then-n-eq0.branch [
      | then-n-eq0-via-then-n-eq0 w ↦ search number_empty
      | then-n-eq0-via-else-n-eq0+then-most-n w ↦ search number_over
      | then-n-eq0-via-else-n-eq0+else-most-n+then-n-gt-WIDEST w ↦ search number_wide
    ]

pub returns-then-s-eq48 : goal.returns-then-s-eq48
returns-then-s-eq48 c = search number_zero

pub returns : goal.returns
returns c =
    elim c.else-n-ne1.branch [ else-n-ne1-via-then-n-ne1+else-s-eq48 w ↦ search number_more | else-n-ne1-via-else-n-ne1 w ↦ search number_one ]
