-- `behind_end` meets its contract.
use Rattle.table.proofs.Reading.{behind_none, behind_short, behind_bad, behind_is}
use Rattle.table.proofs.behind_end.Goals as goal
use Rattle.table.proofs.behind_end.Goals.{then-s-e-via-then-s-e, then-s-e-via-else-s-e+then-is_none}

pub returns-then-s-at : goal.returns-then-s-at
returns-then-s-at c = search (behind_none)

pub returns-then-s-e : goal.returns-then-s-e
returns-then-s-e c =
    elim c.then-s-e.branch [
      | then-s-e-via-then-s-e w ↦ search (behind_short)
      | then-s-e-via-else-s-e+then-is_none w ↦ behind_bad _ _ c.requires c.if-s-at.false _ c.next_byte-e.ensures w.if-s-e.false _ w.read_row.ensures w.if-is_none.ensures
    ]

pub returns : goal.returns
returns c = behind_is _ _ c.requires c.if-s-at.false _ c.next_byte-e.ensures c.if-s-e.false _ c.read_row.ensures c.if-is_none.ensures
