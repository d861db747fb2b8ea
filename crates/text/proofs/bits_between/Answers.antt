-- `bits_between` meets its contract.
use mathlib.Core.Path.{◌∙◌}
use borrow.Author.Tests.{le-leb}
use Rattle.text.proofs.Members.{bits_none, bits_past, bits_below, bits_all, bits_behind}
use Rattle.text.proofs.bits_between.Goals as goal
use Rattle.text.proofs.bits_between.Goals.{then-from-ge-HALF_ROOM-via-then-from-ge-HALF_ROOM, then-from-ge-HALF_ROOM-via-else-from-ge-HALF_ROOM+then-n-power-ne0}

pub returns-then-n-eq0 : goal.returns-then-n-eq0
returns-then-n-eq0 c = search bits_none

pub returns-then-from-ge-HALF_ROOM : goal.returns-then-from-ge-HALF_ROOM
returns-then-from-ge-HALF_ROOM c =
    elim c.then-from-ge-HALF_ROOM.branch [
      | then-from-ge-HALF_ROOM-via-then-from-ge-HALF_ROOM w ↦ search bits_past
      | then-from-ge-HALF_ROOM-via-else-from-ge-HALF_ROOM+then-n-power-ne0 w ↦ search bits_below
    ]

pub returns-then-to-ge-HALF_ROOM : goal.returns-then-to-ge-HALF_ROOM
returns-then-to-ge-HALF_ROOM c = le-leb _ _ c.if-to-ge-HALF_ROOM.true ∙ search bits_all

pub returns-else-to-ge-HALF_ROOM : goal.returns-else-to-ge-HALF_ROOM
returns-else-to-ge-HALF_ROOM c = search bits_behind
