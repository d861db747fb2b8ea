-- `has_member` meets its contract.
use mathlib.Core.Path.{◌∙◌}
use borrow.Author.Tests.{le-ltb}
use Rattle.text.proofs.Members.{has_low, has_high, member_none}
use Rattle.text.proofs.Set.has_member.Goals as goal

pub returns-then-i-lt-HALF_ROOM : goal.returns-then-i-lt-HALF_ROOM
returns-then-i-lt-HALF_ROOM c = search has_low

pub returns-then-i-lt-SET_ROOM : goal.returns-then-i-lt-SET_ROOM
returns-then-i-lt-SET_ROOM c = search has_high

pub returns-else-i-lt-SET_ROOM : goal.returns-else-i-lt-SET_ROOM
returns-else-i-lt-SET_ROOM c = le-ltb _ _ c.if-i-lt-SET_ROOM.false ∙ search member_none
