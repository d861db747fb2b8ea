-- The codels of a mutex row have an activity each, and the state has both.
use Rattle.std.proofs.Common.{arith}
use Rattle.soundness.proofs.Rooms.{owner_room, rooms}
use Rattle.soundness.proofs.fn.pairs_apart.all_below.Goals as goal

pub owner_of-requires : goal.owner_of-requires
owner_of-requires c = search rooms

pub offset_bounds-s-owner_of : goal.offset_bounds-s-owner_of
offset_bounds-s-owner_of c = omega (arith, owner_room c.captures.component.now _ _ c.owner_of.ensures (search rooms))

pub bounds-s-owner_of : goal.bounds-s-owner_of
bounds-s-owner_of c = search rooms

pub owner_of-requires-2 : goal.owner_of-requires-2
owner_of-requires-2 c = search rooms

pub offset_bounds-s-owner_of-2 : goal.offset_bounds-s-owner_of-2
offset_bounds-s-owner_of-2 c = omega (arith, owner_room c.captures.component.now _ _ c.owner_of-2.ensures (search rooms))

pub bounds-s-owner_of-2 : goal.bounds-s-owner_of-2
bounds-s-owner_of-2 c = search rooms
