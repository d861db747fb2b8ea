-- `put_refusal` meets its contract.
use Prim.Native.Nat.{◌<◌}
use native.Mathlib.Omega.{arith}
use Rattle.reaching.proofs.Writing.{tab_room, newline_room, newline_inside, refusal_put}
use Rattle.text.proofs.Seeking.{part_long}
use Rattle.reaching.proofs.put_refusal.Goals as goal

pub bounds-text-tab : goal.bounds-text-tab
bounds-text-tab c = search (tab_room)

pub overflow_add-tab : goal.overflow_add-tab
overflow_add-tab c = let h : c.put_number-tab.result < 48 = search (tab_room) in omega (arith, h)

pub bounds-text-newline : goal.bounds-text-newline
bounds-text-newline c = search (newline_room)

pub overflow_add-text : goal.overflow_add-text
overflow_add-text c = let h : c.put_number-newline.result < 48 = search (newline_room) in omega (arith, h)

pub slice_bounds-text-end : goal.slice_bounds-text-end
slice_bounds-text-end c = search (newline_inside)

pub slice_bounds-put_bytes-end : goal.slice_bounds-put_bytes-end
slice_bounds-put_bytes-end c = part_long _ _ (search (newline_inside))

pub returns : goal.returns
returns c = search (refusal_put)
