-- `put_state` meets its contract. The word, the date, the tasks, the activities and the newline are written one behind the other.
use native.Mathlib.Omega.{arith}
use Rattle.saved.proofs.Writing.{date_room, tasks_room, acts_room, end_room, newline_room, row_put}
use Rattle.saved.proofs.put_state.Goals as goal

pub put_fields-p-requires : goal.put_fields-p-requires
put_fields-p-requires c = date_room _ _ c.args.component.now.prepared.formed c.requires.0 c.requires.1 c.put_bytes-w.ensures

pub put_tasks-q-requires : goal.put_tasks-q-requires
put_tasks-q-requires c = (c.requires.0, tasks_room _ _ c.args.component.now.prepared.formed c.requires.0 c.requires.1 c.put_bytes-w.ensures c.put_fields-p.ensures)

pub put_acts-e-requires : goal.put_acts-e-requires
put_acts-e-requires c = (c.requires.0, acts_room _ _ c.args.component.now.prepared.formed c.requires.0 c.requires.1 c.put_bytes-w.ensures c.put_fields-p.ensures c.put_tasks-q.ensures)

pub bounds-buf-e : goal.bounds-buf-e
bounds-buf-e c = newline_room _ _ c.args.component.now.prepared.formed c.requires.0 c.requires.1 c.put_bytes-w.ensures c.put_fields-p.ensures c.put_tasks-q.ensures c.put_acts-e.ensures

pub overflow_add-result : goal.overflow_add-result
overflow_add-result c = omega (arith, end_room _ _ c.args.component.now.prepared.formed c.requires.0 c.requires.1 c.put_bytes-w.ensures c.put_fields-p.ensures c.put_tasks-q.ensures c.put_acts-e.ensures)

pub returns : goal.returns
returns c = row_put _ _ c.args.component.now.prepared.formed c.requires.0 c.requires.1 c.put_bytes-w.ensures c.put_fields-p.ensures c.put_tasks-q.ensures c.put_acts-e.ensures
