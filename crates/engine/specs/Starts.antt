-- Where a run may start: at a state and a tally, at a state with nothing counted yet, and at the fresh one.
use Rattle.model.specs.States.{fresh}
use Rattle.model.specs.declared.State.{State}
use Rattle.conflicts.specs.Busy.{busy_in}
use Rattle.managing.specs.Listed.{listed_in}
use Rattle.tally.specs.Tallies.{no_tally}
use Rattle.tally.specs.declared.Tally.{Tally}
use Rattle.engine.specs.declared.Going.{Going}

abbrev pub going_at : State → Tally → Going
going_at s c = record { state = s; busy = busy_in s; listed = listed_in s; tally = c }

abbrev pub going_from : State → Going
going_from s = going_at s no_tally

unfoldable pub fresh_going : Going
fresh_going = going_from fresh
