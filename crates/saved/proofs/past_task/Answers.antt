-- `past_task` meets its contract. Each field is looked for from where the one before it ends, which is within the log.
use Rattle.fields.proofs.Standing.{past_inside}
use Rattle.saved.proofs.Standing.{task_past}
use Rattle.saved.proofs.past_task.Goals as goal

pub past_number-b-requires : goal.past_number-b-requires
past_number-b-requires c = search past_inside depth 24

pub past_number-c-requires : goal.past_number-c-requires
past_number-c-requires c = search past_inside depth 24

pub past_holder-d-requires : goal.past_holder-d-requires
past_holder-d-requires c = (search past_inside depth 24, c.requires.3)

pub past_lists-e-requires : goal.past_lists-e-requires
past_lists-e-requires c = (c.requires.0, c.requires.1, search past_inside depth 24, c.requires.4)

pub past_number-f-requires : goal.past_number-f-requires
past_number-f-requires c = search past_inside depth 24

pub past_number-g-requires : goal.past_number-g-requires
past_number-g-requires c = search past_inside depth 24

pub past_number-i-requires : goal.past_number-i-requires
past_number-i-requires c = search past_inside depth 24

pub past_number-requires : goal.past_number-requires
past_number-requires c = search past_inside depth 24

pub returns : goal.returns
returns c = search task_past
