-- `task_at` meets its contract. Each field is read from where the one before it ends, which is within the log.
use Rattle.saved.proofs.InPlace.{inside, task_found}
use Rattle.saved.proofs.task_at.Goals as goal

pub yes_at-signal-requires : goal.yes_at-signal-requires
yes_at-signal-requires c = search inside depth 24

pub yes_at-managing-requires : goal.yes_at-managing-requires
yes_at-managing-requires c = search inside depth 24

pub word_at-holder-requires : goal.word_at-holder-requires
word_at-holder-requires c = search inside depth 24

pub list_at-run-requires : goal.list_at-run-requires
list_at-run-requires c = (c.requires.0, search inside depth 24)

pub list_at-halt-requires : goal.list_at-halt-requires
list_at-halt-requires c = (c.requires.0, search inside depth 24)

pub number_at-cycle-requires : goal.number_at-cycle-requires
number_at-cycle-requires c = search inside depth 24

pub number_at-opened-requires : goal.number_at-opened-requires
number_at-opened-requires c = search inside depth 24 fits 20000

pub number_at-missed-requires : goal.number_at-missed-requires
number_at-missed-requires c = search inside depth 24 fits 20000

pub number_at-longest-requires : goal.number_at-longest-requires
number_at-longest-requires c = search inside depth 24 fits 20000

pub returns : goal.returns
returns c = search task_found
