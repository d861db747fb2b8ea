-- `past_holder` meets its contract.
use Rattle.fields.specs.Forms.{manager_word}
use Rattle.saved.proofs.Standing.{manager_past, activity_past}
use Rattle.saved.proofs.past_holder.Goals as goal

pub returns-in-Manager : goal.returns-in-Manager
unfolding manager_word
returns-in-Manager c = search (manager_past)

pub returns-in-Activity : goal.returns-in-Activity
returns-in-Activity c = search (activity_past)
