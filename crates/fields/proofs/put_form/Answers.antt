-- `put_form` meets its contract.
use Rattle.text.specs.Fields.{ether_word}
use Rattle.fields.specs.Forms.{manager_word}
use Rattle.fields.proofs.Values.{put_holder, put_place, put_set, put_number}
use Rattle.fields.proofs.put_form.Goals as goal

pub returns-in-2 : goal.returns-in-2
unfolding manager_word
returns-in-2 c = search (put_holder)

pub returns-in-4 : goal.returns-in-4
unfolding ether_word
returns-in-4 c = search (put_place)

pub returns-in-3 : goal.returns-in-3
returns-in-3 c = search (put_set)

pub returns-in_default : goal.returns-in_default
returns-in_default c = search (put_number)
