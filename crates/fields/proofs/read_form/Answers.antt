-- `read_form` meets its contract.
use mathlib.Core.Path.{◌≡◌}
use borrow.Author.Rules.{rules}
use Rattle.text.specs.Fields.{ether_word}
use Rattle.fields.specs.Forms.{manager_word, yes_of, set_of}
use Rattle.fields.proofs.Values.{read_holder, read_place, read_set_lem, read_yes, read_number_lem}
use Rattle.fields.proofs.read_form.Goals as goal

pub returns-in-2 : goal.returns-in-2
unfolding manager_word
returns-in-2 c = search (read_holder)

pub returns-in-4 : goal.returns-in-4
unfolding ether_word
returns-in-4 c = search (read_place)

pub returns-in-3 : goal.returns-in-3
returns-in-3 c =
    let e : c.map.result ≡ set_of c.read_set.result = search rules in
    search (read_set_lem)

pub returns-in-1 : goal.returns-in-1
returns-in-1 c =
    let e : c.filter.result ≡ yes_of c.read_number.result = search rules in
    search (read_yes)

pub returns-in_default : goal.returns-in_default
returns-in_default c = search (read_number_lem)
