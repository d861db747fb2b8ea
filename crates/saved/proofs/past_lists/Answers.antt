-- `past_lists` meets its contract.
use Rattle.text.specs.Set.{set_text}
use Rattle.fields.specs.Forms.{form_text}
use Rattle.fields.specs.Fields.{fields_text}
use Rattle.fields.proofs.Standing.{past_inside}
use Rattle.saved.proofs.Standing.{none_past, lists_past}
use Rattle.saved.proofs.past_lists.Goals as goal

pub returns-then-not-managing : goal.returns-then-not-managing
unfolding fields_text form_text set_text
returns-then-not-managing c = search (none_past)

pub past_set-requires : goal.past_set-requires
past_set-requires c = search (past_inside)

pub returns : goal.returns
returns c = search (lists_past)
