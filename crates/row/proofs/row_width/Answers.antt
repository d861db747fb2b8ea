-- `row_width` meets its contract.
use mathlib.Core.Path.{ap}
use lib.ListN.{length}
use Rattle.row.proofs.Writing.{word_said, width_whole}
use Rattle.row.proofs.row_width.Goals as goal

pub returns : goal.returns
returns c =
    width_whole _ _ _ _ _ _ _ _ (ap length (word_said c.kind_at.result c.args.r.kind c.kind_at.ensures)) c.form_of.ensures c.field_width-a.ensures.0 c.form_of-2.ensures c.field_width-b.ensures.0 c.form_of-3.ensures c.field_width-c.ensures.0
