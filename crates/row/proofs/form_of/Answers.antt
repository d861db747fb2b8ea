-- `form_of` meets its contract.
use mathlib.Core.Path.{ap, ◌∙◌}
use Rattle.std.specs.Prelude.{slice_get}
use Rattle.row.specs.Kinds.{RowKind, form_of}
use Rattle.row.proofs.Tables.{got_is}
use Rattle.row.proofs.form_of.Goals as goal

pub returns : goal.returns
unfolding form_of
returns c = c.copied.ensures ∙ got_is _ _ _ c.get.ensures.lookup.3 ∙ ap (λ (x : RowKind). slice_get x.fields c.args.j) c.kind_at.ensures
