-- `preparing::index_of` meets its contract.
use borrow.Author.Rules.{rules}
use Rattle.table.specs.Tables.{table_of}
use Rattle.preparing.specs.Filling.{Laid}
use Rattle.preparing.proofs.Whole.{laid, table_in_lem, prepared, all_filled}
use Rattle.preparing.proofs.index_of.Goals as goal

pub returns : goal.returns
unfolding table_of
returns c =
    let h : Laid c.args.t.now = laid c.args.t.now c.requires (search rules) (search rules) in
    let e = all_filled h _ _ _ _ _ _ _ c.note_counts.ensures c.fill.ensures c.fill-2.ensures c.note_ends.ensures c.note_ends-2.ensures c.note_kinds.ensures c.note_pairs.ensures in
    (e, rw e (prepared h), rw e (table_in_lem h))
