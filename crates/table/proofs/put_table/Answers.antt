use Rattle.std.proofs.Common.{rules}
use mathlib.Core.Path.{◌∙◌}
use Rattle.table.proofs.Totals.{sum_counts}
use Rattle.table.proofs.Writing.{few, put_start, put_skip, put_more, put_end}
use Rattle.table.proofs.put_table.Goals as goal

pub loop-k-init : goal.loop-k-init
loop-k-init c = search (put_start)

pub loop-i-preserved : goal.loop-i-preserved
loop-i-preserved c = search (put_more)

pub loop-k-preserved : goal.loop-k-preserved
loop-k-preserved c = search (put_skip)

pub total-requires : goal.total-requires
total-requires c = rw (sum_counts c.args.t.now.counts (search rules)) (few c.args.t.now c.requires.0)

pub returns : goal.returns
returns c =
    put_end c.loop-k.invariant c.requires.1 _ _ _ c.put_row.ensures c.loop-k-test.false _ (c.total.ensures ∙ sum_counts c.args.t.now.counts (search rules)) c.end_row.ensures
