-- `put_bytes` meets its contract.
use lib.ListN.{length-set}
use borrow.Author.Rules.{rules}
use Rattle.text.proofs.Laying.{put_room, put_whole, copy_start, copy_more, copy_end}
use Rattle.text.proofs.put_bytes.Goals as goal

pub loop-i-init : goal.loop-i-init
loop-i-init c = (search (rules, put_room), search rules, search copy_start)

pub loop-i-preserved : goal.loop-i-preserved
loop-i-preserved c = (simp length-set c.loop-i.invariant.0, simp length-set c.loop-i.invariant.1, search (rules, copy_more))

pub returns : goal.returns
returns c = search (rules, put_whole, copy_end)
