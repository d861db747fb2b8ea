use lib.ListN.{length-set}
use borrow.Author.Rules.{rules}
use Rattle.text.proofs.Spelling.{put_turn}
use Rattle.text.proofs.put_digits.Goals as goal

pub loop-j-preserved : goal.loop-j-preserved
loop-j-preserved c = (search rules, simp length-set c.loop-j.invariant.1, search (put_turn))
