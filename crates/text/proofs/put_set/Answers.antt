-- `put_set` meets its contract.
use Rattle.text.proofs.Laying.{put_none, put_whole}
use Rattle.text.proofs.Halves.{set_laid}
use Rattle.text.proofs.Sets.{length_set_text}
use Rattle.text.proofs.put_set.Goals as goal

pub returns-then-not-fits : goal.returns-then-not-fits
returns-then-not-fits c = search (put_none, length_set_text)

pub returns : goal.returns
returns c = search (put_whole, length_set_text, set_laid)
