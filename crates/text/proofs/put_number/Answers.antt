-- `put_number` meets its contract.
use Rattle.text.specs.Number.{digits}
use Rattle.text.proofs.Laying.{put_none, put_whole}
use Rattle.text.proofs.Decimals.{number_length, number_laid}
use Rattle.text.proofs.put_number.Goals as goal

pub returns-then-not-fits : goal.returns-then-not-fits
returns-then-not-fits c = search (put_none, number_length)

pub returns : goal.returns
unfolding digits
returns c = search (put_whole, number_length, number_laid)
