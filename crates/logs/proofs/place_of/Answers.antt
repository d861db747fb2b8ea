-- `place_of` meets its contract.
use borrow.Author.Tests.{eq-eqb, ne_eqb}
use Rattle.logs.proofs.place_of.Goals as goal

pub returns-then-v-eq-ETHER : goal.returns-then-v-eq-ETHER
returns-then-v-eq-ETHER c = search (eq-eqb)

pub returns : goal.returns
returns c = search (ne_eqb)
