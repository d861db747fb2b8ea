-- `may_lead` meets its contract.
use borrow.Author.Tests.{ne_eqb}
use Rattle.table.proofs.Refusals.{leads_across, leads_on}
use Rattle.table.proofs.draft.Draft.may_lead.Goals as goal

pub returns-then-value : goal.returns-then-value
returns-then-value c = search (leads_on)

pub returns-else-value : goal.returns-else-value
returns-else-value c = rw (ne_eqb _ _ c.if-value.false) (leads_across _ _ _ _ _ c.if-r-eq-ETHER.false _ _ c.value.ensures.0 c.value-2.ensures.0 c.if-value.false)
