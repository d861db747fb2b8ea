use mathlib.Core.Path.{sym, ◌∙◌}
use borrow.Author.Tests.{ne_eqb}
use Rattle.model.proofs.Tests.{true_T}
use Rattle.engine.proofs.Finding.{found}
use Rattle.engine.proofs.Passing.{first_stays, row_cut, row_other, row_same}
use Rattle.engine.proofs.row_end.Goals as goal
use Rattle.engine.proofs.row_end.Goals.{else-p-log-via-then-p-log+else-log-p-eq-NEWLINE, else-p-log-via-else-p-log}

pub returns-then-lines-eq0 : goal.returns-then-lines-eq0
returns-then-lines-eq0 c = first_stays _ _ _ _ _ _ (sym c.lines.ensures ∙ c.if-lines-eq0.true)

pub returns-then-log-p-eq-NEWLINE : goal.returns-then-log-p-eq-NEWLINE
returns-then-log-p-eq-NEWLINE c =
    row_same _ (true_T _ c.args.component.now.prepared.formed) _ (found c.args.component.now.prepared c.requires.0).sound _ (ne_eqb _ _ (λ z. c.if-lines-eq0.false (c.lines.ensures ∙ z))) _ _ _ c.requires.1 c.past_acts-p.ensures c.if-p-log.true c.if-log-p-eq-NEWLINE.true

pub returns-else-p-log : goal.returns-else-p-log
returns-else-p-log c =
    let wf = true_T _ c.args.component.now.prepared.formed in
    let S = (found c.args.component.now.prepared c.requires.0).sound in
    let n = ne_eqb _ _ (λ z. c.if-lines-eq0.false (c.lines.ensures ∙ z)) in
    elim c.else-p-log.branch [
      | else-p-log-via-else-p-log w ↦ row_cut _ wf _ S _ n _ _ _ c.requires.1 c.past_acts-p.ensures w.if-p-log.false
      | else-p-log-via-then-p-log+else-log-p-eq-NEWLINE w ↦ row_other _ wf _ S _ n _ _ _ c.requires.1 c.past_acts-p.ensures w.if-p-log.true w.if-log-p-eq-NEWLINE.false
    ]
