use Rattle.std.proofs.Common.{◌∙◌, sym, arith}
use Rattle.text.proofs.Picks.{cases, false_true}
use Rattle.model.specs.Tests.{each}
use Rattle.table.proofs.Tests.{each_at, each_all}
use Rattle.soundness.proofs.all_below.Goals as goal

pub returns-then-not-test : goal.returns-then-not-test
returns-then-not-test g c p q = cases (each c.args.n p) (λ b. absurd (false_true (q _ _ c.loop-k-test.true c.if-not-test.ensures ∙ each_at c.args.n p b _ c.loop-k-test.true))) sym

pub returns : goal.returns
returns g c p q = sym (each_all c.args.n p (λ i l. sym (q i _ l (c.loop-k.invariant i (omega arith)))))
