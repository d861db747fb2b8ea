use Rattle.std.proofs.Common.{◌∙◌, arith, sym}
use Rattle.text.proofs.Picks.{cases, false_true}
use Rattle.table.proofs.Tests.{each_at, each_all}
use Rattle.saved.specs.Rows.{sets_within}
use Rattle.saved.proofs.sets_within.Goals as goal

pub returns-then-not-has_own_lists : goal.returns-then-not-has_own_lists
unfolding sets_within
returns-then-not-has_own_lists c = cases _ (λ b. absurd (false_true (c.if-not-has_own_lists.ensures ∙ each_at _ _ b _ (omega arith)))) sym

pub returns : goal.returns
unfolding sets_within
returns c = sym (each_all _ _ (λ j h. c.loop-t.invariant j (omega arith)))
