-- What stands behind the bytes that the block had is what the reader gave.
use Rattle.std.proofs.Common.{rules, arith}
use Rattle.blocks.proofs.Coming.{staying, comes_more, comes_kept, of_error}
use Rattle.blocks.proofs.read_behind.Goals as goal

pub returns-in_err-got-clause-lost : goal.returns-in_err-got-clause-lost
returns-in_err-got-clause-lost g c =
    let inv = c.loop-at.invariant in
    of_error _ _ _ _ _ _ _ (omega (arith, inv.long, inv.least, inv.most))
    (comes_kept _ _ _ _ _ _ _ inv.least c.in_err-got.ensures.stay inv.come c.in_err-got.ensures.lost)

pub loop-at-preserved : goal.loop-at-preserved
loop-at-preserved g c =
    let inv = c.loop-at.invariant in
    let told = c.in_ok-got.ensures in
    record {
      long = search rules;
      least = omega (arith, inv.least);
      most = search rules;
      stay = staying _ _ _ _ _ inv.least told.stay inv.stay;
      come = comes_more _ _ _ _ _ _ _ inv.least told.stay inv.come _ told.come;
    }
