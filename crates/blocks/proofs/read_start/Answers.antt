-- What stands at the front of the block is what the reader gave.
use Rattle.std.proofs.Common.{rules, ◌+◌, arith}
use Rattle.blocks.proofs.Coming.{begins_more, of_first_error}
use Rattle.blocks.proofs.Starts.{start_less, start_few}
use Rattle.blocks.proofs.read_start.Goals as goal

pub returns-in_err-got-clause-lost : goal.returns-in_err-got-clause-lost
returns-in_err-got-clause-lost g c =
    let inv = c.loop-input.invariant in
    let told = c.in_err-got.ensures in
    of_first_error _ _ _ _ _ (c.loop-input.have + told.lost.0) (omega (arith, inv.long, told.lost.1))
    (begins_more _ _ _ _ _ _ _ told.stay inv.come told.lost.2)

pub loop-input-smaller : goal.loop-input-smaller
loop-input-smaller g c =
    start_less _ _ _ c.cut_known.ensures c.loop-input-test.true _ _ c.loop-input.invariant.long _ _ c.in_ok-got.ensures.fit

pub loop-input-preserved : goal.loop-input-preserved
loop-input-preserved g c =
    let inv = c.loop-input.invariant in
    let told = c.in_ok-got.ensures in
    record {
      long = search rules;
      within = search rules;
      come = begins_more _ _ _ _ _ _ _ told.stay inv.come told.come;
      end = λ _ h. told.end (search rules);
      few = start_few _ _ _ _ c.cut_known.ensures c.loop-input-test.true inv.within _;
    }
