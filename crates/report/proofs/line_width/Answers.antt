use native.Mathlib.Omega.{arith}
use Rattle.report.proofs.Lines.{width_small, width_more, width_all}
use Rattle.report.proofs.line_width.Goals as goal

pub overflow_add-width-in-loop-n : goal.overflow_add-width-in-loop-n
overflow_add-width-in-loop-n c = omega (arith, width_small _ _ c.width.ensures)

pub overflow_add-width-in-loop-n-2 : goal.overflow_add-width-in-loop-n-2
overflow_add-width-in-loop-n-2 c = omega (arith, width_small _ _ c.width.ensures)

pub loop-n-preserved : goal.loop-n-preserved
loop-n-preserved c = (omega (arith, width_small _ _ c.width.ensures), search (width_more))

pub returns : goal.returns
returns c = search (width_all)
