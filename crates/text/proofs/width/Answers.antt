-- `width` meets its contract.
use Prim.Native.Nat.{◌+◌}
use mathlib.Core.Path.{◌≡◌, refl, ◌∙◌}
use borrow.Author.Rules.{rules}
use Rattle.text.specs.Number.{width_of}
use Rattle.text.proofs.Decimals.{width_here, width_more, width_last, power_next, power_small}
use Rattle.text.proofs.width.Goals as goal

pub loop-w-init : goal.loop-w-init
unfolding width_of
loop-w-init c = (search rules, refl, refl)

pub returns-then-n-power : goal.returns-then-n-power
returns-then-n-power c = width_here _ _ _ c.loop-w.invariant.2 _ c.loop-w.invariant.1 (search rules) c.if-n-power.true

pub overflow_mul-power : goal.overflow_mul-power
overflow_mul-power c = search (rules, power_small)

pub loop-w-preserved : goal.loop-w-preserved
loop-w-preserved c = (search rules, search power_next, width_more _ _ _ c.loop-w.invariant.2 _ c.loop-w.invariant.1 (search rules) c.if-n-power.false)

pub returns-then-n-power-2 : goal.returns-then-n-power-2
returns-then-n-power-2 c = let e : 19 ≡ c.loop-w.w = search rules in e ∙ width_here _ _ _ c.loop-w.invariant.2 _ c.loop-w.invariant.1 (search rules) c.if-n-power-2.true

pub returns-else-n-power-2 : goal.returns-else-n-power-2
returns-else-n-power-2 c = let e : 20 ≡ c.loop-w.w + 1 = search rules in e ∙ width_last _ _ _ c.loop-w.invariant.2 _ c.loop-w.invariant.1 (search rules) (search rules) c.if-n-power-2.false
