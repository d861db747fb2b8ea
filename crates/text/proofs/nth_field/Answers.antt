use mathlib.Core.Path.{◌≡◌}
use Prim.Native.Nat.{◌-◌, ◌+◌}
use native.Mathlib.Omega.{arith}
use borrow.Author.Rules.{rules}
use Rattle.text.proofs.Fields.{field_start, field_here, field_more, field_gone}
use Rattle.text.proofs.nth_field.Goals as goal

pub loop-init : goal.loop-init
loop-init c = search (rules, field_start)

pub returns-then-line-e : goal.returns-then-line-e
returns-then-line-e c =
    let h = c.loop-test.true in
    field_gone _ _ _ c.loop.invariant.0 c.next_byte-e.ensures _ _ c.loop.invariant.1 (λ z. omega arith) c.if-line-e.true

pub loop-preserved : goal.loop-preserved
loop-preserved c =
    let h = c.loop-test.true in
    let e : c.args.i - (c.loop.counter + 1) ≡ c.args.i - c.loop.counter - 1 = omega arith in
    (search rules, rw e (field_more _ _ _ c.loop.invariant.0 c.next_byte-e.ensures _ _ c.loop.invariant.1 (λ z. omega arith)))

pub returns : goal.returns
returns c =
    let h = c.loop-test.false in
    field_here _ _ _ c.loop.invariant.0 c.next_byte.ensures _ _ c.loop.invariant.1 (omega arith)
