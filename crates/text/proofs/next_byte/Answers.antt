use mathlib.Core.Path.{refl}
use Prim.Native.Nat.{◌<◌, ◌-◌}
use native.Mathlib.Omega.{arith}
use lib.Dec.{eqb}
use lib.ListN.{length}
use borrow.Author.Rules.{rules}
use borrow.Author.Tests.{tests}
use Rattle.std.proofs.lemmas.Iterator.{YieldsList-from_slice}
use Rattle.std.proofs.lemmas.Iterator.Search.{position_from_yields_List}
use Rattle.text.proofs.Seeking.{find_among, find_past}
use Rattle.text.proofs.next_byte.Goals as goal

pub returns-in-Some : goal.returns-in-Some
returns-in-Some c =
    let l : c.loop-i.i < length c.args.s.now - 3 = omega (arith, c.loop-i-test.true, c.saturating_sub-most.ensures) in
    find_among _ _ c.args.b _ c.loop-i.invariant l _ _ refl (position_from_yields_List (λ x. eqb x c.args.b) _ _ c.position.result c.position.ensures.ran (YieldsList-from_slice _ c.iter.ensures.rest) (λ x b q k. search (rules, tests))) _ c.in-Some.is

pub loop-i-preserved : goal.loop-i-preserved
loop-i-preserved c =
    let l : c.loop-i.i < length c.args.s.now - 3 = omega (arith, c.loop-i-test.true, c.saturating_sub-most.ensures) in
    find_past _ _ c.args.b _ c.loop-i.invariant l _ _ refl (position_from_yields_List (λ x. eqb x c.args.b) _ _ c.position.result c.position.ensures.ran (YieldsList-from_slice _ c.iter.ensures.rest) (λ x b q k. search (rules, tests))) c.in_default.is
