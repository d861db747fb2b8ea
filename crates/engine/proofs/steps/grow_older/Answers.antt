use native.Mathlib.Omega.{arith}
use mathlib.Core.Path.{refl}
use Rattle.engine.proofs.Finding.{found}
use Rattle.engine.proofs.Waiting.{ages_none, timer_small, ager_fits, clock_small, ages_manager, ages_activity, ages_all}
use Rattle.engine.proofs.steps.grow_older.Goals as goal
use Rattle.engine.proofs.steps.grow_older.Goals.{in-Activity, in_default}

pub loop-t-init : goal.loop-t-init
loop-t-init c = search (found, ages_none)

pub overflow_add-going : goal.overflow_add-going
overflow_add-going c = omega (arith, timer_small c.loop-t.invariant c.loop-t-test.true, c.loop-t.invariant.ticks)

pub offset_bounds-going-a : goal.offset_bounds-going-a
offset_bounds-going-a c = omega (arith, ager_fits c.loop-t.invariant c.loop-t-test.true _ c.in-Activity.is)

pub bounds-going-a : goal.bounds-going-a
bounds-going-a c = ager_fits c.loop-t.invariant c.loop-t-test.true _ c.in-Activity.is

pub older_clock-requires : goal.older_clock-requires
older_clock-requires c = (clock_small c.loop-t.invariant c.loop-t-test.true _ c.in-Activity.is, c.loop-t.invariant.ticks)

pub offset_bounds-going-a-in-Activity : goal.offset_bounds-going-a-in-Activity
offset_bounds-going-a-in-Activity c = omega (arith, ager_fits c.loop-t.invariant c.loop-t-test.true _ c.in-Activity.is)

pub bounds-going-a-in-Activity : goal.bounds-going-a-in-Activity
bounds-going-a-in-Activity c = ager_fits c.loop-t.invariant c.loop-t-test.true _ c.in-Activity.is

pub loop-t-preserved : goal.loop-t-preserved
loop-t-preserved c =
    elim c.match-holder.branch [
      | in-Activity w ↦ rw w.going-is (ages_activity c.loop-t.invariant c.loop-t-test.true _ w.in-Activity.is w.older_clock.ensures)
      | in_default w ↦ rw w.going-is (ages_manager c.loop-t.invariant c.loop-t-test.true w.in_default.is)
    ]

pub returns : goal.returns
returns c = ages_all c.loop-t.invariant c.loop-t.auto.t-end c.loop-t-test.false refl
