-- Where verdicts are given.
use mathlib.Core.Bool.{Bool, true, false, cond}
use mathlib.Core.Path.{◌≡◌, refl}
use Rattle.model.specs.Tables.{Table}
use Rattle.model.specs.Cycles.{kept_row, kept, dropped, keeps, verdict, is_fm, is_verdict}
use Rattle.model.specs.declared.State.{State}
use Rattle.model.specs.declared.TaskStep.TheVariants.{St, Fm}
use Rattle.model.specs.declared.Step.{Step}
use Rattle.model.specs.declared.Step.TheVariants.{Wait, Sm, OfTask, OfAct}

-- a step gives a verdict exactly if it is `fm`
pub verdict_at_fm : (K : Table) (s : State) (x : Step) → is_verdict (verdict K s x) ≡ is_fm x
unfolding verdict
verdict_at_fm K s (Wait d) = refl
verdict_at_fm K s (Sm t n r) = refl
verdict_at_fm K s (OfTask t St) = refl
verdict_at_fm K s (OfAct a k) = refl
verdict_at_fm K s (OfTask t Fm) = go (keeps K (kept_row s t))
  where
    go : (b : Bool) → is_verdict (cond b (kept (kept_row s t)) dropped) ≡ true
    go true = refl
    go false = refl
