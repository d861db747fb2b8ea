use native.Mathlib.Omega.{arith}
use mathlib.Core.Logic.{⊎_elim}
use Rattle.fields.proofs.Writing.{writing_start, writing_room, writing_more, writing_end}
use Rattle.fields.proofs.put_fields.Goals as goal

pub loop-form-init : goal.loop-form-init
loop-form-init c =
    rw (c.into_iter-form-iterator.ensures.into_iter_gives, c.zip-form-items.ensures.first, c.zip-form-items.ensures.second.0, c.iter.ensures.rest)
    (writing_start _ _ _ _ c.requires.0)

pub bounds-buf-end : goal.bounds-buf-end
bounds-buf-end c = writing_room _ _ _ _ _ _ _ _ _ _ (rw (c.in-Some.ensures.steps.0, c.in-Some.ensures.steps.1) at c.loop-form.invariant) c.requires.1

pub overflow_add-end : goal.overflow_add-end
overflow_add-end c = let h = writing_room _ _ _ _ _ _ _ _ _ _ (rw (c.in-Some.ensures.steps.0, c.in-Some.ensures.steps.1) at c.loop-form.invariant) c.requires.1 in omega arith

pub loop-form-preserved : goal.loop-form-preserved
loop-form-preserved c = writing_more _ _ _ _ _ _ _ _ _ _ (rw (c.in-Some.ensures.steps.0, c.in-Some.ensures.steps.1) at c.loop-form.invariant) c.requires.1 _ _ c.put_form-end.ensures

pub returns : goal.returns
returns c = writing_end _ _ _ _ _ _ _ _ c.loop-form.invariant (⊎_elim (λ x. x.1.0) (λ x. omega (arith, x.1.0, c.loop-form.invariant.enough)) c.in-None.ensures.steps)
