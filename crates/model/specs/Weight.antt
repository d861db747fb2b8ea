-- How many steps other than waits a state still allows at most before time must pass: a number for each task and each activity. It is
-- what demand 3's bound is proved by; nothing in document 01 names it.
use Rattle.std.specs.Prelude.{cond, ℕ, ◌+◌, ◌*◌, leb, eqb}
use Rattle.model.specs.Tests.{◌and◌, ◌or◌, one, sum}
use Rattle.model.specs.Tables.{Table}
use Rattle.model.specs.States.{task_at, act_at, by_manager, held_by}
use Rattle.model.specs.declared.Task.{Task}
use Rattle.model.specs.declared.Act.{Act}
use Rattle.model.specs.declared.State.{State}
use Rattle.model.specs.declared.Place.{Place}
use Rattle.model.specs.declared.Place.TheVariants.{Ether, Codel}

-- signals that can still open a cycle at this date: the one that is set, and the one that is due
abbrev pub rounds : ℕ → Task → ℕ
rounds period x = one x.signal + one (eqb x.timer period)

abbrev pub weight_task : ℕ → Task → ℕ
weight_task period x = one (eqb x.timer period) + 2 * rounds period x + one (x.managing and by_manager x.holder)

-- of a holder not in R, at a place
abbrev pub left_at : Act → Place → ℕ
left_at y Ether = 2
left_at y (Codel c) = cond y.executing (2 * one (leb 1 y.clock)) 1

abbrev pub left : ℕ → Task → Act → ℕ
left a x y = cond (held_by x.holder a) (cond y.halt 2 (left_at y y.place)) (2 * one (y.run or y.halt))

abbrev pub weight_act : ℕ → ℕ → Task → Act → ℕ
weight_act period a x y = 2 * rounds period x + left a x y

unfoldable pub task_sum : Table → State → ℕ
task_sum K s = sum K.ntasks (λ t. weight_task (K.period t) (task_at s t))

unfoldable pub act_sum : Table → State → ℕ
act_sum K s = sum K.nacts (λ a. weight_act (K.period (K.task a)) a (task_at s (K.task a)) (act_at s a))

abbrev pub weight : Table → State → ℕ
weight K s = task_sum K s + act_sum K s
