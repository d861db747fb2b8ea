-- `count_managing` meets its contract.
use Rattle.std.proofs.Common.{rules, ◌≡◌, ◌≤◌, ◌∙◌, length, take, arith}
use Rattle.std.specs.List.{count_by}
use Rattle.model.specs.Cycles.{managing}
use Rattle.tally.proofs.Counting.{few_tasks, counted_are}
use Rattle.tally.proofs.count_managing.Goals as goal

pub shared_ref_as_front-tasks : goal.shared_ref_as_front-tasks
shared_ref_as_front-tasks c = omega (arith, few_tasks c.args.component.now)

pub returns : goal.returns
unfolding managing
returns c =
    let counted : c.count.result ≡ count_by (λ x. x.managing) (take c.tasks.result c.args.s.tasks) = search rules in
    let l : c.tasks.result ≤ length c.args.s.tasks = omega (arith, few_tasks c.args.component.now) in
    counted ∙ rw (← c.tasks.ensures) (counted_are c.args.s.tasks c.tasks.result l)
