-- How many tasks manage, as they are counted, and the tally of a log that begins with a row.
use Prim.Native.Nat.{ℕ, zero, suc, ◌+◌, ◌≤◌}
use mathlib.Core.Path.{◌≡◌, refl, ap, ◌∙◌}
use mathlib.Core.Bool.{Bool}
use mathlib.Core.List.{List}
use native.Mathlib.Omega.{arith}
use lib.ListN.{length, get_or, take}
use Rattle.std.specs.List.{count_by}
use Rattle.std.proofs.lemmas.List.Sums.{count_by_more_no, count_by_more_yes}
use Rattle.text.proofs.Picks.{cases}
use Rattle.model.specs.Tests.{one, sum}
use Rattle.model.specs.Limits.{most_tasks}
use Rattle.model.specs.States.{no_task}
use Rattle.model.specs.Tables.{Table}
use Rattle.model.specs.Cycles.{managing}
use Rattle.model.specs.declared.State.{State}
use Rattle.model.specs.declared.Task.{Task}
use Rattle.prepared.specs.Held.{held}
use Rattle.prepared.specs.declared.component.Component.{Component}
use Rattle.prepared.proofs.Stored.{most_tasks_lem}
use Rattle.tally.specs.Tallies.{begun_with, began}
use Rattle.tally.specs.declared.Tally.{Tally}

-- the tally of a log that begins with a row, its managing tasks as they were found
pub began_known : (K : Table) (s : State) (n : ℕ) → n ≡ managing K s → (c : Tally) → c ≡ begun_with n → c ≡ began K s
unfolding began
began_known K s n h c e = rw (e, h)

-- there are at most sixteen tasks
pub few_tasks : (k : Component) → (held k).ntasks ≤ most_tasks
few_tasks k = most_tasks_lem k.prepared

-- how many of the first n manage
abbrev manages : Task → Bool
manages x = x.managing

pub counted_are : (l : List Task) (n : ℕ) → n ≤ length l → count_by manages (take n l) ≡ sum n (λ i. one (get_or l i no_task).managing)
unfolding sum
counted_are l zero h = refl
counted_are l (suc n) h =
    let e : suc n ≡ n + 1 = omega arith in
    ap (λ k. count_by manages (take k l)) e ∙ cases (get_or l n no_task).managing
    (λ e. rw (count_by_more_yes manages l n no_task (omega arith) e, counted_are l n (omega arith), e))
    (λ e. rw (count_by_more_no manages l n no_task (omega arith) e, counted_are l n (omega arith), e) (omega arith))
