-- The values of a state: how many there are, and where those of a task and of an activity stand.
use Prim.Native.Nat.{ℕ, zero, suc, ◌+◌, ◌*◌, ◌<◌}
use mathlib.Core.Path.{◌≡◌, refl, sym, ap, ◌∙◌}
use mathlib.Core.Logic.{⊎_elim}
use mathlib.Core.List.{List, [], ◌++◌}
use native.Mathlib.Omega.{arith}
use native.Mathlib.Nat.{mul-le-mul_right}
use lib.ListN.{length, get_or, length-append, get_or-append}
use lib.Seq.{get_or-append-add}
use Rattle.model.specs.Tables.{Table}
use Rattle.model.specs.States.{task_at, act_at}
use Rattle.model.specs.declared.State.{State}
use Rattle.model.proofs.Tests.{last_or}
use Rattle.saved.specs.Rows.{task_fields, act_fields, task_place, act_place, run_bits, halt_bits, task_values, act_values, tasks_values, acts_values, row_values}

-- the first n parts, one after another
abbrev pub parts : (ℕ → List ℕ) → ℕ → List ℕ
parts f zero = []
parts f (suc n) = parts f n ++ f n

-- so long are parts of one length
pub parts_length : (f : ℕ → List ℕ) (k n : ℕ) → ((i : ℕ) → length (f i) ≡ k) → length (parts f n) ≡ n * k
parts_length f k zero h = omega arith
parts_length f k (suc n) h = omega (arith, length-append (parts f n) (f n), parts_length f k n h, h n)

-- a value of one of them
parts_at : (f : ℕ → List ℕ) (k n : ℕ) → ((i : ℕ) → length (f i) ≡ k) → (i j : ℕ) → i < n → j < k → get_or (parts f n) (i * k + j) 0 ≡ get_or (f i) j 0
parts_at f k zero h i j l m = absurd (omega arith)
parts_at f k (suc n) h i j l m =
    ⊎_elim
    (λ e. let q : i * k + j ≡ length (parts f n) + j = omega (arith, ap (◌* k) e, parts_length f k n h) in
    ap (λ u. get_or (parts f n ++ f n) u 0) q ∙ get_or-append-add (parts f n) (f n) j 0 ∙ ap (λ u. get_or (f u) j 0) (sym e))
    (λ b. get_or-append (parts f n) (f n) 0 (i * k + j) (omega (arith, mul-le-mul_right k b, parts_length f k n h)) ∙ parts_at f k n h i j b m)
    (last_or i n l)

-- the parts of tasks and of activities are such parts
abbrev pub task_part : Table → State → ℕ → List ℕ
task_part K s t = task_values (task_at s t) (run_bits K s t K.nacts) (halt_bits K s t K.nacts)

abbrev pub act_part : State → ℕ → List ℕ
act_part s a = act_values (act_at s a)

pub tasks_are : (K : Table) (s : State) (n : ℕ) → tasks_values K s n ≡ parts (task_part K s) n
unfolding tasks_values
tasks_are K s zero = refl
tasks_are K s (suc n) = ap (◌++ task_part K s n) (tasks_are K s n)

pub acts_are : (s : State) (n : ℕ) → acts_values s n ≡ parts (act_part s) n
unfolding acts_values
acts_are s zero = refl
acts_are s (suc n) = ap (◌++ act_part s n) (acts_are s n)

-- so long are those of the first n tasks, of the first n activities
pub tasks_length : (K : Table) (s : State) (n : ℕ) → length (tasks_values K s n) ≡ n * task_fields
tasks_length K s n = ap length (tasks_are K s n) ∙ parts_length (task_part K s) task_fields n (λ i. refl)

acts_length : (s : State) (n : ℕ) → length (acts_values s n) ≡ n * act_fields
acts_length s n = ap length (acts_are s n) ∙ parts_length (act_part s) act_fields n (λ i. refl)

-- a state has as many values as its row has fields
pub values_length : (K : Table) (s : State) → length (row_values K s) ≡ 1 + K.ntasks * task_fields + K.nacts * act_fields
unfolding row_values
values_length K s = omega (arith, length-append (tasks_values K s K.ntasks) (acts_values s K.nacts), tasks_length K s K.ntasks, acts_length s K.nacts)

-- the values of a task, of an activity, stand at its place
pub task_value : (K : Table) (s : State) (t j : ℕ) → t < K.ntasks → j < task_fields → get_or (row_values K s) (task_place t + j) 0 ≡ get_or (task_part K s t) j 0
unfolding row_values
task_value K s t j l m =
    let e : task_place t + j ≡ suc (t * task_fields + j) = omega arith in
    ap (λ i. get_or (row_values K s) i 0) e
    ∙ get_or-append (tasks_values K s K.ntasks) (acts_values s K.nacts) 0 (t * task_fields + j) (omega (arith, tasks_length K s K.ntasks))
    ∙ ap (λ vs. get_or vs (t * task_fields + j) 0) (tasks_are K s K.ntasks)
    ∙ parts_at (task_part K s) task_fields K.ntasks (λ i. refl) t j l m

pub act_value : (K : Table) (s : State) (a j : ℕ) → a < K.nacts → j < act_fields → get_or (row_values K s) (act_place K a + j) 0 ≡ get_or (act_part s a) j 0
unfolding row_values
act_value K s a j l m =
    let e : act_place K a + j ≡ suc (length (tasks_values K s K.ntasks) + (a * act_fields + j)) = omega (arith, tasks_length K s K.ntasks) in
    ap (λ i. get_or (row_values K s) i 0) e
    ∙ get_or-append-add (tasks_values K s K.ntasks) (acts_values s K.nacts) (a * act_fields + j) 0
    ∙ ap (λ vs. get_or vs (a * act_fields + j) 0) (acts_are s K.nacts)
    ∙ parts_at (act_part s) act_fields K.nacts (λ i. refl) a j l m
