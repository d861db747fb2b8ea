-- The bench cases that document 01 marks [p], as one table; and table K with its log and report.
use Rattle.std.specs.Prelude.{Bool, true, false, not, List, [], ◌∷◌, ◌++◌, ℕ, eqb}
use Rattle.model.specs.Tests.{◌and◌, each}
use Rattle.model.specs.Tables.{Table, edge_is}
use Rattle.model.specs.States.{fresh}
use Rattle.model.specs.Rules.{room_for, refusal}
use Rattle.model.specs.Logs.{all_accepted, reached}
use Rattle.model.specs.Cycles.{Report}
use Rattle.model.specs.declared.Place.{Place}
use Rattle.model.specs.declared.Place.TheVariants.{Ether, Codel}
use Rattle.model.specs.declared.TaskStep.TheVariants.{St, Fm}
use Rattle.model.specs.declared.ActStep.TheVariants.{Lm, Ia, Ea, Cx, Fa}
use Rattle.model.specs.declared.Step.{Step}
use Rattle.model.specs.declared.Step.TheVariants.{Wait, Sm, OfTask, OfAct}

-- table K, but for its keep
abbrev pub one_task : ℕ → Table
one_task k = record {
  ntasks = 1;
  nacts = 1;
  ncodels = 1;
  nedges = 1;
  nmutex = 0;
  period = λ t. 10;
  keep = λ t. k;
  task = λ a. 0;
  owner = λ c. 0;
  kind = λ c. 0;
  limit = λ c. 20;
  edge = λ e. record { source = 0; target = Ether; pause = false };
  mutex = λ m. record { lo = 0; hi = 0 };
}

unfoldable pub table_k : Table
table_k = one_task 5

-- "Table M: two tasks, each `10 5` with one activity, one start codel of limit 4 with a `run` edge to ether, and `mutex 0 1`."
unfoldable pub table_m : Table
table_m = record {
  ntasks = 2;
  nacts = 2;
  ncodels = 2;
  nedges = 2;
  nmutex = 1;
  period = λ t. 10;
  keep = λ t. 5;
  task = λ a. a;
  owner = λ c. c;
  kind = λ c. 0;
  limit = λ c. 4;
  edge = λ e. record { source = e; target = Ether; pause = false };
  mutex = λ m. record { lo = 0; hi = 1 };
}

-- the steps in the words and fields of their log lines
abbrev pub wait : ℕ → Step
wait d = Wait d

abbrev pub st : ℕ → Step
st t = OfTask t St

abbrev pub sm : ℕ → ℕ → ℕ → Step
sm t n r = Sm t (record { low = n; high = 0 }) (record { low = r; high = 0 })

abbrev pub lm : ℕ → ℕ → Step
lm t a = OfAct a (Lm t)

abbrev pub ia : ℕ → Step
ia a = OfAct a Ia

abbrev pub ea : ℕ → ℕ → Step
ea a c = OfAct a (Ea (Codel c))

abbrev pub cx : ℕ → Step
cx a = OfAct a Cx

abbrev pub fa : ℕ → Place → Step
fa a p = OfAct a (Fa p)

abbrev pub fm : ℕ → Step
fm t = OfTask t Fm

-- the steps of K from fresh to date 10 with its signal set
abbrev pub signalled_k : List Step
signalled_k = wait 10 ∷ st 0 ∷ []

-- the steps of M from fresh to date 10 with both activities standing before their codels
abbrev pub standing : List Step
standing = wait 10 ∷ st 0 ∷ st 1 ∷ sm 0 1 0 ∷ sm 1 2 0 ∷ lm 0 0 ∷ lm 1 1 ∷ ea 0 0 ∷ ea 1 1 ∷ []

-- after these accepted steps from fresh, the step has that refusal
pub record Case : Type 0 where
  pub table : Table
  pub steps : List Step
  pub step : Step
  pub number : ℕ

-- the cases, of tables K and M
unfoldable pub bench_cases : Table → Table → List Case
bench_cases K M =
    record { table = K; steps = []; step = wait 10; number = 0 }
    ∷ record { table = K; steps = []; step = wait 11; number = 17 }
    ∷ record { table = K; steps = []; step = st 0; number = 14 }
    ∷ record { table = K; steps = []; step = lm 0 0; number = 13 }
    ∷ record { table = K; steps = wait 10 ∷ []; step = wait 1; number = 17 }
    ∷ record { table = K; steps = signalled_k; step = wait 20; number = 16 }
    ∷ record { table = K; steps = signalled_k; step = sm 0 2 0; number = 12 }
    ∷ record { table = K; steps = signalled_k ++ sm 0 1 0 ∷ lm 0 0 ∷ ea 0 0 ∷ []; step = fa 0 Ether; number = 14 }
    ∷ record { table = M; steps = standing; step = cx 0; number = 0 }
    ∷ record { table = M; steps = standing ++ cx 0 ∷ []; step = cx 1; number = 15 }
    ∷ record { table = M; steps = standing ++ cx 0 ∷ []; step = wait 1; number = 0 }
    ∷ []

unfoldable pub holds_in : Case → Bool
holds_in c = all_accepted c.table fresh c.steps and eqb (refusal c.table (reached c.table fresh c.steps) c.step) c.number

unfoldable pub all_hold : List Case → Bool
all_hold [] = true
all_hold (c ∷ cs) = holds_in c and all_hold cs

-- "`wait 20` 16, though 17 holds too": it would take the timer past its period as well
unfoldable pub past_too : Table → Bool
past_too K = not (room_for K (reached K fresh signalled_k) 20)

-- every case of document 01 that is marked [p]
abbrev pub bench_holds : Table → Table → Bool
bench_holds K M = all_hold (bench_cases K M) and past_too K

-- two tables with the same rows
abbrev pub same_task : Table → Table → ℕ → Bool
same_task K L t = eqb (K.period t) (L.period t) and eqb (K.keep t) (L.keep t)

abbrev pub same_codel : Table → Table → ℕ → Bool
same_codel K L c = eqb (K.owner c) (L.owner c) and eqb (K.kind c) (L.kind c) and eqb (K.limit c) (L.limit c)

abbrev pub same_mutex : Table → Table → ℕ → Bool
same_mutex K L m = eqb (K.mutex m).lo (L.mutex m).lo and eqb (K.mutex m).hi (L.mutex m).hi

unfoldable pub same_rows : Table → Table → Bool
same_rows K L =
    eqb K.ntasks L.ntasks
    and each K.ntasks (same_task K L)
    and eqb K.nacts L.nacts
    and each K.nacts (λ a. eqb (K.task a) (L.task a))
    and eqb K.ncodels L.ncodels
    and each K.ncodels (same_codel K L)
    and eqb K.nedges L.nedges
    and each K.nedges (λ e. edge_is (K.edge e) (L.edge e).source (L.edge e).target (L.edge e).pause)
    and eqb K.nmutex L.nmutex
    and each K.nmutex (same_mutex K L)

-- K's log, step by step as the page prints it
unfoldable pub log_k : List Step
log_k =
    wait 10 ∷ st 0 ∷ sm 0 1 0 ∷ lm 0 0 ∷ ea 0 0 ∷ wait 10 ∷ st 0 ∷ wait 10 ∷ fa 0 Ether ∷ fm 0
    ∷ sm 0 0 1 ∷ lm 0 0 ∷ ia 0 ∷ fm 0 ∷ st 0 ∷ sm 0 0 1 ∷ lm 0 0 ∷ ia 0 ∷ fm 0 ∷ []

-- "kept 0 1 10 30 1 20" (document 02), "sum 19 30 3 1 2 0 11 0 0"
unfoldable pub report_k : Report
report_k = record {
  kept = record { task = 0; cycle = 1; opened = 10; closed = 30; missed = 1; longest = 20 } ∷ [];
  sum = record { steps = 19; date = 30; opened = 3; kept = 1; dropped = 2; managing = 0; most = 11; refusal = 0; line = 0 };
}
