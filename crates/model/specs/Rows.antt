-- The refusals 2 to 5 of each row and 7 of the whole, in document 01's order; a table is well formed where there is none. Each row is
-- told how many rows of its kind stand before it. That kinds come in their order is the text's business.
use Rattle.std.specs.Prelude.{Bool, true, false, not, ℕ, leb, ltb, eqb}
use Rattle.model.specs.Tests.{◌and◌, ◌or◌, each, some, after, need, accepted}
use Rattle.model.specs.Limits.{most_tasks, most_acts, most_codels, most_edges, most_mutexes, in_range}
use Rattle.model.specs.Tables.{Table, EdgeRow, MutexRow, known, is_kind, is_start}
use Rattle.model.specs.declared.Place.{Place}
use Rattle.model.specs.declared.Place.TheVariants.{Ether, Codel}

-- task: 3 "one row too many of its kind; period, keep or limit out of range"
abbrev pub task_fault : ℕ → ℕ → ℕ → ℕ
task_fault n period keep =
    need (ltb n most_tasks and in_range period and in_range keep) 3
    0

-- act: 2 "Act rows do not fall by task"; 4 "a number names no earlier row"
abbrev pub act_fault : Table → ℕ → ℕ → ℕ
act_fault K n t =
    need (after n (λ a. leb (K.task a) t)) 2
    (need (ltb n most_acts) 3
    (need (ltb t K.ntasks) 4
    0))

-- codel: 2 "nor codel rows by activity"; 5 "second start or stop of an activity"
abbrev pub codel_fault : Table → ℕ → ℕ → ℕ → ℕ → ℕ
codel_fault K n a z limit =
    need (after n (λ c. leb (K.owner c) a)) 2
    (need (ltb n most_codels and in_range limit) 3
    (need (ltb a K.nacts) 4
    (need (leb 2 z or each n (λ c. not (is_kind K a z c))) 5
    0)))

-- "Edge rows rise strictly by the pair (codel, target), `ether` after every number."
abbrev pub place_below : Place → Place → Bool
place_below Ether q = false
place_below (Codel c) Ether = true
place_below (Codel c) (Codel d) = ltb c d

abbrev pub edge_below : EdgeRow → ℕ → Place → Bool
edge_below r c p = ltb r.source c or (eqb r.source c and place_below r.target p)

-- "an edge stays in one activity; no edge goes to a stop codel; no pause goes to ether"
abbrev pub target_ok : Table → ℕ → Place → Bool → Bool
target_ok K c Ether pause = not pause
target_ok K c (Codel d) pause = eqb (K.owner d) (K.owner c) and not (eqb (K.kind d) 1)

-- edge: 5 "edge across activities, to a stop, or a pause to ether"
abbrev pub edge_fault : Table → ℕ → ℕ → Place → Bool → ℕ
edge_fault K n c p pause =
    need (after n (λ e. edge_below (K.edge e) c p)) 2
    (need (ltb n most_edges) 3
    (need (ltb c K.ncodels and known K p) 4
    (need (target_ok K c p pause) 5
    0)))

-- "A mutex row has the smaller codel first; mutex rows rise strictly."
abbrev pub mutex_below : MutexRow → ℕ → ℕ → Bool
mutex_below r lo hi = ltb r.lo lo or (eqb r.lo lo and ltb r.hi hi)

-- "a mutex pair spans two tasks"
abbrev pub spans_two : Table → ℕ → ℕ → Bool
spans_two K lo hi = not (eqb (K.task (K.owner lo)) (K.task (K.owner hi)))

-- mutex: 2 "mutex with the larger codel first"; 5 "mutex inside one task"
abbrev pub mutex_fault : Table → ℕ → ℕ → ℕ → ℕ
mutex_fault K n lo hi =
    need (leb lo hi and after n (λ m. mutex_below (K.mutex m) lo hi)) 2
    (need (ltb n most_mutexes) 3
    (need (ltb lo K.ncodels and ltb hi K.ncodels) 4
    (need (spans_two K lo hi) 5
    0)))

-- 7 "no task, a task without activity, an activity without start, a codel without edge"
abbrev pub has_act : Table → ℕ → Bool
has_act K t = some K.nacts (λ a. eqb (K.task a) t)

abbrev pub has_start : Table → ℕ → Bool
has_start K a = some K.ncodels (is_start K a)

abbrev pub leaves : Table → ℕ → Bool
leaves K c = some K.nedges (λ e. eqb (K.edge e).source c)

unfoldable pub last_fault : Table → ℕ
last_fault K =
    need (leb 1 K.ntasks and each K.ntasks (has_act K) and each K.nacts (has_start K) and each K.ncodels (leaves K)) 7
    0

-- the rows of a table, by their numbers
abbrev pub task_fine : Table → ℕ → Bool
task_fine K t = accepted (task_fault t (K.period t) (K.keep t))

abbrev pub act_fine : Table → ℕ → Bool
act_fine K a = accepted (act_fault K a (K.task a))

abbrev pub codel_fine : Table → ℕ → Bool
codel_fine K c = accepted (codel_fault K c (K.owner c) (K.kind c) (K.limit c))

abbrev pub edge_fine : Table → ℕ → Bool
edge_fine K e = accepted (edge_fault K e (K.edge e).source (K.edge e).target (K.edge e).pause)

abbrev pub mutex_fine : Table → ℕ → Bool
mutex_fine K m = accepted (mutex_fault K m (K.mutex m).lo (K.mutex m).hi)

-- a table that is not refused
unfoldable pub wellformed : Table → Bool
wellformed K =
    each K.ntasks (task_fine K)
    and each K.nacts (act_fine K)
    and each K.ncodels (codel_fine K)
    and each K.nedges (edge_fine K)
    and each K.nmutex (mutex_fine K)
    and accepted (last_fault K)
