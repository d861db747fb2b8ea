-- The steps of document 01: for each its refusal, tested in the page's order (0: accepted), and the next state.
use Rattle.std.specs.Prelude.{Bool, true, false, not, List, ℕ, zero, suc, ◌+◌, max, get_or, set, leb, ltb, eqb, Option, Some, None}
use Rattle.text.specs.Set.{empty_set, member, each_member}
use Rattle.text.specs.declared.Set.{Set}
use Rattle.model.specs.Tests.{◌and◌, ◌or◌, ◌implies◌, each, some, need, accepted}
use Rattle.model.specs.Limits.{in_range, ceiling}
use Rattle.model.specs.Tables.{Table, is_ether, known, is_start, is_stop, has_edge, safe}
use Rattle.model.specs.States.{no_task, no_act, task_at, act_at, by_manager, holds, in_sets, stands, executes, clear_at}
use Rattle.model.specs.Records.{with_timer, with_signal, with_managing, with_holder, with_cycle, with_opened, with_missed, with_longest, with_place, with_executing, with_clock, in_lists, with_date, with_tasks, with_acts}
use Rattle.model.specs.declared.Task.{Task}
use Rattle.model.specs.declared.Act.{Act}
use Rattle.model.specs.declared.State.{State}
use Rattle.model.specs.declared.Place.{Place}
use Rattle.model.specs.declared.Place.TheVariants.{Ether, Codel}
use Rattle.model.specs.declared.Holder.{Holder}
use Rattle.model.specs.declared.Holder.TheVariants.{Manager, Activity}
use Rattle.model.specs.declared.TaskStep.{TaskStep}
use Rattle.model.specs.declared.TaskStep.TheVariants.{St, Fm}
use Rattle.model.specs.declared.ActStep.{ActStep}
use Rattle.model.specs.declared.ActStep.TheVariants.{Lm, Ia, Ea, Cx, Fa}
use Rattle.model.specs.declared.Step.{Step}
use Rattle.model.specs.declared.Step.TheVariants.{Wait, Sm, OfTask, OfAct}

-- "Enter c" means: clock 0; executing if c is thread safe, else standing before it.
abbrev pub entered : Table → ℕ → Act → Act
entered K c y = with_place (Codel c) (with_executing (safe K c) (with_clock 0 y))

-- "Give back" means: A leaves N and R, stops executing, its clock becomes 0, and the manager holds: A's record at the place p, and its
-- task's, whose longest is at least the clock k.
abbrev pub rested : Place → Act
rested p = with_place p no_act

abbrev pub held : Holder → ℕ → Task → Task
held h k x = with_holder h (with_longest (max x.longest k) x)

-- a state with one task's record anew; with one task's and one activity's
abbrev pub put_task : State → ℕ → Task → State
put_task s t x = with_tasks (set s.tasks t x) s

abbrev pub put_both : State → ℕ → Task → ℕ → Act → State
put_both s t x a y = with_acts (set s.acts a y) (put_task s t x)

-- each of the first n rows of a list anew, by a function that is told the row's number
unfoldable pub anew : {A : Type 0} → ℕ → (ℕ → A → A) → A → List A → List A
anew zero f d l = l
anew (suc n) f d l = set (anew n f d l) n (f n (get_or l n d))

-- "`st` task: timer equals the period. Timer 0, signal set"
abbrev pub st_refusal : Table → State → ℕ → ℕ
st_refusal K s t =
    need (ltb t K.ntasks) 12
    (need (eqb (task_at s t).timer (K.period t)) 14
    0)

abbrev pub one_more : Bool → ℕ → ℕ
one_more true n = n + 1
one_more false n = n

-- "missed grows at each `st` accepted while the cycle is open, set or not" (document 02)
abbrev pub misses : Task → Bool
misses x = x.managing

abbrev pub signalled : Task → Task
signalled x = with_timer 0 (with_signal true (with_missed (one_more (misses x) x.missed) x))

abbrev pub st_next : State → ℕ → State
st_next s t = put_task s t (signalled (task_at s t))

-- "`sm` task N R: manager waiting, signal set. Signal cleared, managing, sets as given (they may overlap), cycle number up by 1, open
-- date = date." 12: "a set outside its task"
unfoldable pub within : Table → ℕ → Set → Bool
within K t n = each_member n (λ i. ltb i K.nacts and eqb (K.task i) t)

abbrev pub sm_refusal : Table → State → ℕ → Set → Set → ℕ
sm_refusal K s t n r =
    need (ltb t K.ntasks and within K t n and within K t r) 12
    (need (not (task_at s t).managing and (task_at s t).signal) 13
    0)

abbrev pub managed : ℕ → Task → Task
managed date x = with_signal false (with_managing true (with_cycle (x.cycle + 1) (with_opened date x)))

abbrev pub listed : Bool → Set → Set → ℕ → Act → Act
listed true n r a y = in_lists (member n a) (member r a) y
listed false n r a y = y

abbrev pub sm_next : Table → State → ℕ → Set → Set → State
sm_next K s t n r = with_acts (anew K.nacts (λ a. listed (eqb (K.task a) t) n r a) no_act s.acts) (put_task s t (managed s.date (task_at s t)))

-- "`lm` task A: managing and holding, A in N or R. A holds; if A is not in R and is at a codel, it enters that codel again."
abbrev pub lm_refusal : Table → State → ℕ → ℕ → ℕ
lm_refusal K s t a =
    need (ltb t K.ntasks and ltb a K.nacts) 12
    (need ((task_at s t).managing and by_manager (task_at s t).holder and in_sets K s t a) 13
    0)

abbrev pub again : Table → Bool → Place → Act → Act
again K true p y = y
again K false Ether y = y
again K false (Codel c) y = entered K c y

abbrev pub lm_next : Table → State → ℕ → ℕ → State
lm_next K s t a = put_both s t (held (Activity a) 0 (task_at s t)) a (again K (act_at s a).halt (act_at s a).place (act_at s a))

-- "`ia` A: A holds and is in R (so at ether or a pause target). With a stop codel: A leaves R and enters it. Without: ether, give back."
abbrev pub ia_refusal : Table → State → ℕ → ℕ
ia_refusal K s a =
    need (ltb a K.nacts) 12
    (need (holds K s a and (act_at s a).halt) 13
    0)

-- the first number below n at which the test holds, as a codel
abbrev pub or_at : ℕ → Place → Bool → Place
or_at n Ether true = Codel n
or_at n Ether false = Ether
or_at n (Codel c) b = Codel c

unfoldable pub first : ℕ → (ℕ → Bool) → Place
first zero p = Ether
first (suc n) p = or_at n (first n p) (p n)

abbrev pub stop_of : Table → ℕ → Place
stop_of K a = first K.ncodels (is_stop K a)

abbrev pub out_of_r : Act → Act
out_of_r y = in_lists y.run false y

abbrev pub ia_to : Table → State → ℕ → Place → State
ia_to K s a Ether = put_both s (K.task a) (held Manager 0 (task_at s (K.task a))) a (rested Ether)
ia_to K s a (Codel c) = put_both s (K.task a) (task_at s (K.task a)) a (entered K c (out_of_r (act_at s a)))

abbrev pub ia_next : Table → State → ℕ → State
ia_next K s a = ia_to K s a (stop_of K a)

-- "`ea` A c: A holds and is not in R; at ether and c its start; or executing, with a `run` edge to codel c. Enter c."
-- "`ea` from a codel, and `fa`, need a clock of at least 1 and set longest to the larger of itself and that clock." 11: to ether `ea` is
-- "not a step".
abbrev pub ea_allowed : Table → Act → ℕ → ℕ → Place → Bool
ea_allowed K y a c Ether = is_start K a c
ea_allowed K y a c (Codel d) = y.executing and has_edge K d (Codel c) false

abbrev pub ea_refusal : Table → State → ℕ → Place → ℕ
ea_refusal K s a Ether = 11
ea_refusal K s a (Codel c) =
    need (ltb a K.nacts and ltb c K.ncodels) 12
    (need (holds K s a and not (act_at s a).halt and ea_allowed K (act_at s a) a c (act_at s a).place) 13
    (need (is_ether (act_at s a).place or leb 1 (act_at s a).clock) 14
    0))

abbrev pub ea_next : Table → State → ℕ → Place → State
ea_next K s a Ether = s
ea_next K s a (Codel c) = put_both s (K.task a) (held (task_at s (K.task a)).holder (act_at s a).clock (task_at s (K.task a))) a (entered K c (act_at s a))

-- "`cx` A: A holds, not in R, standing before its codel, and no conflicting codel executes. It executes, clock 0."
abbrev pub cx_refusal : Table → State → ℕ → ℕ
cx_refusal K s a =
    need (ltb a K.nacts) 12
    (need (holds K s a and not (act_at s a).halt and stands K (act_at s a) (act_at s a).place) 13
    (need (clear_at K s (act_at s a).place) 15
    0))

abbrev pub begun : Act → Act
begun y = with_executing true (with_clock 0 y)

abbrev pub cx_next : Table → State → ℕ → State
cx_next K s a = put_both s (K.task a) (task_at s (K.task a)) a (begun (act_at s a))

-- "`fa` A target: A holds, executing, with a `pause` edge to the target or a `run` edge to ether. Go there; give back."
abbrev pub fa_allowed : Table → Place → Place → Bool
fa_allowed K Ether p = false
fa_allowed K (Codel d) p = has_edge K d p true or (is_ether p and has_edge K d Ether false)

abbrev pub fa_refusal : Table → State → ℕ → Place → ℕ
fa_refusal K s a p =
    need (ltb a K.nacts and known K p) 12
    (need (holds K s a and (act_at s a).executing and fa_allowed K (act_at s a).place p) 13
    (need (leb 1 (act_at s a).clock) 14
    0))

abbrev pub fa_next : Table → State → ℕ → Place → State
fa_next K s a p = put_both s (K.task a) (held Manager (act_at s a).clock (task_at s (K.task a))) a (rested p)

-- "`fm` task: managing and holding, N and R empty. Waiting; the cycle closes; open date, missed and longest become 0."
unfoldable pub none_in : Table → State → ℕ → Bool
none_in K s t = each K.nacts (λ a. not (in_sets K s t a))

abbrev pub fm_refusal : Table → State → ℕ → ℕ
fm_refusal K s t =
    need (ltb t K.ntasks) 12
    (need ((task_at s t).managing and by_manager (task_at s t).holder and none_in K s t) 13
    0)

abbrev pub closed : Task → Task
closed x = with_managing false (with_opened 0 (with_missed 0 (with_longest 0 x)))

abbrev pub fm_next : State → ℕ → State
fm_next s t = put_task s t (closed (task_at s t))

-- 16: "`wait` while some `sm`, `lm`, `ia`, `cx`, `fm` or `ea` from ether would be accepted". Where some sets let `sm` in, the empty ones do.
unfoldable pub urgent_task : Table → State → ℕ → Bool
urgent_task K s t = accepted (sm_refusal K s t empty_set empty_set) or some K.nacts (λ a. accepted (lm_refusal K s t a)) or accepted (fm_refusal K s t)

unfoldable pub urgent_act : Table → State → ℕ → Bool
urgent_act K s a =
    accepted (ia_refusal K s a)
    or accepted (cx_refusal K s a)
    or (is_ether (act_at s a).place and some K.ncodels (λ c. accepted (ea_refusal K s a (Codel c))))

unfoldable pub urgent : Table → State → Bool
urgent K s = some K.ntasks (urgent_task K s) or some K.nacts (urgent_act K s)

-- 17: "`wait` that takes a timer past its period or an executing clock past its limit"
unfoldable pub room_for : Table → State → ℕ → Bool
room_for K s d =
    each K.ntasks (λ t. leb ((task_at s t).timer + d) (K.period t))
    and each K.ncodels (λ c. executes K s c implies leb ((act_at s (K.owner c)).clock + d) (K.limit c))

-- "`wait` d, d from 1 to 1,000,000,000: date, timers and executing clocks grow by d." 18: "`wait` past the date 1,000,000,000,000"
abbrev pub wait_refusal : Table → State → ℕ → ℕ
wait_refusal K s d =
    need (in_range d) 12
    (need (not (urgent K s)) 16
    (need (room_for K s d) 17
    (need (leb (s.date + d) ceiling) 18
    0)))

abbrev pub timed : ℕ → Task → Task
timed d x = with_timer (x.timer + d) x

abbrev pub aged : Bool → ℕ → ℕ → ℕ
aged true d k = k + d
aged false d k = k

abbrev pub clocked : ℕ → Act → Act
clocked d y = with_clock (aged y.executing d y.clock) y

abbrev pub wait_next : Table → State → ℕ → State
wait_next K s d = with_date (s.date + d) (with_tasks (anew K.ntasks (λ t. timed d) no_task s.tasks) (with_acts (anew K.nacts (λ a. clocked d) no_act s.acts) s))

-- a step's refusal, and the state after it where it is accepted: of a task's step, of an activity's, of any
abbrev pub task_refusal : Table → State → ℕ → TaskStep → ℕ
task_refusal K s t St = st_refusal K s t
task_refusal K s t Fm = fm_refusal K s t

abbrev pub act_refusal : Table → State → ℕ → ActStep → ℕ
act_refusal K s a (Lm t) = lm_refusal K s t a
act_refusal K s a Ia = ia_refusal K s a
act_refusal K s a (Ea p) = ea_refusal K s a p
act_refusal K s a Cx = cx_refusal K s a
act_refusal K s a (Fa p) = fa_refusal K s a p

unfoldable pub refusal : Table → State → Step → ℕ
refusal K s (Wait d) = wait_refusal K s d
refusal K s (Sm t n r) = sm_refusal K s t n r
refusal K s (OfTask t k) = task_refusal K s t k
refusal K s (OfAct a k) = act_refusal K s a k

abbrev pub task_next : State → ℕ → TaskStep → State
task_next s t St = st_next s t
task_next s t Fm = fm_next s t

abbrev pub act_next : Table → State → ℕ → ActStep → State
act_next K s a (Lm t) = lm_next K s t a
act_next K s a Ia = ia_next K s a
act_next K s a (Ea p) = ea_next K s a p
act_next K s a Cx = cx_next K s a
act_next K s a (Fa p) = fa_next K s a p

unfoldable pub next : Table → State → Step → State
next K s (Wait d) = wait_next K s d
next K s (Sm t n r) = sm_next K s t n r
next K s (OfTask t k) = task_next s t k
next K s (OfAct a k) = act_next K s a k

-- the steps that 16 asks for: `sm`, `lm`, `ia`, `cx`, `fm`, and `ea` from ether; here those of an activity at the place p
abbrev pub urgent_at : Place → ActStep → Bool
urgent_at p (Lm t) = true
urgent_at p Ia = true
urgent_at p (Ea q) = is_ether p
urgent_at p Cx = true
urgent_at p (Fa q) = false

abbrev pub urgent_kind : State → Step → Bool
urgent_kind s (Wait d) = false
urgent_kind s (Sm t n r) = true
urgent_kind s (OfTask t St) = false
urgent_kind s (OfTask t Fm) = true
urgent_kind s (OfAct a k) = urgent_at (act_at s a).place k

-- 11: "not a step"; else the step's
abbrev pub line_refusal : Table → State → Option Step → ℕ
line_refusal K s None = 11
line_refusal K s (Some x) = refusal K s x

-- 16 told by each task and its holder: waiting with the signal set; managing with the manager holding; or a holder in R, at ether, or
-- standing with no conflicting codel executing
abbrev pub holder_hinders : Table → State → Holder → Bool
holder_hinders K s Manager = false
holder_hinders K s (Activity a) =
    (act_at s a).halt
    or is_ether (act_at s a).place
    or (stands K (act_at s a) (act_at s a).place and clear_at K s (act_at s a).place)

abbrev pub task_hinders : Table → State → ℕ → Bool
task_hinders K s t =
    (not (task_at s t).managing and (task_at s t).signal)
    or ((task_at s t).managing and by_manager (task_at s t).holder)
    or holder_hinders K s (task_at s t).holder

unfoldable pub hindered : Table → State → Bool
hindered K s = some K.ntasks (task_hinders K s)
