-- A `state` row on line 1 read in place, part after part, straight into a state: what is kept on the way, and how the log goes on behind it.
use Prim.Native.Nat.{ℕ, zero, suc, ◌+◌, ◌-◌, ◌≤◌, ◌<◌}
use mathlib.Core.Bool.{Bool, true, false}
use mathlib.Core.List.{List, ◌++◌, append-nil, append_assoc}
use mathlib.Core.Logic.{⊎_elim}
use mathlib.Core.Path.{◌≡◌, refl, ap, sym, subst, subst⁻¹, ◌∙◌}
use native.Mathlib.Numerals.{add-one}
use native.Mathlib.Omega.{arith}
use borrow.Author.Tests.{lt-ltb, eq-eqb}
use lib.Dec.{T, ltb}
use lib.ListN.{length, get_or, set, take, drop, length-set}
use lib.Seq.{get_or-set_same, get_or-set_other}
use Rattle.text.specs.Parts.{before, first_at}
use Rattle.text.specs.Standing.{is_at, past}
use Rattle.text.proofs.Picks.{picked, false_true}
use Rattle.text.proofs.Standing.{past_line_lem, past_newline}
use Rattle.text.proofs.Words.{same_list_lem}
use Rattle.model.specs.Tests.{one, sum}
use Rattle.model.specs.Limits.{most_tasks, most_acts}
use Rattle.model.specs.Tables.{Table}
use Rattle.model.specs.Rows.{wellformed}
use Rattle.model.specs.States.{no_task, no_act, task_at}
use Rattle.model.specs.Sound.{sound}
use Rattle.model.specs.Cycles.{managing}
use Rattle.model.specs.declared.Task.{Task}
use Rattle.model.specs.declared.Act.{Act}
use Rattle.model.specs.declared.State.{State}
use Rattle.model.proofs.Tests.{last_or}
use Rattle.model.proofs.Sums.{sum_bound}
use Rattle.model.proofs.Rows.{map_set}
use Rattle.model.proofs.Formed.{formed}
use Rattle.model.proofs.Soundness.{sound_of}
use Rattle.conflicts.specs.Busy.{busy_of, busy_in}
use Rattle.managing.specs.Listed.{listed_of, listed_in}
use Rattle.fields.specs.Fields.{fields_text}
use Rattle.fields.specs.Reading.{Reads}
use Rattle.fields.proofs.InPlace.{reads_inside, reads_more}
use Rattle.saved.specs.Rows.{begins_row, task_forms, act_forms, task_values, act_values, row_line}
use Rattle.saved.specs.Written.{acts_text}
use Rattle.saved.specs.Standing.{head_text}
use Rattle.saved.specs.Reading.{OwnLists, ReadsTask, ReadsAct, parts_by}
use Rattle.saved.proofs.Rows.{row_begins, row_free}
use Rattle.saved.proofs.Standing.{acts_none}
use Rattle.saved.proofs.Taking.{Has, parts_none, parts_set, acts_set, parts_row}
use Rattle.entries.specs.Entries.{sound_row}
use Rattle.entries.proofs.Owning.{row_laws, row_of}
use Rattle.tally.specs.Tallies.{lines_of, begun_with, Roomy}
use Rattle.tally.specs.declared.Tally.{Tally}
use Rattle.tally.proofs.Counting.{began_known}
use Rattle.waits.proofs.Holders.{rows_long}
use Rattle.engine.specs.Play.{Ready}
use Rattle.engine.specs.declared.Going.{Going}
use Rattle.playing.specs.Plays.{Begins}
use Rattle.playing.proofs.Resuming.{first_taken}
use Rattle.playing.proofs.Playing.{RowAt, begins_behind}

-- The head, the first k tasks and the first a activities are read, up to p: what they say stands in the state s, and beside it b and l; N and
-- R of each task stand in ns and rs, and n of the tasks are managing.
pub record Taken (K : Table) (log : List ℕ) (from : ℕ) (s : State) (b l ns rs : List ℕ) (n p k a : ℕ) : Type 0 where
  pub text : Reads log from (head_text s.date ++ (parts_by s.tasks ns rs k ++ acts_text s a)) p
  pub lists : p < length log → (t : ℕ) → t < k → OwnLists K t (get_or ns t 0) (get_or rs t 0)
  pub members : (i : ℕ) → i < a → Has K s ns rs i
  pub opened : n ≡ sum k (λ t. one (task_at s t).managing)
  pub busy : b ≡ busy_in s
  pub listed : l ≡ listed_in s
  pub tasks : length s.tasks ≡ most_tasks
  pub acts : length s.acts ≡ most_acts
  pub runs : length ns ≡ most_tasks
  pub halts : length rs ≡ most_tasks
  pub most : k ≤ K.ntasks
  pub few : a ≤ K.nacts

-- what stands beside the activities says how many there are
pub acts_long : {K : Table} {g : Going} → Ready K g → length g.busy ≡ most_acts → length g.state.acts ≡ most_acts
acts_long {g = g} R e = rows_long busy_of g.state.acts most_acts (ap length (sym R.busy) ∙ e)

-- the head is read
pub taken_none : {K : Table} {log : List ℕ} {from d p : ℕ} (s : State) {b l ns rs : List ℕ} → Reads log from (head_text d) p → b ≡ busy_in s → l ≡ listed_in s → length s.tasks ≡ most_tasks → length s.acts ≡ most_acts → length ns ≡ most_tasks → length rs ≡ most_tasks
    → Taken K log from (record { date = d; tasks = s.tasks; acts = s.acts }) b l ns rs 0 p 0 0
unfolding sum
taken_none {d = d} s {ns = ns} {rs = rs} R eb el t a m h = record {
  text = rw (parts_none s.tasks ns rs, acts_none (record { date = d; tasks = s.tasks; acts = s.acts }), append-nil (head_text d)) R;
  lists = λ i t h. absurd (omega arith);
  members = λ i h. absurd (omega arith);
  opened = refl;
  busy = eb;
  listed = el;
  tasks = t;
  acts = a;
  runs = m;
  halts = h;
  most = omega arith;
  few = omega arith;
}

-- a task that is stored leaves those before it as they are
managing_kept : (xs : List Task) (k : ℕ) (x : Task) (n : ℕ) → n ≤ k → sum n (λ t. one (get_or (set xs k x) t no_task).managing) ≡ sum n (λ t. one (get_or xs t no_task).managing)
unfolding sum
managing_kept xs k x zero h = refl
managing_kept xs k x (suc n) h = let o : n ≡ k → ⊥ = λ e. omega arith in rw (get_or-set_other xs k n x no_task o, managing_kept xs k x n (omega arith))

-- and is counted
managing_set : (xs : List Task) (k : ℕ) (x : Task) → k < length xs → sum (k + 1) (λ t. one (get_or (set xs k x) t no_task).managing) ≡ sum k (λ t. one (get_or xs t no_task).managing) + one x.managing
unfolding sum
managing_set xs k x h = rw (add-one k, get_or-set_same xs k x no_task h, managing_kept xs k x k (omega arith))

-- one more task is read
pub taken_task : {K : Table} {log : List ℕ} {from : ℕ} {s : State} {b l ns rs : List ℕ} {m p k : ℕ} → Taken K log from s b l ns rs m p k 0 → k < K.ntasks → K.ntasks ≤ most_tasks → {x : Task} {n r e : ℕ} → ReadsTask K log p k x n r e
    → Taken K log from (record { date = s.date; tasks = set s.tasks k x; acts = s.acts }) b l (set ns k n) (set rs k r) (m + one x.managing) e (k + 1) 0
taken_task {K} {log} {from} {s} {ns = ns} {rs = rs} {m = m} {p = p} {k = k} W h f {x} {n} {r} {e} Q =
    let u : State = record { date = s.date; tasks = set s.tasks k x; acts = s.acts } in
    let i : k < length s.tasks = omega (arith, W.tasks) in
    let j : k < length ns = omega (arith, W.runs) in
    let o : k < length rs = omega (arith, W.halts) in
    let q = parts_by s.tasks ns rs k in
    let part = fields_text task_forms (task_values x n r) in
    let same : head_text s.date ++ (parts_by (set s.tasks k x) (set ns k n) (set rs k r) (k + 1) ++ acts_text u 0) ≡ (head_text s.date ++ (q ++ acts_text s 0)) ++ part =
    rw (parts_set s.tasks ns rs k x n r i j o, acts_none u, acts_none s, append-nil (q ++ part), append-nil q) (sym (append_assoc (head_text s.date) q part)) in
    record {
      text = subst⁻¹ (λ t. Reads log from t e) same (reads_more W.text Q.text);
      lists = λ z t v. ⊎_elim
          (λ y. subst⁻¹ (λ t. OwnLists K t (get_or (set ns k n) t 0) (get_or (set rs k r) t 0)) y (rw (get_or-set_same ns k n 0 j, get_or-set_same rs k r 0 o) (Q.lists z)))
          (λ y. let d : t ≡ k → ⊥ = λ c. omega arith in rw (get_or-set_other ns k t n 0 d, get_or-set_other rs k t r 0 d) (W.lists (reads_inside Q.text z) t y))
          (last_or t k (omega arith));
      members = λ i h. absurd (omega arith);
      opened = rw W.opened (sym (managing_set s.tasks k x i));
      busy = W.busy;
      listed = W.listed;
      tasks = length-set s.tasks k x ∙ W.tasks;
      acts = W.acts;
      runs = length-set ns k n ∙ W.runs;
      halts = length-set rs k r ∙ W.halts;
      most = omega arith;
      few = omega arith;
    }

-- yes counts as one
pub one_few : (b : Bool) → one b ≤ 1
one_few true = omega arith
one_few false = omega arith

-- at most every task that was read manages
pub opened_few : {K : Table} {log : List ℕ} {from : ℕ} {s : State} {b l ns rs : List ℕ} {m p k a : ℕ} → Taken K log from s b l ns rs m p k a → m ≤ k
opened_few {s = s} {k = k} W = omega (arith, W.opened, sum_bound k 1 (λ t. one (task_at s t).managing) (λ t h. one_few (task_at s t).managing))

-- all tasks are read
pub taken_all : {K : Table} {log : List ℕ} {from : ℕ} {s : State} {b l ns rs : List ℕ} {m p k : ℕ} → Taken K log from s b l ns rs m p k 0 → k ≡ K.ntasks → Taken K log from s b l ns rs m p K.ntasks 0
taken_all {K} {log} {from} {s} {b} {l} {ns} {rs} {m} {p} W e = subst (λ k. Taken K log from s b l ns rs m p k 0) e W

-- one more activity is read
pub taken_act : {K : Table} {log : List ℕ} {from : ℕ} {s : State} {b l ns rs : List ℕ} {m p k a : ℕ} → Taken K log from s b l ns rs m p k a → a < K.nacts → K.nacts ≤ most_acts → {t : ℕ} → t ≡ K.task a → {y : Act} {e : ℕ} → ReadsAct log p a (get_or ns t 0) (get_or rs t 0) y e → {c d : ℕ} → c ≡ busy_of y → d ≡ listed_of y
    → Taken K log from (record { date = s.date; tasks = s.tasks; acts = set s.acts a y }) (set b a c) (set l a d) ns rs m e k (a + 1)
taken_act {K} {log} {from} {s} {ns = ns} {rs = rs} {k = k} {a = a} W h f o {y} {e} Q v w =
    let u : State = record { date = s.date; tasks = s.tasks; acts = set s.acts a y } in
    let i : a < length s.acts = omega (arith, W.acts) in
    let q = parts_by s.tasks ns rs k in
    let part = fields_text act_forms (act_values y) in
    let same : head_text s.date ++ (q ++ acts_text u (a + 1)) ≡ (head_text s.date ++ (q ++ acts_text s a)) ++ part =
    rw (acts_set s a y i) (sym (append_assoc (head_text s.date) (q ++ acts_text s a) part ∙ ap (head_text s.date ++◌) (append_assoc q (acts_text s a) part))) in
    record {
      text = subst⁻¹ (λ t. Reads log from t e) same (reads_more W.text Q.text);
      lists = λ z. W.lists (reads_inside Q.text z);
      members = λ j x. ⊎_elim
          (λ z. subst⁻¹ (λ j. Has K u ns rs j) z (rw (get_or-set_same s.acts a y no_act i, ← o) (Q.run, Q.halt)))
          (λ z. let d : j ≡ a → ⊥ = λ c. omega arith in rw (get_or-set_other s.acts a j y no_act d) (W.members j z))
          (last_or j a (omega arith));
      opened = W.opened;
      busy = rw (W.busy, v) (sym (map_set busy_of s.acts a y));
      listed = rw (W.listed, w) (sym (map_set listed_of s.acts a y));
      tasks = W.tasks;
      acts = length-set s.acts a y ∙ W.acts;
      runs = W.runs;
      halts = W.halts;
      most = W.most;
      few = omega arith;
    }

-- all are read, and a newline stands behind them
module _ {K : Table} {log : List ℕ} {from : ℕ} {s : State} {b l ns rs : List ℕ} {m p k a : ℕ} (W : Taken K log from s b l ns rs m p k a) (ek : k ≡ K.ntasks) (ea : a ≡ K.nacts) (wf : T (wellformed K)) (h : p < length log) (q : get_or log p 0 ≡ 10) where
  -- so the state's row stands there
  row_stands : past log from (row_line K s) ≡ p
  row_stands =
      let t : past log from (head_text s.date ++ (parts_by s.tasks ns rs K.ntasks ++ acts_text s K.nacts)) ≡ p = rw (ek, ea) at (W.text.stands h) in
      ap (past log from) (sym (parts_row K s ns rs (formed K wf).fits.1 (λ t v. W.lists h t (omega arith)) (λ i v. W.members i (omega arith)))) ∙ t

  -- with a newline behind it
  row_closed : is_at log (past log from (row_line K s)) 10 ≡ true
  row_closed = rw (row_stands, lt-ltb _ _ h, eq-eqb _ _ q)

  -- it ends at the newline of its line
  row_ends : p ≡ first_at log from 10
  row_ends = sym row_stands ∙ past_newline log from (row_line K s) (row_free K s) row_closed

  -- and is that line
  row_line_lem : take (p - from) (drop from log) ≡ row_line K s
  row_line_lem =
      let z : p - from ≡ before 10 (drop from log) = omega (arith, row_ends) in
      let t = sym (past_line_lem log from (row_line K s) (row_free K s)) ∙ row_closed in
      rw z (same_list_lem _ _ (picked (ltb (first_at log from 10) (length log)) false_true t).1)

  -- a row stands there
  row_there : from ≤ length log → RowAt K log from p
  row_there v =
      let b = ap begins_row row_line_lem ∙ row_begins K s in
      record {
        laws = row_laws K wf;
        inside = v;
        row = record { ends = rw (← row_ends) h; begins = rw (← row_ends) b };
        newline = row_ends;
      }

  -- a sound state is taken: the log goes on behind the newline
  pub taken_row : T (sound K s) → {g : Going} → Ready K g → lines_of g.tally ≡ 0 → from ≤ length log → Roomy g.tally (length log - from) → {c : Tally} → c ≡ begun_with m → Begins K log from g (record { state = s; busy = b; listed = l; tally = c }) (p + 1)
  unfolding managing
  taken_row S {g} R z v w {c} e =
      let o = row_of K wf s (sound_of K s (record { tasks = W.tasks; acts = W.acts }) S) in
      let x : record { number = 0; state = s } ≡ sound_row K (take (p - from) (drop from log)) = rw (row_line_lem, o.0, o.1) in
      let t : m ≡ managing K s = rw ek at W.opened in
      begins_behind (row_there v) R w (first_taken R z x refl (began_known K s m t c e) (rw (W.busy, W.listed))) refl

-- a log that goes on from where it begins
pub begins_none : {K : Table} {log : List ℕ} {from : ℕ} {g : Going} → Ready K g → from ≤ length log → Roomy g.tally (length log - from) → Begins K log from g g from
begins_none R l m = record { played = λ room. refl; within = omega arith; inside = l; ready = R; roomy = m }
