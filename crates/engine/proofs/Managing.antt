-- An `sm`: the activities of its task put into N and R one by one, and what is carried behind it.
use Prim.Native.Nat.{ℕ, ◌+◌, ◌-◌, ◌≤◌, ◌<◌}
use mathlib.Core.Bool.{true}
use mathlib.Core.List.{List}
use mathlib.Core.Path.{◌≡◌, refl, ap, sym, ◌∙◌}
use native.Mathlib.Omega.{arith}
use borrow.Author.Tests.{le-ltb}
use lib.Dec.{eqb}
use lib.ListN.{set}
use Rattle.text.specs.declared.Set.{Set}
use Rattle.text.proofs.Picks.{order}
use Rattle.model.specs.Limits.{most_acts}
use Rattle.model.specs.States.{no_act, task_at, act_at}
use Rattle.model.specs.Records.{with_tasks, with_acts}
use Rattle.model.specs.Refusals.{number_of}
use Rattle.model.specs.declared.refusal.Refusal.{Refusal}
use Rattle.model.specs.Rules.{anew, listed, refusal, next, managed}
use Rattle.model.specs.Cycles.{verdict}
use Rattle.model.specs.declared.Act.{Act}
use Rattle.model.specs.declared.Task.{Task}
use Rattle.model.specs.declared.Step.TheVariants.{Sm}
use Rattle.model.proofs.Rows.{map_set}
use Rattle.prepared.specs.Prepared.{table_in, begin_of, end_of, acts_at}
use Rattle.prepared.proofs.Stored.{most_acts_lem}
use Rattle.rules.specs.Local.{row_in}
use Rattle.rules.proofs.Named.{row_own}
use Rattle.rules.proofs.Facts.{act_of_lem}
use Rattle.conflicts.specs.Busy.{busy_of, busy_in}
use Rattle.managing.specs.Listed.{listed_of, listed_in}
use Rattle.managing.specs.Managing.{sm_number, flagged_from}
use Rattle.managing.proofs.Flags.{flagged_none, flagged_more, flagged_same, flagged_next}
use Rattle.tally.specs.Tallies.{after_sm}
use Rattle.tally.specs.declared.Tally.{Tally}
use Rattle.tally.specs.declared.Ruling.TheVariants.{Open}
use Rattle.tally.proofs.Tallying.{sm_counts}
use Rattle.engine.specs.Steps.{Takes, Refuses}
use Rattle.engine.specs.declared.Going.{Going}
use Rattle.engine.proofs.Finding.{Found, row_there}
use Rattle.engine.proofs.Stepping.{going_is}

-- the activities of the task t stand from the first up to the end
pub record Spans (rows index : List ℕ) (t first end : ℕ) : Type 0 where
  pub row : t < (table_in rows index).ntasks
  pub begins : first ≡ begin_of index acts_at t
  pub ends : end ≡ end_of index acts_at t

-- those before a are in N and R as the sets n and r say, and listed so
pub record Lists (rows index : List ℕ) (n r : Set) (t first end : ℕ) (g h : Going) (a : ℕ) : Type 0 where
  pub found : Found rows index g
  pub spans : Spans rows index t first end
  pub low : first ≤ a
  pub high : a ≤ end
  pub date : h.state.date ≡ g.state.date
  pub tasks : h.state.tasks ≡ g.state.tasks
  pub acts : h.state.acts ≡ flagged_from n r first (a - first) g.state.acts
  pub busy : h.busy ≡ g.busy
  pub listed : h.listed ≡ listed_in h.state
  pub tally : h.tally ≡ g.tally

module _ {rows index : List ℕ} {n r : Set} {t first end : ℕ} {g h : Going} {a : ℕ} (L : Lists rows index n r t first end g h a) (l : a < end) where
  pub listed_fits : a < most_acts
  listed_fits = omega (arith, L.spans.ends, L.found.prepared.acts.ends t L.spans.row, most_acts_lem L.found.prepared)

  -- one more
  pub lists_more : {v : Act} → v ≡ listed true n r a (act_at h.state a) → {k : ℕ} → k ≡ listed_of v → Lists rows index n r t first end g (record { state = with_acts (set h.state.acts a v) h.state; busy = h.busy; listed = set h.listed a k; tally = h.tally }) (a + 1)
  lists_more {v} e q = record {
    found = L.found;
    spans = L.spans;
    low = omega (arith, L.low);
    high = omega arith;
    date = L.date;
    tasks = L.tasks;
    acts = flagged_more n r first g.state.acts a h.state.acts L.low L.acts v e;
    busy = L.busy;
    listed = rw (L.listed, q, map_set listed_of h.state.acts a v);
    tally = L.tally;
  }

-- an `sm` of the task t with the sets n and r, which reads row i, is told m
module _ {rows index : List ℕ} {g : Going} (F : Found rows index g) (t : ℕ) (n r : Set) {i nt : ℕ} (q : nt ≡ (table_in rows index).ntasks) (e : i ≡ row_in t nt) {m : ℕ} (j : m ≡ sm_number (table_in rows index) t n r (task_at g.state i)) where
  own : t < (table_in rows index).ntasks → i ≡ t
  own l = e ∙ sym (row_own t nt (omega arith))

  missing : (table_in rows index).ntasks ≤ t → m ≡ 12
  missing l = j ∙ rw (le-ltb t (table_in rows index).ntasks l)

  number : m ≡ refusal (table_in rows index) g.state (Sm t n r)
  unfolding refusal
  number =
      order t (table_in rows index).ntasks
      (λ l. j ∙ rw (own l))
      (λ l. missing l ∙ rw (le-ltb t (table_in rows index).ntasks l))

  pub sm_refuses : {w : Refusal} → number_of w ≡ m → Refuses (table_in rows index) g (Sm t n r) w g
  sm_refuses z = record { number = z ∙ number; going = refl }

  pub lists_none : {first end : ℕ} → first ≡ begin_of index acts_at i → end ≡ end_of index acts_at i → Lists rows index n r i first end g g first
  lists_none {first} b w =
      let P = F.prepared in
      let row = row_there P t q e in
      let a = act_of_lem (table_in rows index) P.formed i row in
      let o = P.acts.outside i a.0 row a.1 a.2 in
      record {
        found = F;
        spans = record { row = row; begins = b; ends = w };
        low = omega arith;
        high = omega (arith, o.0, o.1);
        date = refl;
        tasks = refl;
        acts = flagged_none n r first g.state.acts;
        busy = refl;
        listed = F.listed;
        tally = refl;
      }

  module _ (z : m ≡ 0) where
    named : i ≡ t
    named = order t (table_in rows index).ntasks own (λ l. absurd (omega (arith, missing l)))

    pub sm_takes : {first end : ℕ} {h : Going} {a : ℕ} → Lists rows index n r i first end g h a → end ≤ a → {v : Task} → v ≡ managed h.state.date (task_at g.state i) → {c : Tally} → c ≡ after_sm h.tally
        → Takes (table_in rows index) g (Sm t n r) Open (record { state = with_tasks (set h.state.tasks i v) h.state; busy = h.busy; listed = h.listed; tally = c })
    unfolding next verdict
    sm_takes {first} {end} {h} {a} L l {v} ev {c} ec =
        let flags : h.state.acts ≡ flagged_from n r first (end - first) g.state.acts = let i : a ≡ end = omega (arith, L.high) in L.acts ∙ rw i in
        let span = L.spans in
        let anew_acts : h.state.acts ≡ anew (table_in rows index).nacts (λ a. listed (eqb ((table_in rows index).task a) i) n r a) no_act g.state.acts =
        flags ∙ flagged_next F.prepared i first end span.row span.begins span.ends (omega (arith, L.low, L.high)) n r g.state.acts (omega (arith, F.sound.shape.acts, most_acts_lem F.prepared)) in
        let stored : with_tasks (set h.state.tasks i v) h.state ≡ next (table_in rows index) g.state (Sm t n r) = rw (ev, L.date, L.tasks, anew_acts, ← named) in
        record {
          accepted = sym number ∙ z;
          ruling = refl;
          going = going_is stored (L.busy ∙ F.busy ∙ sym (flagged_same busy_of n r first g.state.acts (λ a y. refl) (end - first)) ∙ ap (λ l. busy_in (with_acts l g.state)) (sym flags) ∙ ap busy_in stored) (L.listed ∙ ap listed_in stored) (ec ∙ rw L.tally (sm_counts (table_in rows index) g.state g.tally t n r));
        }
