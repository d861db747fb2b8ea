-- The cut at noon, over bytes: a log judged whole, and the same log judged in two files, of which the second begins with the row of the state
-- that the first reaches.
use Prim.Native.Nat.{ℕ, ◌+◌, ◌<◌}
use mathlib.Core.Bool.{true}
use mathlib.Core.List.{List, [], ◌∷◌, ◌++◌, append_assoc}
use mathlib.Core.Path.{◌≡◌, refl, sym, ap, subst, subst⁻¹, ◌∙◌}
use native.Mathlib.Omega.{arith}
use lib.Dec.{T}
use lib.ListN.{length}
use Rattle.text.specs.Parts.{split_on, join_on, free}
use Rattle.text.proofs.Parts.{join_split, split_cut}
use Rattle.model.specs.Tests.{accepted}
use Rattle.model.specs.Tables.{Table}
use Rattle.model.specs.Rows.{wellformed}
use Rattle.model.specs.Logs.{reached}
use Rattle.model.specs.Cycles.{managing, Entry, row, stop_on, Report, report}
use Rattle.model.specs.declared.State.{State}
use Rattle.model.proofs.Formed.{formed}
use Rattle.model.proofs.Soundness.{Sound}
use Rattle.model.proofs.StepsKeep.{reached_sound}
use Rattle.model.proofs.Reports.{steps_accepted}
use Rattle.model.proofs.Cuts.{Cut, cut}
use Rattle.logs.specs.Lines.{set_digits, read_step}
use Rattle.saved.specs.Rows.{begins_row, row_line, row_text}
use Rattle.entries.specs.Entries.{row_state, row_number, row_refusal, entry_by, entries_in, start_of}
use Rattle.saved.proofs.Rows.{row_begins, row_free}
use Rattle.entries.proofs.Owning.{RowLaws, row_laws, row_of}
use Rattle.table.specs.Texts.{read_table}
use Rattle.stream.specs.Chunk.{last_part}
use Rattle.stream.proofs.Pieces.{followed, split_some, split_append}
use Rattle.judging.proofs.Telling.{row_entry}
use Rattle.judging.proofs.Accounts.{behind}
use Rattle.judging.proofs.Mission.{table_said, entries_said, start_said, steps_done, judged, fine_wellformed, mission}

-- the row of a state is one line that reads as that state
record OwnRow (K : Table) (z : State) : Type 0 where
  reads : row_number K (row_line K z) ≡ 0
  state : row_state K (row_line K z) ≡ z
  begins : begins_row (row_line K z) ≡ true
  free : free 10 (row_line K z) ≡ true

-- so it is with every sound state
own_row : (K : Table) → T (wellformed K) → (z : State) → Sound K z → OwnRow K z
own_row K wf z Z = let r = row_of K wf z Z in record { reads = r.0; state = r.1; begins = row_begins K z; free = row_free K z }

-- The report on a whole log, and those on its two files, of which the first has so many lines and leaves so many tasks managing: the kept rows
-- are the same, one file's behind the other's; steps, kept and dropped add up; the tasks managing at the cut are opened once more in the second;
-- date, managing and refusal are the second's, and the refused line is counted there, where the row is the first line.
pub record Noon (whole first second : Report) (lines managed : ℕ) : Type 0 where
  pub kept : whole.kept ≡ first.kept ++ second.kept
  pub steps : whole.sum.steps ≡ first.sum.steps + second.sum.steps
  pub keeps : whole.sum.kept ≡ first.sum.kept + second.sum.kept
  pub dropped : whole.sum.dropped ≡ first.sum.dropped + second.sum.dropped
  pub opened : whole.sum.opened + managed ≡ first.sum.opened + second.sum.opened
  pub date : whole.sum.date ≡ second.sum.date
  pub managing : whole.sum.managing ≡ second.sum.managing
  pub refusal : whole.sum.refusal ≡ second.sum.refusal
  pub line : (whole.sum.refusal ≡ 0 → ⊥) → whole.sum.line + 1 ≡ lines + second.sum.line

-- a text of whole lines that is not empty has a line
two_pieces : (a : List ℕ) → 0 < length a → last_part (split_on 10 a) ≡ [] → (p : List ℕ) × (q : List ℕ) × (ps : List (List ℕ)) × (split_on 10 a ≡ p ∷ q ∷ ps)
two_pieces a n h = go (split_on 10 a) refl h
  where
    none : (l : List (List ℕ)) → split_on 10 a ≡ l → join_on 10 l ≡ [] → ⊥
    none l e j = omega (arith, ap length (sym (join_split 10 a) ∙ ap (join_on 10) e ∙ j))

    go : (l : List (List ℕ)) → split_on 10 a ≡ l → last_part l ≡ [] → (p : List ℕ) × (q : List ℕ) × (ps : List (List ℕ)) × (split_on 10 a ≡ p ∷ q ∷ ps)
    go [] e h = absurd (none [] e refl)
    go (p ∷ []) e h = absurd (none (p ∷ []) e h)
    go (p ∷ q ∷ ps) e h = (p, q, ps, e)

module _ (K : Table) where
  -- more lines behind the first change nothing of the state that a log begins with
  start_stays : (p q : List ℕ) (ps qs : List (List ℕ)) → start_of K (followed (p ∷ q ∷ ps) qs) ≡ start_of K (p ∷ q ∷ ps)
  unfolding start_of
  start_stays p q ps qs = behind (λ l. start_of K (p ∷ l) ≡ start_of K (p ∷ q ∷ ps)) q ps (λ r rs. refl) qs

  -- behind whole lines the lines that follow stand as they are
  entries_append : (ps qs : List (List ℕ)) → last_part ps ≡ [] → entries_in K (followed ps qs) ≡ entries_in K ps ++ entries_in K qs
  unfolding entries_in
  entries_append [] qs h = refl
  entries_append ([] ∷ []) [] h = refl
  entries_append ([] ∷ []) (q ∷ qs) h = refl
  entries_append ((b ∷ p) ∷ []) qs h = let z : ◌≡◌ {A = ℕ} 0 1 = cc in absurd (omega arith)
  entries_append (p ∷ q ∷ ps) qs h =
      let e = entry_by K p (read_step set_digits p) in
      behind (λ l. entries_in K (p ∷ l) ≡ e ∷ entries_in K l) q ps (λ r rs. refl) qs ∙ ap (λ l. e ∷ l) (entries_append (q ∷ ps) qs h)

  -- a log of whole lines and any bytes behind it
  module _ (first second : List ℕ) (n : 0 < length first) (h : last_part (split_on 10 first) ≡ []) where
    whole_start : start_of K (split_on 10 (first ++ second)) ≡ start_of K (split_on 10 first)
    whole_start =
        let w = two_pieces first n h in
        ap (start_of K) (split_append first second)
        ∙ ap (λ l. start_of K (followed l (split_on 10 second))) w.3
        ∙ start_stays w.0 w.1 w.2 (split_on 10 second)
        ∙ ap (start_of K) (sym w.3)

    whole_entries : entries_in K (split_on 10 (first ++ second)) ≡ entries_in K (split_on 10 first) ++ entries_in K (split_on 10 second)
    whole_entries = ap (entries_in K) (split_append first second) ∙ entries_append (split_on 10 first) (split_on 10 second) h

  -- a file that begins with a state's own row
  module _ (R : RowLaws K) (z : State) (o : OwnRow K z) (second : List ℕ) where
    row_first : split_on 10 (row_text K z ++ second) ≡ row_line K z ∷ split_on 10 second
    row_first = ap (split_on 10) (append_assoc (row_line K z) (10 ∷ []) second) ∙ split_cut 10 (row_line K z) second o.free

    row_start : start_of K (split_on 10 (row_text K z ++ second)) ≡ z
    unfolding start_of
    row_start = let w = split_some second in ap (start_of K) (row_first ∙ ap (λ l. row_line K z ∷ l) w.2) ∙ rw (o.begins, o.reads) o.state

    row_entries : entries_in K (split_on 10 (row_text K z ++ second)) ≡ row (λ s. row_refusal K s (row_line K z)) ∷ entries_in K (split_on 10 second)
    row_entries =
        let w = split_some second in
        let p = row_line K z in
        ap (entries_in K) (row_first ∙ ap (λ l. p ∷ l) w.2)
        ∙ row_entry K p w.0 w.1 (R.no_step p o.begins) o.begins
        ∙ ap (λ l. row (λ s. row_refusal K s p) ∷ entries_in K l) (sym w.2)

    -- the row is accepted
    row_own : row_refusal K z (row_line K z) ≡ 0
    row_own = subst (λ s. row_refusal K s (row_line K z) ≡ 0) o.state (R.own (row_line K z) (ap accepted o.reads))

-- no refusal in the report is none in the log
stop_none : (K : Table) (s : State) (es : List Entry) → (report K s es).sum.refusal ≡ 0 → stop_on K s es ≡ 0
unfolding report
stop_none K s es e = e

-- the state that a log reaches
abbrev pub reached_by : List ℕ → List ℕ → State
reached_by table log = reached (table_said table) (start_said table log) (steps_done table log)

-- a log cut behind any line that it accepts, and judged on from the row of the state that it reached there
pub noon : (table first second : List ℕ) → (read_table table).numbers ≡ [] → 0 < length first → last_part (split_on 10 first) ≡ [] → (judged table first).sum.refusal ≡ 0
    → Noon (judged table (first ++ second)) (judged table first) (judged table (row_text (table_said table) (reached_by table first) ++ second)) (length (entries_said table first)) (managing (table_said table) (reached_by table first))
noon table first second e n h ok =
    subst⁻¹ (λ r. Noon r (judged table first) (judged table (row_text K z ++ second)) (length es) (managing K z)) whole
    (subst⁻¹ (λ r. Noon (report K s (es ++ ds)) (judged table first) r (length es) (managing K z)) file
    (record { kept = c.kept; steps = c.steps; keeps = c.keeps; dropped = c.dropped; opened = c.opened; date = c.date; managing = c.managing; refusal = c.refusal; line = c.line }))
  where
    K : Table
    K = table_said table

    s : State
    s = start_said table first

    z : State
    z = reached_by table first

    wf : T (wellformed K)
    wf = fine_wellformed table e

    R : RowLaws K
    R = row_laws K wf

    o : OwnRow K z
    o = own_row K wf z (reached_sound K (formed K wf) (steps_done table first) s (mission table first e).start (steps_accepted K s (entries_said table first)))

    es : List Entry
    es = entries_said table first

    ds : List Entry
    ds = entries_said table second

    f : State → ℕ
    f w = row_refusal K w (row_line K z)

    whole : judged table (first ++ second) ≡ report K s (es ++ ds)
    whole = ap (λ w. report K w (entries_said table (first ++ second))) (whole_start K first second n h) ∙ ap (report K s) (whole_entries K first second n h)

    file : judged table (row_text K z ++ second) ≡ report K z (row f ∷ ds)
    file = ap (λ w. report K w (entries_said table (row_text K z ++ second))) (row_start K R z o second) ∙ ap (report K z) (row_entries K R z o second)

    c : Cut K s es ds f
    c = cut K s es ds f (stop_none K s es ok) (row_own K R z o second)
