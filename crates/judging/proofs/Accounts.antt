-- What is told of a log, along its play: the rows told on the way, and the row of a kept cycle that has no room with what is told from there,
-- or the `sum` row alone.
use Prim.Native.Nat.{ℕ, ◌+◌, ◌-◌, ◌≤◌, ◌<◌}
use mathlib.Core.Bool.{true, false}
use mathlib.Core.List.{List, [], ◌∷◌, ◌++◌, append_assoc}
use mathlib.Core.Path.{◌≡◌, refl, sym, ap, subst⁻¹, ◌∙◌}
use mathlib.Core.Logic.{inl, inr}
use native.Mathlib.Omega.{arith}
use borrow.Author.Tests.{leb-true, leb-false, lt-ltb}
use lib.ListN.{length, length-append}
use lib.Dec.{leb, eqb}
use Rattle.std.specs.Prelude.{Option, Some, None}
use Rattle.text.proofs.Picks.{cases, false_true}
use Rattle.model.specs.Tests.{accepted}
use Rattle.model.specs.Tables.{Table}
use Rattle.model.specs.Rules.{refusal, next}
use Rattle.model.specs.Cycles.{Verdict, none, kept, dropped, verdict}
use Rattle.model.specs.declared.State.{State}
use Rattle.model.specs.declared.Step.{Step}
use Rattle.logs.specs.Lines.{longest_line, longest_row, set_digits, read_step}
use Rattle.saved.specs.Rows.{begins_row}
use Rattle.entries.specs.Entries.{row_number, row_refusal, resumed}
use Rattle.entries.proofs.Owning.{RowLaws}
use Rattle.report.specs.Rows.{cycle_of, cycle_text, sum_text}
use Rattle.report.specs.declared.Cycle.{Cycle}
use Rattle.tally.specs.Tallies.{tallied, lines_of, sum_of}
use Rattle.tally.specs.declared.Tally.{Tally}
use Rattle.engine.specs.Play.{Played, played_to, stopped, telling, on_verdict, on_line, played, pieces, is_closed}
use Rattle.engine.specs.declared.Stop.{Stop}
use Rattle.engine.specs.declared.Stop.TheVariants.{End, Refused, Closed, Row}
use Rattle.engine.specs.declared.Going.{Going}
use Rattle.engine.specs.declared.Ran.{Ran}
use Rattle.playing.specs.Plays.{Plays}
use Rattle.engine.proofs.Pausing.{left_over}
use Rattle.stream.proofs.Pieces.{followed, followed_none}
use Rattle.stream.proofs.Lines.{Settled}
use Rattle.judging.specs.Report.{refusal_of}
use Rattle.judging.proofs.Telling.{tell, verdict_text, tell_over, tell_end, tell_cut, step_refused, step_accepted, line_bad, row_refused, row_taken}

-- the row of a kept cycle that was not told for want of room
abbrev pub pending : Stop → List ℕ
pending End = []
pending (Refused n) = []
pending (Closed k) = cycle_text k
pending Row = []

-- there is none at the log's end or at a refusal
pub none_pending : (w : Stop) (l : List ℕ) → is_closed w ≡ false → pending w ++ l ≡ l
none_pending End l c = refl
none_pending (Refused n) l c = refl
none_pending (Closed k) l c = absurd (false_true (sym c))
none_pending Row l c = refl

-- at the log's end or a refusal only the `sum` row is left to tell
abbrev pub Ends : Table → State → Tally → List (List ℕ) → Stop → Type 0
Ends K s c rest w = is_closed w ≡ false → tell K s c rest ≡ sum_text (sum_of K s c (refusal_of w))

-- pieces that follow others: some piece is still first
followed_some : (q : List ℕ) (ps qs : List (List ℕ)) → (r : List ℕ) × (rs : List (List ℕ)) × (followed (q ∷ ps) qs ≡ r ∷ rs)
followed_some q [] [] = (_, _, refl)
followed_some q [] (r ∷ qs) = (_, _, refl)
followed_some q (r ∷ ps) qs = (_, _, refl)

-- what holds of all pieces behind a line holds of those that follow some
pub behind : (P : List (List ℕ) → Type 0) (q : List ℕ) (ps : List (List ℕ)) → ((r : List ℕ) (rs : List (List ℕ)) → P (r ∷ rs)) → (qs : List (List ℕ)) → P (followed (q ∷ ps) qs)
behind P q ps f qs = let w = followed_some q ps qs in subst⁻¹ P w.2 (f w.0 w.1)

-- the play of a log: what is told, whatever else follows, is the rows told on the way, the row of the cycle it stopped at, if it stopped at
-- one, and what is told from there on; at the end or at a refusal that is the `sum` row, at a refused line that is settled whatever
-- follows; at the end nothing is left; and a cycle that it stopped at has no room for its row
pub record Account (K : Table) (s : State) (c : Tally) (room : ℕ) (ps : List (List ℕ)) (p : Played) : Type 0 where
  pub on : (qs : List (List ℕ)) → tell K s c (followed ps qs) ≡ p.text ++ (pending p.stop ++ tell K p.state p.tally (followed p.rest qs))
  pub ends : Ends K p.state p.tally p.rest p.stop
  pub stays : Settled ps → (n : ℕ) → p.stop ≡ Refused n → (qs : List (List ℕ)) → tell K p.state p.tally (followed p.rest qs) ≡ sum_text (sum_of K p.state p.tally n)
  pub done : p.stop ≡ End → (q : List ℕ) (qs : List (List ℕ)) → followed p.rest (q ∷ qs) ≡ q ∷ qs
  pub short : (k : Cycle) → p.stop ≡ Closed k → room < length p.text + length (cycle_text k)

-- a line over 63 bytes with its newline is no step
long_bad : (p q : List ℕ) → longest_row ≤ length p → read_step set_digits (p ++ q) ≡ None
unfolding read_step
long_bad p q h = let l : longest_line < length (p ++ q) + 1 = omega (arith, length-append p q) in rw (lt-ltb _ _ l)

-- ways to stop that are unlike
not_refused : {P : Type 0} {n : ℕ} → End ≡ Refused n → P
not_refused e = let z : ◌≡◌ {A = ℕ} 0 1 = cc in absurd (omega arith)

not_closed : {P : Type 0} {k : Cycle} {w : Stop} → is_closed w ≡ false → Closed k ≡ w → P
not_closed h e = let z : true ≡ false = cc in absurd (false_true (sym z))

-- a row that does not read is refused with 11 on any line
unread : (K : Table) (s : State) (c : Tally) (p : List ℕ) → row_number K p ≡ 11 → (resumed K s c p).number ≡ 11
unfolding resumed row_refusal
unread K s c p e = cases (eqb (lines_of c) 0) (λ f. rw (f, e)) (λ f. rw (f, e))

module _ (K : Table) (R : RowLaws K) where
  -- it stopped here: at the end, or at a line that is refused
  at_end_lem : (s : State) (c : Tally) (room : ℕ) (ps : List (List ℕ)) → ((q : List ℕ) (qs : List (List ℕ)) → followed ps (q ∷ qs) ≡ q ∷ qs) → tell K s c ps ≡ sum_text (sum_of K s c 0)
      → Account K s c room ps (stopped s c End ps)
  at_end_lem s c room ps f e = record { on = λ qs. refl; ends = λ h. e; stays = λ l n q. not_refused q; done = λ h. f; short = λ k q. not_closed refl (sym q) }

  at_refusal : (s : State) (c : Tally) (room : ℕ) (ps : List (List ℕ)) (n : ℕ) → tell K s c ps ≡ sum_text (sum_of K s c n)
      → (Settled ps → (qs : List (List ℕ)) → tell K s c (followed ps qs) ≡ sum_text (sum_of K s c n)) → Account K s c room ps (stopped s c (Refused n) ps)
  at_refusal s c room ps n e f = record {
    on = λ qs. refl;
    ends = λ h. e;
    stays = λ l m q qs. f l qs ∙ ap (λ k. sum_text (sum_of K s c k)) (same m q);
    done = λ q. not_refused (sym q);
    short = λ k q. not_closed refl (sym q);
  }
    where
      same : (m : ℕ) → Refused n ≡ Refused m → n ≡ m
      same m q = cc

  -- a line with its newline is refused whatever follows
  at_line : (s : State) (c : Tally) (room : ℕ) (p q : List ℕ) (ps : List (List ℕ)) (n : ℕ)
      → ((r : List ℕ) (rs : List (List ℕ)) → tell K s c (p ∷ r ∷ rs) ≡ sum_text (sum_of K s c n)) → Account K s c room (p ∷ q ∷ ps) (stopped s c (Refused n) (p ∷ q ∷ ps))
  at_line s c room p q ps n f = at_refusal s c room (p ∷ q ∷ ps) n (f q ps) (λ o. behind (λ l. tell K s c (p ∷ l) ≡ sum_text (sum_of K s c n)) q ps f)

  -- an accepted step that keeps no cycle, or a row that is taken
  at_step : {s : State} {c : Tally} {room : ℕ} {w : State} {d : Tally} {p q : List ℕ} {ps : List (List ℕ)} {go : Played}
      → ((qs : List (List ℕ)) → tell K s c (followed (p ∷ q ∷ ps) qs) ≡ tell K w d (followed (q ∷ ps) qs)) → Account K w d room (q ∷ ps) go → Account K s c room (p ∷ q ∷ ps) go
  at_step e t = record { on = λ qs. e qs ∙ t.on qs; ends = t.ends; stays = t.stays; done = t.done; short = t.short }

  -- one that keeps a cycle
  module _ (k : Cycle) {s : State} {c : Tally} {room : ℕ} {w : State} {d : Tally} {p q : List ℕ} {ps : List (List ℕ)}
      (e : (qs : List (List ℕ)) → tell K s c (followed (p ∷ q ∷ ps) qs) ≡ cycle_text k ++ tell K w d (followed (q ∷ ps) qs)) where
    -- its row has no room
    at_full : room < length (cycle_text k) → Account K s c room (p ∷ q ∷ ps) (stopped w d (Closed k) (q ∷ ps))
    at_full l = record {
      on = e;
      ends = λ h. absurd (false_true (sym h));
      stays = λ l n q. not_closed refl q;
      done = λ q. not_closed refl q;
      short = λ j q. omega (arith, subst⁻¹ (λ i. room < length (cycle_text i)) (same j q) l);
    }
      where
        same : (j : Cycle) → Closed k ≡ Closed j → j ≡ k
        same j q = cc

    -- its row is told
    at_told : {go : Played} → length (cycle_text k) ≤ room → Account K w d (room - length (cycle_text k)) (q ∷ ps) go → Account K s c room (p ∷ q ∷ ps) (telling (cycle_text k) go)
    at_told {go} l t = record {
      on = λ qs. e qs ∙ ap (λ l. cycle_text k ++ l) (t.on qs) ∙ sym (append_assoc (cycle_text k) go.text _);
      ends = t.ends;
      stays = t.stays;
      done = t.done;
      short = λ j q. omega (arith, t.short j q, length-append (cycle_text k) go.text);
    }

  on_verdict_lem : (v : Verdict) (s : State) (c : Tally) (room : ℕ) (w : State) (d : Tally) (p q : List ℕ) (ps : List (List ℕ)) (go : ℕ → Played)
      → ((qs : List (List ℕ)) → tell K s c (followed (p ∷ q ∷ ps) qs) ≡ verdict_text v ++ tell K w d (followed (q ∷ ps) qs)) → ((n : ℕ) → Account K w d n (q ∷ ps) (go n))
      → Account K s c room (p ∷ q ∷ ps) (on_verdict v w d room (q ∷ ps) go)
  on_verdict_lem none s c room w d p q ps go e t = at_step e (t room)
  on_verdict_lem (kept r) s c room w d p q ps go e t =
      let k = cycle_of r in
      cases (leb (length (cycle_text k)) room)
      (λ h. rw h (at_told k e (leb-true _ _ h) (t (room - length (cycle_text k)))))
      (λ h. rw h (at_full k e (leb-false _ _ h)))
  on_verdict_lem dropped s c room w d p q ps go e t = at_step e (t room)

  on_line_lem : (l : Option Step) (s : State) (c : Tally) (room : ℕ) (p q : List ℕ) (ps : List (List ℕ)) → read_step set_digits p ≡ l
      → ((w : State) (d : Tally) (n : ℕ) → Account K w d n (q ∷ ps) (played K w d n (q ∷ ps)))
      → Account K s c room (p ∷ q ∷ ps) (on_line K s c room p l (p ∷ q ∷ ps) (q ∷ ps) (λ w d n. played K w d n (q ∷ ps)))
  on_line_lem None s c room p q ps e go =
      let u = resumed K s c p in
      cases (begins_row p)
      (λ b. rw b
      (cases (accepted u.number)
      (λ h. rw h
      (at_step (behind (λ l. tell K s c (p ∷ l) ≡ tell K u.state u.tally l) q ps (λ r rs. row_taken K R s c p r rs e b h))
      (go u.state u.tally room)))
      (λ h. rw h (at_line s c room p q ps u.number (λ r rs. row_refused K R s c p r rs e b h)))))
      (λ b. rw b (at_line s c room p q ps 11 (λ r rs. line_bad K R s c p r rs e b)))
  on_line_lem (Some x) s c room p q ps e go =
      let v = verdict K s x in
      let w = next K s x in
      let d = tallied K s x c in
      cases (accepted (refusal K s x))
      (λ h. rw h
      (on_verdict_lem v s c room w d p q ps (λ n. played K w d n (q ∷ ps))
      (behind (λ l. tell K s c (p ∷ l) ≡ verdict_text v ++ tell K w d l) q ps (λ r rs. step_accepted K R s c p r rs x e h))
      (go w d)))
      (λ h. rw h (at_line s c room p q ps (refusal K s x) (λ r rs. step_refused K R s c p r rs x e h)))

  -- what is too long for a line is none, whatever follows
  at_long : (s : State) (c : Tally) (b : ℕ) (p : List ℕ) → Settled ((b ∷ p) ∷ []) → (qs : List (List ℕ)) → tell K s c (followed ((b ∷ p) ∷ []) qs) ≡ sum_text (sum_of K s c 11)
  at_long s c b p (inl e) qs = let z : ◌≡◌ {A = ℕ} 0 1 = cc in absurd (omega arith)
  at_long s c b p (inr h) [] = tell_cut K s c b p
  at_long s c b p (inr h) (q ∷ []) = tell_cut K s c b (p ++ q)
  at_long s c b p (inr h) (q ∷ r ∷ qs) =
      let line = (b ∷ p) ++ q in
      let bad = long_bad (b ∷ p) q h in
      let n = unread K s c line (R.long line (omega (arith, length-append (b ∷ p) q))) in
      cases (begins_row line)
      (λ y. row_refused K R s c line r qs bad y (rw n) ∙ ap (λ m. sum_text (sum_of K s c m)) n)
      (λ y. line_bad K R s c line r qs bad y)

  pub account : (ps : List (List ℕ)) (s : State) (c : Tally) (room : ℕ) → Account K s c room ps (played K s c room ps)
  unfolding played
  account [] s c room = at_end_lem s c room [] (λ q qs. refl) (tell_over K s c)
  account ([] ∷ []) s c room = at_end_lem s c room ([] ∷ []) (λ q qs. refl) (tell_end K s c)
  account ((b ∷ p) ∷ []) s c room = at_refusal s c room ((b ∷ p) ∷ []) 11 (tell_cut K s c b p) (at_long s c b p)
  account (p ∷ q ∷ ps) s c room = on_line_lem (read_step set_digits p) s c room p q ps refl (account (q ∷ ps))

  -- what is told of a run over a log
  module _ {log : List ℕ} {from : ℕ} {g : Going} {buf : List ℕ} {place : ℕ} {r : Ran} {after : List ℕ} (h : Plays K log from g buf place r after) where
    pub run_account : Account K g.state g.tally (length buf - place) (pieces log from) (played_to h.runs.text r.going.state r.going.tally r.stop (pieces log r.at))
    run_account =
        let room = length buf - (place + length h.runs.text) in
        let e = sym (left_over K h.runs.text r.going.state r.going.tally room r.stop (pieces log r.at) h.whole) ∙ h.runs.played in
        subst⁻¹ (Account K g.state g.tally (length buf - place) (pieces log from)) e (account (pieces log from) g.state g.tally (length buf - place))

    -- with nothing behind it
    pub run_tells : tell K g.state g.tally (pieces log from) ≡ h.runs.text ++ (pending r.stop ++ tell K r.going.state r.going.tally (pieces log r.at))
    run_tells =
        ap (tell K g.state g.tally) (sym (followed_none (pieces log from))) ∙ run_account.on []
        ∙ ap (λ l. h.runs.text ++ (pending r.stop ++ tell K r.going.state r.going.tally l)) (followed_none (pieces log r.at))
