-- A log played with its `state` rows: what the loop keeps, where it is over, and how a row takes it on.
use Prim.Native.Nat.{ℕ, ◌+◌, ◌-◌, ◌*◌, ◌≤◌, ◌<◌}
use mathlib.Core.Bool.{true, false}
use mathlib.Core.List.{List, [], ◌∷◌, ◌++◌, append-nil}
use mathlib.Core.Path.{◌≡◌, refl, ap, sym, subst⁻¹, ◌∙◌}
use native.Mathlib.Omega.{arith}
use borrow.Author.Tests.{ne_eqb}
use lib.Dec.{T, eqb}
use lib.ListN.{length, take, drop, length-append, length-drop}
use lib.Seq.{length-take-le}
use Rattle.text.specs.Parts.{first_at}
use Rattle.text.proofs.Picks.{cases, false_true}
use Rattle.text.proofs.Puts.{sets_append}
use Rattle.text.proofs.Seeking.{part_starts}
use Rattle.model.specs.Tests.{accepted}
use Rattle.model.specs.Tables.{Table}
use Rattle.model.specs.Cycles.{managing}
use Rattle.model.specs.Sound.{sound}
use Rattle.model.specs.declared.State.{State}
use Rattle.model.proofs.Soundness.{of_sound}
use Rattle.logs.specs.Lines.{set_digits, read_step}
use Rattle.saved.specs.Rows.{begins_row}
use Rattle.entries.specs.Entries.{row_state, row_number, row_refusal, resumed}
use Rattle.entries.proofs.Owning.{RowLaws}
use Rattle.tally.specs.Tallies.{lines_of, after_row, began, Roomy}
use Rattle.tally.specs.declared.Tally.{Tally}
use Rattle.tally.proofs.Tallying.{roomy_one, row_roomy}
use Rattle.engine.specs.Play.{Played, pieces, played_to, stopped, telling, on_row, on_line, played, Ready, is_closed, is_row, AtRow, Runs}
use Rattle.engine.specs.declared.Stop.{Stop}
use Rattle.engine.specs.declared.Stop.TheVariants.{End, Refused, Closed, Row}
use Rattle.engine.specs.declared.Going.{Going}
use Rattle.engine.specs.declared.Ran.{Ran}
use Rattle.engine.proofs.Lines.{first_line}
use Rattle.engine.proofs.Pausing.{telling_more, left_over}
use Rattle.engine.proofs.Runs.{Rows, rows_kept}
use Rattle.engine.proofs.Starting.{ready}
use Rattle.playing.specs.Plays.{Resumed, Resumes, Begins, Plays}
use Rattle.playing.proofs.Resuming.{going_same}

-- a place that was reached: the rows told before it, and what is carried there
pub record Stands (K : Table) (log : List ℕ) (from : ℕ) (lent : List ℕ) (place : ℕ) (g : Going) (at : ℕ) (buf : List ℕ) (filled : ℕ) : Type 0 where
  pub rows : Rows lent place buf filled
  pub within : from ≤ at
  pub inside : at ≤ length log
  pub ready : Ready K g
  pub roomy : Roomy g.tally (length log - at)

-- and the lines from there on come, behind those rows, to what all come to from the start
pub record Reached (K : Table) (log : List ℕ) (from : ℕ) (start : Going) (lent : List ℕ) (place : ℕ) (g : Going) (at : ℕ) (buf : List ℕ) (filled : ℕ) : Type 0 where
  pub here : Stands K log from lent place g at buf filled
  pub rest : telling here.rows.text (played K g.state g.tally (length lent - filled) (pieces log at)) ≡ played K start.state start.tally (length lent - place) (pieces log from)

-- a row stands at a place, up to a newline
pub record RowAt (K : Table) (log : List ℕ) (at e : ℕ) : Type 0 where
  pub laws : RowLaws K
  pub inside : at ≤ length log
  pub row : AtRow log at
  pub newline : e ≡ first_at log at 10

-- at a place that was reached a row is met
pub record Met (K : Table) (log : List ℕ) (from : ℕ) (start : Going) (lent : List ℕ) (place : ℕ) (g : Going) (at : ℕ) (buf : List ℕ) (filled e : ℕ) : Type 0 where
  pub reached : Reached K log from start lent place g at buf filled
  pub there : RowAt K log at e

-- the start
pub reached_none : (K : Table) (log : List ℕ) (from : ℕ) (g : Going) (lent : List ℕ) (place : ℕ) → Ready K g → from ≤ length log → Roomy g.tally (length log - from) → place ≤ length lent
    → Reached K log from g lent place g from lent place
reached_none K log from g lent place R l m h = record {
  here = record { rows = record { text = []; fits = omega arith; filled = omega arith; bytes = refl }; within = omega arith; inside = l; ready = R; roomy = m };
  rest = refl;
}

-- a log played on from another place, where it comes to the same, is played from the first
pub plays_begun : {K : Table} {log : List ℕ} {from : ℕ} {g h : Going} {at : ℕ} {lent : List ℕ} {place : ℕ} {r : Ran} {after : List ℕ} → Begins K log from g h at → Plays K log at h lent place r after → Plays K log from g lent place r after
plays_begun {lent = lent} {place = place} B P =
    let R = P.runs in
    record {
      runs = record {
        text = R.text;
        played = R.played ∙ B.played (length lent - place);
        fits = R.fits;
        filled = R.filled;
        bytes = R.bytes;
        within = omega (arith, B.within, R.within);
        inside = R.inside;
        at_row = R.at_row;
        onward = λ t. omega (arith, B.within, R.onward t);
        ready = R.ready;
        roomy = R.roomy;
      };
      whole = P.whole;
    }

-- a place that was reached, from which the log goes on from another
reached_on : {K : Table} {log : List ℕ} {from : ℕ} {start : Going} {lent : List ℕ} {place : ℕ} {g h : Going} {at to : ℕ} {buf : List ℕ} {filled : ℕ} → Reached K log from start lent place g at buf filled → Begins K log at g h to → Reached K log from start lent place h to buf filled
reached_on Z B = record {
  here = record { rows = Z.here.rows; within = omega (arith, Z.here.within, B.within); inside = B.inside; ready = B.ready; roomy = B.roomy };
  rest = ap (telling Z.here.rows.text) (B.played _) ∙ Z.rest;
}

-- there is room for the rows told so far
pub rows_inside : {K : Table} {log : List ℕ} {from : ℕ} {start : Going} {lent : List ℕ} {place : ℕ} {g : Going} {at : ℕ} {buf : List ℕ} {filled : ℕ} → Reached K log from start lent place g at buf filled → filled ≤ length buf
rows_inside Z = omega (arith, Z.here.rows.fits, Z.here.rows.filled, rows_kept Z.here.rows)

-- it is over at a place
over_at : (K : Table) (log : List ℕ) (from : ℕ) (start : Going) {lent : List ℕ} {place : ℕ} {g : Going} {at : ℕ} {buf : List ℕ} {filled : ℕ} (H : Stands K log from lent place g at buf filled)
    (w : Stop) → is_row w ≡ false → (T (is_closed w) → from < at)
    → played_to H.rows.text g.state g.tally w (pieces log at) ≡ played K start.state start.tally (length lent - place) (pieces log from)
    → Plays K log from start lent place (record { going = g; at = at; filled = filled; stop = w }) buf
over_at K log from start {g = g} {at = at} H w o n e = record {
  runs = record {
    text = H.rows.text;
    played = left_over K H.rows.text g.state g.tally _ w (pieces log at) o ∙ e;
    fits = H.rows.fits;
    filled = H.rows.filled;
    bytes = H.rows.bytes;
    within = H.within;
    inside = H.inside;
    at_row = λ t. absurd (rw o at t);
    onward = n;
    ready = H.ready;
    roomy = H.roomy;
  };
  whole = o;
}

-- rows told behind others are told behind the start
abbrev rows_more : {lent buf after : List ℕ} {place filled end : ℕ} → Rows lent place buf filled → Rows buf filled after end → Rows lent place after end
rows_more {lent} {place = place} P Q = record {
  text = P.text ++ Q.text;
  fits = omega (arith, P.filled, Q.fits, rows_kept P, length-append P.text Q.text);
  filled = omega (arith, P.filled, Q.filled, length-append P.text Q.text);
  bytes = Q.bytes ∙ rw (P.bytes, P.filled) (sym (sets_append lent place P.text Q.text));
}

-- a run of the engine from a place that was reached
module _ {K : Table} {log : List ℕ} {from : ℕ} {start : Going} {lent : List ℕ} {place : ℕ} {g : Going} {at : ℕ} {buf : List ℕ} {filled : ℕ} (Z : Reached K log from start lent place g at buf filled)
    {r : Ran} {after : List ℕ} (R : Runs K log at g buf filled r after) where
  -- what is reached behind it
  abbrev behind : Stands K log from lent place r.going r.at after r.filled
  behind = record {
    rows = rows_more Z.here.rows (record { text = R.text; fits = R.fits; filled = R.filled; bytes = R.bytes });
    within = omega (arith, Z.here.within, R.within);
    inside = R.inside;
    ready = R.ready;
    roomy = R.roomy;
  }

  -- what it comes to, told behind the rows before it, is what all lines come to
  all_played : (p : Played) → p ≡ played K g.state g.tally (length buf - filled) (pieces log at) → telling Z.here.rows.text p ≡ played K start.state start.tally (length lent - place) (pieces log from)
  all_played p e = ap (telling Z.here.rows.text) (e ∙ rw (rows_kept Z.here.rows)) ∙ Z.rest

  -- it leaves at no row: it is over
  pub run_over : (r.stop ≡ Row → ⊥) → Plays K log from start lent place r after
  run_over h =
      let o = no_row r.stop h in
      over_at K log from start behind r.stop o (λ t. omega (arith, Z.here.within, R.onward t))
      (all_played _ (sym (left_over K R.text r.going.state r.going.tally _ r.stop (pieces log r.at) o) ∙ R.played))
    where
      no_row : (w : Stop) → (w ≡ Row → ⊥) → is_row w ≡ false
      no_row End h = refl
      no_row (Refused n) h = refl
      no_row (Closed k) h = refl
      no_row Row h = absurd (h refl)

  -- it leaves at a row: this one is met
  pub run_meets : RowLaws K → r.stop ≡ Row → {e : ℕ} → e ≡ first_at log r.at 10 → Met K log from start lent place r.going r.at after r.filled e
  run_meets L i f =
      let t : telling R.text (played K r.going.state r.going.tally (length buf - (filled + length R.text)) (pieces log r.at)) ≡ played K g.state g.tally (length buf - filled) (pieces log at) = rw i at R.played in
      let room : length buf - (filled + length R.text) ≡ length lent - r.filled = omega (arith, R.filled, rows_kept Z.here.rows) in
      record {
        reached = record { here = behind; rest = sym (telling_more Z.here.rows.text R.text _) ∙ all_played _ (rw room at t) };
        there = record { laws = L; inside = R.inside; row = R.at_row (rw i tt); newline = f };
      }

-- room to count what a first row leaves, which opens no more than it has bytes
begun_roomy : (K : Table) (w : State) {c : Tally} {n m l : ℕ} → Roomy c n → l + m < n → 39 * managing K w ≤ l → Roomy (began K w) m
unfolding began
begun_roomy K w R h l = record { lines = omega (arith, R.lines); opened = omega (arith, R.opened); kept = omega (arith, R.kept); dropped = omega (arith, R.dropped); since = omega (arith, R.since) }

module _ (K : Table) (s : State) (c : Tally) (p : List ℕ) where
  -- what a row leaves, be it taken or refused: on line 1 what it says, on any later line what was there
  resumed_by : (Q : State → Tally → Type 0) → (accepted (row_number K p) ≡ true → Q (row_state K p) (began K (row_state K p))) → Q s (after_row c) → Q s c
      → Q (resumed K s c p).state (resumed K s c p).tally
  unfolding resumed
  resumed_by Q first later stays =
      cases (eqb (lines_of c) 0)
      (λ h. cases (accepted (row_number K p)) (λ y. rw (h, y) (first y)) (λ y. rw (h, y) stays))
      (λ h. cases (accepted (row_refusal K s p)) (λ y. rw (h, y) later) (λ y. rw (h, y) stays))

  -- one that is refused leaves all as it was
  resumed_stays : accepted (resumed K s c p).number ≡ false → ((resumed K s c p).state ≡ s) × ((resumed K s c p).tally ≡ c)
  unfolding resumed
  resumed_stays n =
      cases (eqb (lines_of c) 0)
      (λ h. cases (accepted (row_number K p)) (λ y. absurd (false_true (sym (rw (h, y) at n)))) (λ y. rw (h, y) (refl, refl)))
      (λ h. cases (accepted (row_refusal K s p)) (λ y. absurd (false_true (sym (rw (h, y) at n)))) (λ y. rw (h, y) (refl, refl)))

  module _ (L : RowLaws K) where
    -- the state is sound
    resumed_sound : T (sound K s) → T (sound K (resumed K s c p).state)
    resumed_sound h = resumed_by (λ w d. T (sound K w)) (λ y. of_sound K _ (L.sound p y)) h h

    -- and there is room to count the lines behind the row
    resumed_roomy : {n m : ℕ} → Roomy c n → length p + m < n → Roomy (resumed K s c p).tally m
    resumed_roomy {n} {m} R h =
        resumed_by (λ w d. Roomy d m)
        (λ y. begun_roomy K (row_state K p) R h (L.wide p y))
        (row_roomy c n R m (omega arith))
        (record { lines = omega (arith, R.lines); opened = omega (arith, R.opened); kept = omega (arith, R.kept); dropped = omega (arith, R.dropped); since = omega (arith, R.since) })

-- the first of more lines is played, then the others
one_more_lem : (K : Table) (s : State) (c : Tally) (room : ℕ) (p q : List ℕ) (ps : List (List ℕ)) → played K s c room (p ∷ q ∷ ps) ≡ on_line K s c room p (read_step set_digits p) (p ∷ q ∷ ps) (q ∷ ps) (λ w d n. played K w d n (q ∷ ps))
unfolding played
one_more_lem K s c room p q ps = refl

-- a row at a place
module _ {K : Table} {log : List ℕ} {at e : ℕ} (A : RowAt K log at e) where
  -- its newline stands inside the log
  ends_inside : e < length log
  ends_inside = omega (arith, A.row.ends, A.newline)

  -- and not before the row
  starts_before : at ≤ e
  starts_before = part_starts log at e 10 A.inside A.newline

  -- what is played from here on is what the row says
  at_row_lem : (s : State) (c : Tally) (room : ℕ) → played K s c room (pieces log at) ≡ on_row s c room (resumed K s c (take (e - at) (drop at log))) (pieces log at) (λ w d n. played K w d n (pieces log (e + 1)))
  at_row_lem s c room =
      let b : begins_row (take (e - at) (drop at log)) ≡ true = subst⁻¹ (λ e. begins_row (take (e - at) (drop at log)) ≡ true) A.newline A.row.begins in
      first_line log at e A.inside A.newline ends_inside (played K s c room) (λ p here rest. on_line K s c room p (read_step set_digits p) here rest (λ w d n. played K w d n rest)) (one_more_lem K s c room)
      ∙ rw (A.laws.no_step _ b, b)

  -- it is taken: the log goes on behind its newline
  pub begins_behind : {g : Going} → Ready K g → Roomy g.tally (length log - at) → {x : Resumed} → Resumes K g (take (e - at) (drop at log)) x → x.number ≡ 0 → Begins K log at g x.going (e + 1)
  begins_behind {g} R m {x} D n =
      let p = take (e - at) (drop at log) in
      let size : length p ≡ e - at = length-take-le (e - at) (drop at log) (omega (arith, ends_inside, length-drop at log)) in
      record {
        played = λ room. sym (at_row_lem _ _ _ ∙ rw (← D.number, n, D.going));
        within = omega (arith, starts_before);
        inside = omega (arith, ends_inside);
        ready = ready _ _ x.going D.going K (resumed_sound K g.state g.tally p A.laws R.sound);
        roomy = subst⁻¹ (λ h. Roomy h.tally (length log - (e + 1))) D.going (resumed_roomy K g.state g.tally p A.laws m (omega (arith, size, ends_inside, starts_before)));
      }

module _ {K : Table} {log : List ℕ} {from : ℕ} {start : Going} {lent : List ℕ} {place : ℕ} {g : Going} {at : ℕ} {buf : List ℕ} {filled e : ℕ} (M : Met K log from start lent place g at buf filled e) where
  -- where a row is met
  abbrev place_here : Stands K log from lent place g at buf filled
  place_here = M.reached.here

  -- its newline stands inside the log
  pub row_ends : e < length log
  row_ends = ends_inside M.there

  -- and not before the row
  pub row_starts : at ≤ e
  row_starts = starts_before M.there

  -- there is room to count it
  pub row_counts : Roomy g.tally 1
  row_counts = roomy_one g.tally _ place_here.roomy (omega (arith, row_ends, row_starts))

  module _ {x : Resumed} (D : Resumes K g (take (e - at) (drop at log)) x) where
    -- it is refused: the log is over
    pub row_over : (x.number ≡ 0 → ⊥) → Plays K log from start lent place (record { going = x.going; at = at; filled = filled; stop = Refused x.number }) buf
    row_over n =
        let z = resumed_stays K g.state g.tally (take (e - at) (drop at log)) (rw (← D.number) (ne_eqb _ 0 n)) in
        let q : x.going ≡ g = D.going ∙ rw (z.0, z.1) (sym (going_same place_here.ready)) in
        let t : played K g.state g.tally (length lent - filled) (pieces log at) ≡ stopped g.state g.tally (Refused x.number) (pieces log at) = at_row_lem M.there _ _ _ ∙ rw (← D.number, ne_eqb _ 0 n) in
        subst⁻¹ (λ h. Plays K log from start lent place (record { going = h; at = at; filled = filled; stop = Refused x.number }) buf) q
        (over_at K log from start place_here (Refused x.number) refl (λ t. absurd t)
        (ap (λ l. played_to l g.state g.tally (Refused x.number) (pieces log at)) (sym (append-nil place_here.rows.text)) ∙ ap (telling place_here.rows.text) (sym t) ∙ M.reached.rest))

    -- it is taken: the log goes on behind its newline
    pub row_taken : x.number ≡ 0 → Reached K log from start lent place x.going (e + 1) buf filled
    row_taken n = reached_on M.reached (begins_behind M.there place_here.ready place_here.roomy D n)
