-- A run, line after line: what its loop keeps, where it stops, how an accepted step and a row that goes by take it on, and how the row of a
-- kept cycle is told.
use Prim.Native.Nat.{ℕ, ◌+◌, ◌-◌, ◌≤◌, ◌<◌}
use mathlib.Core.Bool.{true, false}
use mathlib.Core.List.{List, [], ◌++◌, append-nil}
use mathlib.Core.Path.{◌≡◌, refl, ap, sym, subst⁻¹, ◌∙◌}
use native.Mathlib.Omega.{arith}
use borrow.Author.Tests.{ne_eqb, le-leb, lt-leb}
use lib.Dec.{T}
use lib.ListN.{length, length-append}
use lib.Seq.{sets, length-sets}
use Rattle.text.specs.Parts.{first_at}
use Rattle.text.specs.Put.{Put}
use Rattle.text.proofs.Picks.{order}
use Rattle.text.proofs.Puts.{put_fits, put_short, sets_append}
use Rattle.text.proofs.Seeking.{part_starts}
use Rattle.std.specs.Prelude.{Option, Some, None}
use Rattle.model.specs.Limits.{most_tasks, most_acts}
use Rattle.model.specs.Tables.{Table}
use Rattle.model.specs.Refusals.{number_of}
use Rattle.model.specs.declared.refusal.Refusal.{Refusal}
use Rattle.model.specs.Cycles.{Verdict, none, kept, dropped, verdict}
use Rattle.model.specs.declared.State.{State}
use Rattle.model.specs.declared.Step.{Step}
use Rattle.model.proofs.Formed.{Formed}
use Rattle.model.proofs.Soundness.{Sound, sound_of, of_sound}
use Rattle.model.proofs.StepsKeep.{step_keeps}
use Rattle.conflicts.specs.Busy.{busy_in}
use Rattle.managing.specs.Listed.{listed_in}
use Rattle.report.specs.Rows.{cycle_of, cycle_text}
use Rattle.report.specs.declared.Cycle.{Cycle}
use Rattle.report.proofs.Lines.{row_some}
use Rattle.tally.specs.Tallies.{after_row, ruling_of, Roomy}
use Rattle.tally.specs.declared.Tally.{Tally}
use Rattle.tally.specs.declared.Ruling.{Ruling}
use Rattle.tally.specs.declared.Ruling.TheVariants.{Kept}
use Rattle.tally.proofs.Tallying.{roomy_one, counted_roomy, row_roomy}
use Rattle.engine.specs.Play.{Played, played_to, pieces, stopped, telling, on_kept, on_verdict, on_step, paused, Ready, is_closed, is_row, AtRow, Pauses}
use Rattle.engine.specs.Turns.{line_at, passes_at, row_or}
use Rattle.engine.specs.Steps.{Finds, Small, Takes, Refuses}
use Rattle.engine.specs.declared.Stop.{Stop}
use Rattle.engine.specs.declared.Stop.TheVariants.{End, Refused, Closed}
use Rattle.engine.specs.declared.Going.{Going}
use Rattle.engine.proofs.Stepping.{number_some}
use Rattle.engine.proofs.Lines.{read_small, at_end_lem, at_passed, at_unread, step_ends, at_step, row_unclosed, row_there}
use Rattle.engine.proofs.Pausing.{telling_more, played_on, plays_on}

-- what holds where a line starts: the state is sound, what is kept beside it agrees, and there is room to count the lines left
pub record Stands (K : Table) (log : List ℕ) (from : ℕ) (g : Going) (at : ℕ) : Type 0 where
  pub within : at ≤ length log
  pub onward : from ≤ at
  pub sound : Sound K g.state
  pub busy : g.busy ≡ busy_in g.state
  pub listed : g.listed ≡ listed_in g.state
  pub roomy : Roomy g.tally (length log - at)

-- the rows written so far into a buffer that was lent, from a place on
pub record Rows (lent : List ℕ) (place : ℕ) (buf : List ℕ) (end : ℕ) : Type 0 where
  pub text : List ℕ
  pub fits : place + length text ≤ length lent
  pub filled : end ≡ place + length text
  pub bytes : buf ≡ sets lent place text

-- and the lines from there up to a row that does not go by come, behind those rows, to what all come to from the start
pub record Plays (K : Table) (log : List ℕ) (from : ℕ) (start : Going) (lent : List ℕ) (place : ℕ) (g : Going) (at : ℕ) (buf : List ℕ) (filled : ℕ) : Type 0 where
  pub here : Stands K log from g at
  pub rows : Rows lent place buf filled
  pub rest : telling rows.text (paused K g.state g.tally (length lent - filled) (pieces log at)) ≡ paused K start.state start.tally (length lent - place) (pieces log from)

-- a run that leaves where a line starts, and why
pub record Leaves (K : Table) (log : List ℕ) (from : ℕ) (start : Going) (lent : List ℕ) (place : ℕ) (g : Going) (at : ℕ) (buf : List ℕ) (filled : ℕ) (w : Stop) : Type 0 where
  pub here : Stands K log from g at
  pub rows : Rows lent place buf filled
  pub rest : telling rows.text (stopped g.state g.tally w (pieces log at)) ≡ paused K start.state start.tally (length lent - place) (pieces log from)
  pub onward : T (is_closed w) → from < at
  pub at_row : T (is_row w) → AtRow log at

-- rows told before nothing
telling_none : (text : List ℕ) (s : State) (c : Tally) (w : Stop) (ps : List (List ℕ)) → telling text (stopped s c w ps) ≡ played_to text s c w ps
telling_none text s c w ps = ap (λ l. played_to l s c w ps) (append-nil text)

-- the buffer keeps its length
pub rows_kept : {lent buf : List ℕ} {place filled : ℕ} → Rows lent place buf filled → length buf ≡ length lent
rows_kept {lent} {place = place} R = ap length R.bytes ∙ length-sets lent place R.text

-- a row more behind them
rows_more : {lent buf : List ℕ} {place end : ℕ} (R : Rows lent place buf end) (row : List ℕ) → sets buf end row ≡ sets lent place (R.text ++ row)
rows_more {lent} {place = place} R row = rw (R.bytes, R.filled) (sym (sets_append lent place R.text row))

-- what an accepted step comes to, by its verdict as the code has it
module _ (s : State) (c : Tally) (room : ℕ) (ls : List (List ℕ)) (go : ℕ → Played) where
  -- every verdict but that it is kept
  on_passed : (v : Verdict) → ((k : Cycle) → ruling_of v ≡ Kept k → ⊥) → on_verdict v s c room ls go ≡ go room
  on_passed none h = refl
  on_passed (kept r) h = absurd (h _ refl)
  on_passed dropped h = refl

  on_kept_lem : (v : Verdict) (k : Cycle) → ruling_of v ≡ Kept k → on_verdict v s c room ls go ≡ on_kept k s c room ls go
  on_kept_lem none k e = let z : ◌≡◌ {A = ℕ} 0 1 = cc in absurd (omega arith)
  on_kept_lem (kept r) k e = let q : cycle_of r ≡ k = cc in ap (λ k. on_kept k s c room ls go) q
  on_kept_lem dropped k e = let z : ◌≡◌ {A = ℕ} 0 1 = cc in absurd (omega arith)

-- a kept cycle's row is written where it has room
module _ {buf out : List ℕ} {at end : ℕ} (c : Cycle) (p : Put buf at (cycle_text c) end out) where
  pub told_none : end ≡ at → (length buf < at + length (cycle_text c)) × (out ≡ buf)
  told_none z =
      let short : length buf < at + length (cycle_text c) = order (length buf) (at + length (cycle_text c)) (λ l. l) (λ l. absurd (omega (arith, (put_fits l p).0, row_some c))) in
      (short, (put_short short p).1)

  pub told_some : (end ≡ at → ⊥) → (at + length (cycle_text c) ≤ length buf) × (end ≡ at + length (cycle_text c)) × (out ≡ sets buf at (cycle_text c))
  told_some n =
      let fit : at + length (cycle_text c) ≤ length buf = order (length buf) (at + length (cycle_text c)) (λ l. absurd (n (put_short l p).0)) (λ l. l) in
      let u = put_fits fit p in
      (fit, u.0, u.1)

module _ {K : Table} {log : List ℕ} {from : ℕ} {start : Going} {lent : List ℕ} {place : ℕ} where
  -- the start
  pub run_starts : length start.state.tasks ≡ most_tasks → length start.state.acts ≡ most_acts → Ready K start → from ≤ length log → Roomy start.tally (length log - from) → place ≤ length lent
      → Plays K log from start lent place start from lent place
  run_starts t a R l m p = record {
    here = record { within = l; onward = omega arith; sound = sound_of K start.state (record { tasks = t; acts = a }) R.sound; busy = R.busy; listed = R.listed; roomy = m };
    rows = record { text = []; fits = omega arith; filled = omega arith; bytes = refl };
    rest = refl;
  }

  module _ {g : Going} {at : ℕ} {buf : List ℕ} {filled : ℕ} where
    -- what a run answers that leaves
    pub run_answers : {w : Stop} → Leaves K log from start lent place g at buf filled w → Pauses K log from start lent place (record { going = g; at = at; filled = filled; stop = w }) buf
    run_answers {w} L =
        let H = L.here in
        let R = L.rows in
        let p : played_to R.text g.state g.tally w (pieces log at) ≡ paused K start.state start.tally (length lent - place) (pieces log from) = sym (telling_none R.text g.state g.tally w (pieces log at)) ∙ L.rest in
        let room : length lent - (place + length R.text) ≡ length lent - place - length R.text = omega arith in
        record {
          runs = record {
            text = R.text;
            played = rw room (ap (played_on K (length lent - place)) p ∙ sym (plays_on K (pieces log from) start.state start.tally (length lent - place)));
            fits = R.fits;
            filled = R.filled;
            bytes = R.bytes;
            within = H.onward;
            inside = H.within;
            at_row = L.at_row;
            onward = L.onward;
            ready = record { sound = of_sound K g.state H.sound; busy = H.busy; listed = H.listed };
            roomy = H.roomy;
          };
          paused = p;
        }

    module _ (P : Plays K log from start lent place g at buf filled) where
      -- it leaves at a line that comes to so much
      leaves_at : {w : Stop} → paused K g.state g.tally (length lent - filled) (pieces log at) ≡ stopped g.state g.tally w (pieces log at) → (T (is_closed w) → from < at) → (T (is_row w) → AtRow log at)
          → Leaves K log from start lent place g at buf filled w
      leaves_at e o r = record { here = P.here; rows = P.rows; rest = ap (telling P.rows.text) (sym e) ∙ P.rest; onward = o; at_row = r }

      -- at the log's end
      pub run_ends : length log ≤ at → Leaves K log from start lent place g at buf filled End
      run_ends h = leaves_at (at_end_lem K g.state g.tally (length lent - filled) log at h) (λ t. absurd t) (λ t. absurd t)

      -- a turn of the loop, at a line with the next newline at e
      module _ (h : at < length log) {e : ℕ} (f : e ≡ first_at log at 10) where
        -- a step finds what it needs
        pub step_finds : Finds K g
        step_finds = record {
          ready = record { sound = of_sound K g.state P.here.sound; busy = P.here.busy; listed = P.here.listed };
          roomy = roomy_one g.tally _ P.here.roomy (omega arith);
          tasks = P.here.sound.shape.tasks;
          acts = P.here.sound.shape.acts;
        }

        -- at a line that is no step, it leaves where no row goes by
        pub unread_leaves : {l : Option Step} → l ≡ line_at log at e → l ≡ None → passes_at K g.state g.tally log at (first_at log at 10) ≡ false → {w : Stop} → w ≡ row_or log at e 11 → Leaves K log from start lent place g at buf filled w
        unread_leaves q i y {w} z =
            let p : passes_at K g.state g.tally log at e ≡ false = rw f y in
            leaves_at (at_unread K g.state g.tally (length lent - filled) log at e h f (sym q ∙ i) p ∙ rw z refl) (λ t. row_unclosed log at e 11 (rw z at t)) (λ t. row_there log at e 11 P.here.within f (rw z at t))

        -- one that goes by has its newline in the log
        pub row_inside : passes_at K g.state g.tally log at (first_at log at 10) ≡ true → {p : ℕ} → p ≡ first_at log at 10 → p < length log
        row_inside y q = omega (arith, (at_passed K g.state g.tally (length lent - filled) log at _ h refl y).0)

        -- and the run goes on behind it
        pub row_passes : (passes_at K g.state g.tally log at (first_at log at 10) ≡ true) → {p : ℕ} → p ≡ first_at log at 10 → {d : Tally} → d ≡ after_row g.tally
            → Plays K log from start lent place (record { state = g.state; busy = g.busy; listed = g.listed; tally = d }) (p + 1) buf filled
        row_passes y {p} q {d} z =
            let a = at_passed K g.state g.tally (length lent - filled) log at _ h refl y in
            let o = part_starts log at _ 10 P.here.within refl in
            record {
              here = record {
                within = omega (arith, q, a.0);
                onward = omega (arith, q, o, P.here.onward);
                sound = P.here.sound;
                busy = P.here.busy;
                listed = P.here.listed;
                roomy = rw z (row_roomy g.tally _ P.here.roomy _ (omega (arith, q, o, a.0)));
              };
              rows = P.rows;
              rest = ap (telling P.rows.text) (rw (z, q) (sym a.1)) ∙ P.rest;
            }

        -- at a step
        module _ {x : Step} {l : Option Step} (q : l ≡ line_at log at e) (i : l ≡ Some x) where
          line_is : line_at log at e ≡ Some x
          line_is = sym q ∙ i

          ends : e < length log
          ends = step_ends K g.state g.tally (length lent - filled) log at e h f x line_is

          onward : at ≤ e
          onward = part_starts log at e 10 P.here.within f

          pub newline_inside : e < length log
          newline_inside = ends

          pub less_left : length log - (e + 1) < length log - at
          less_left = omega (arith, ends, onward)

          -- a line says no more ticks
          pub step_small : Small x
          step_small =
              let n : e ≡ length log → ⊥ = λ z. omega (arith, ends) in
              read_small x _ (rw (ne_eqb e (length log) n) at line_is)

          paused_here : paused K g.state g.tally (length lent - filled) (pieces log at) ≡ on_step K g.state g.tally (length lent - filled) x (pieces log at) (pieces log (e + 1)) (λ w d n. paused K w d n (pieces log (e + 1)))
          paused_here = at_step K g.state g.tally (length lent - filled) log at e h f x line_is

          -- it is refused
          pub step_refused : {r : Refusal} {k : Going} → Refuses K g x r k → {n : ℕ} → n ≡ number_of r → Leaves K log from start lent place k at buf filled (Refused n)
          step_refused {r} R {n} c =
              let z : on_step K g.state g.tally (length lent - filled) x (pieces log at) (pieces log (e + 1)) (λ w d n. paused K w d n (pieces log (e + 1))) ≡ stopped g.state g.tally (Refused n) (pieces log at) = rw (← R.number, ne_eqb (number_of r) 0 (number_some r), c) in
              subst⁻¹ (λ k. Leaves K log from start lent place k at buf filled (Refused n)) R.going (leaves_at (paused_here ∙ z) (λ t. absurd t) (λ t. absurd t))

          -- it is accepted
          module _ (F : Formed K) {v : Ruling} {k : Going} (A : Takes K g x v k) where
            after : Stands K log from k (e + 1)
            after = subst⁻¹ (λ k. Stands K log from k (e + 1)) A.going (record {
              within = omega (arith, ends);
              onward = omega (arith, P.here.onward, onward);
              sound = step_keeps K F g.state P.here.sound x A.accepted;
              busy = refl;
              listed = refl;
              roomy = counted_roomy x (verdict K g.state x) g.tally P.here.roomy less_left;
            })

            played_after : telling P.rows.text (on_verdict (verdict K g.state x) k.state k.tally (length lent - filled) (pieces log (e + 1)) (λ n. paused K k.state k.tally n (pieces log (e + 1)))) ≡ paused K start.state start.tally (length lent - place) (pieces log from)
            played_after = ap (telling P.rows.text) (rw A.going (sym (paused_here ∙ rw A.accepted))) ∙ P.rest

            -- no cycle is kept
            pub step_passed : ((c : Cycle) → v ≡ Kept c → ⊥) → Plays K log from start lent place k (e + 1) buf filled
            step_passed n = record { here = after; rows = P.rows; rest = ap (telling P.rows.text) (sym (on_passed k.state k.tally _ _ _ (verdict K g.state x) (λ c i. n c (A.ruling ∙ i)))) ∙ played_after }

            -- a cycle is kept, and its row asks for room
            module _ (c : Cycle) (j : v ≡ Kept c) where
              played_kept : telling P.rows.text (on_kept c k.state k.tally (length lent - filled) (pieces log (e + 1)) (λ n. paused K k.state k.tally n (pieces log (e + 1)))) ≡ paused K start.state start.tally (length lent - place) (pieces log from)
              played_kept = ap (telling P.rows.text) (sym (on_kept_lem k.state k.tally _ _ _ (verdict K g.state x) c (sym A.ruling ∙ j))) ∙ played_after

              size : length buf ≡ length lent
              size = rows_kept P.rows

              -- it has none
              pub step_full : {out : List ℕ} → (length buf < filled + length (cycle_text c)) × (out ≡ buf) → Leaves K log from start lent place k (e + 1) out filled (Closed c)
              step_full t =
                  let lack : length lent - filled < length (cycle_text c) = omega (arith, t.0, size, P.rows.fits, P.rows.filled) in
                  record {
                    here = after;
                    rows = record { text = P.rows.text; fits = P.rows.fits; filled = P.rows.filled; bytes = t.1 ∙ P.rows.bytes };
                    rest = rw (lt-leb _ _ lack) at played_kept;
                    onward = λ t. omega (arith, P.here.onward, onward);
                    at_row = λ t. absurd t;
                  }

              -- it is written, and the run goes on behind it
              pub step_told : {more : ℕ} {out : List ℕ} → (filled + length (cycle_text c) ≤ length buf) × (more ≡ filled + length (cycle_text c)) × (out ≡ sets buf filled (cycle_text c)) → Plays K log from start lent place k (e + 1) out more
              step_told {more} t =
                  let n = length-append P.rows.text (cycle_text c) in
                  let q : length lent - filled - length (cycle_text c) ≡ length lent - more = omega (arith, t.1) in
                  let room : length (cycle_text c) ≤ length lent - filled = omega (arith, t.0, size) in
                  record {
                    here = after;
                    rows = record {
                      text = P.rows.text ++ cycle_text c;
                      fits = omega (arith, P.rows.filled, t.0, size, n);
                      filled = omega (arith, P.rows.filled, t.1, n);
                      bytes = t.2 ∙ rows_more P.rows (cycle_text c);
                    };
                    rest = sym (telling_more P.rows.text (cycle_text c) _) ∙ (rw (le-leb _ _ room, q) at played_kept);
                  }
