-- A report written: the header, the row of each cycle as it is kept, and the `sum` row; and its width, found without writing into it.
use Prim.Native.Nat.{ℕ, ◌+◌, ◌-◌, ◌≤◌, ◌<◌}
use mathlib.Core.Path.{◌≡◌, refl, sym, ap, subst, subst⁻¹, ◌∙◌}
use mathlib.Core.List.{List, ◌++◌}
use mathlib.Core.Bool.{true, false}
use native.Mathlib.Omega.{arith}
use lib.ListN.{length, length-append}
use lib.Seq.{length-sets}
use lib.Dec.{T, leb}
use borrow.Author.Tests.{le-leb, lt-leb}
use Rattle.text.specs.Put.{Put}
use Rattle.text.proofs.Picks.{order}
use Rattle.text.proofs.Puts.{put_fits}
use Rattle.model.specs.Tables.{Table}
use Rattle.model.specs.States.{fresh}
use Rattle.model.specs.Cycles.{refused_report}
use Rattle.model.proofs.Tests.{true_T}
use Rattle.table.specs.Checks.{Said, accepts, refused, Passes}
use Rattle.table.specs.Tables.{table_of}
use Rattle.table.specs.Texts.{read_table}
use Rattle.table.specs.declared.Table as tables
use Rattle.table.proofs.Trips.{read_checks}
use Rattle.prepared.specs.Held.{held}
use Rattle.prepared.specs.declared.component.Component.{Component}
use Rattle.entries.proofs.Owning.{RowLaws, row_laws}
use Rattle.report.specs.Rows.{numbers_text, line_text, sum_word, head_text, cycle_text, rows_text, sum_numbers, sum_text}
use Rattle.report.specs.declared.Cycle.{Cycle}
use Rattle.report.proofs.Lines.{put_length, head_length, line_length, numbers_most, row_most, Writing, writing_start, writing_put, writing_last}
use Rattle.tally.specs.Tallies.{most_count, no_tally, lines_of, Roomy, sum_of}
use Rattle.tally.specs.declared.Tally.{Tally}
use Rattle.engine.specs.Play.{pieces, is_closed, Ready}
use Rattle.engine.specs.Starts.{fresh_going}
use Rattle.engine.specs.declared.Stop.{Stop}
use Rattle.engine.specs.declared.Stop.TheVariants.{End, Refused, Closed, Row}
use Rattle.engine.specs.declared.Going.{Going}
use Rattle.engine.specs.declared.Ran.{Ran}
use Rattle.engine.proofs.Starting.{fresh_ready, roomy}
use Rattle.playing.specs.Plays.{Plays}
use Rattle.judging.specs.Report.{report_text, log_text, report_on, refusal_of, surely}
use Rattle.judging.proofs.Telling.{tell, log_text_lem}
use Rattle.judging.proofs.Accounts.{pending, none_pending, run_account, run_tells}
use Rattle.judging.proofs.Bounds.{surely_holds}

-- what a `state` row is under a component
pub rows_of : (k : Component) → RowLaws (held k)
rows_of k = row_laws (held k) (true_T _ k.prepared.formed)

-- a text that does not fit is not written
put_over : (buf : List ℕ) (at : ℕ) (text : List ℕ) → length buf < at + length text → Put buf at text at buf
put_over buf at text h = record { place = rw (lt-leb _ _ h); bytes = rw (lt-leb _ _ h) }

-- a run that stopped at the log's end, at a refusal or at a row did not stop at a cycle
pub not_closed : (w : Stop) → ((k : Cycle) → w ≡ Closed k → ⊥) → is_closed w ≡ false
not_closed End o = refl
not_closed (Refused n) o = refl
not_closed (Closed k) o = absurd (o k refl)
not_closed Row o = refl

-- and one that stopped at a cycle did
is_closed_lem : {w : Stop} {k : Cycle} → w ≡ Closed k → T (is_closed w)
is_closed_lem c = subst⁻¹ (λ w. T (is_closed w)) c tt

-- the report on a refused table
module _ (n l : ℕ) (ns : List ℕ) (e : ns ≡ sum_numbers (refused_report n l).sum) (w : ℕ) (q : w ≡ 3 + length (numbers_text ns)) where
  -- its width fits
  pub refused_small : 9 + w < 18446744073709551616
  refused_small = let k : length ns ≡ 9 = ap length e in omega (arith, numbers_most ns)

  text : report_text (refused_report n l) ≡ head_text ++ line_text sum_word ns
  unfolding rows_text
  text = rw e

  wide : length (report_text (refused_report n l)) ≡ 9 + w
  wide = ap length text ∙ length-append head_text (line_text sum_word ns) ∙ rw (head_length, line_length sum_word ns, q)

  -- it does not fit
  pub refused_none : (buf : List ℕ) → length buf < 9 + w → Put buf 0 (report_text (refused_report n l)) 0 buf
  refused_none buf h = put_over buf 0 (report_text (refused_report n l)) (omega (arith, wide))

  -- header and `sum` row are written
  pub refused_put : (buf b₁ b₂ : List ℕ) (at r : ℕ) → 9 + w ≤ length buf → Put buf 0 head_text at b₁ → Put b₁ at (line_text sum_word ns) r b₂
      → Put buf 0 (report_text (refused_report n l)) r b₂
  refused_put buf b₁ b₂ at r h y z =
      let s = writing_start buf 0 (report_text (refused_report n l)) (omega (arith, wide)) in
      writing_last (writing_put (subst (Writing buf 0 (report_text (refused_report n l)) buf 0) text s) y) z

-- the fresh start
pub fresh_start : (K : Table) (log : List ℕ) (g : Going) → g ≡ fresh_going → length log ≤ most_count → Ready K g × (0 ≤ length log) × Roomy g.tally (length log - 0)
unfolding fresh_going
fresh_start K log g e h = (subst⁻¹ (Ready K) e (fresh_ready K), omega arith, roomy fresh g e (length log - 0) (omega arith))

-- a count that can still grow is no larger than the most
pub roomy_lines : {c : Tally} {n : ℕ} → Roomy c n → lines_of c ≤ most_count
roomy_lines h = omega (arith, h.lines)

module _ {K : Table} {log : List ℕ} {from : ℕ} {g : Going} {buf : List ℕ} {place : ℕ} {r : Ran} {after : List ℕ} (h : Plays K log from g buf place r after) where
  -- the buffer keeps its length
  pub run_length : length after ≡ length buf
  run_length = ap length h.runs.bytes ∙ length-sets buf place h.runs.text

-- the room left behind some bytes
room_behind : (at w : ℕ) {n room : ℕ} → at ≤ room → at + w ≡ n → leb w (room - at) ≡ leb n room
room_behind at w {n} {room} h e = order room n (λ l. lt-leb w (room - at) (omega arith) ∙ sym (lt-leb n room l)) (λ l. le-leb w (room - at) (omega arith) ∙ sym (le-leb n room l))

log_width : (K : Table) (log : List ℕ) → length (log_text K log) ≡ 9 + length (tell K fresh no_tally (pieces log 0))
log_width K log = ap length (log_text_lem K log) ∙ length-append head_text (tell K fresh no_tally (pieces log 0)) ∙ rw head_length

-- not even the header fits
pub fitting_none : (K : Table) (log : List ℕ) (room : ℕ) → room < 9 → false ≡ leb (length (log_text K log)) room
fitting_none K log room h = sym (lt-leb (length (log_text K log)) room (omega (arith, log_width K log)))

-- the width so far, the rows that only measure, and what is still to tell are the width of the report
pub record Fitting (K : Table) (log : List ℕ) (room : ℕ) (scratch : List ℕ) (g : Going) (at filled width : ℕ) : Type 0 where
  pub told : width + filled + length (tell K g.state g.tally (pieces log at)) ≡ length (log_text K log)
  pub fits : width ≤ room
  pub size : length scratch ≡ 4096
  pub place : filled ≤ length scratch
  pub within : at ≤ length log
  pub ready : Ready K g
  pub roomy : Roomy g.tally (length log - at)

pub fitting_start : (K : Table) (log : List ℕ) (room : ℕ) (scratch : List ℕ) (g : Going) → length scratch ≡ 4096 → g ≡ fresh_going → 9 ≤ room → length log ≤ most_count
    → Fitting K log room scratch g 0 0 9
unfolding fresh_going
fitting_start K log room scratch g z e h l =
    let s = fresh_start K log g e l in
    record { told = rw e (sym (log_width K log)); fits = h; size = z; place = omega arith; within = s.1; ready = s.0; roomy = s.2 }

module _ {K : Table} (R : RowLaws K) {log : List ℕ} {room : ℕ} {scratch : List ℕ} {g : Going} {at filled width : ℕ} (f : Fitting K log room scratch g at filled width)
    {r : Ran} {after : List ℕ} (h : Plays K log at g scratch filled r after) where
  still : width + r.filled + length (pending r.stop ++ tell K r.going.state r.going.tally (pieces log r.at)) ≡ length (log_text K log)
  still =
      let t : width + filled + length (h.runs.text ++ (pending r.stop ++ tell K r.going.state r.going.tally (pieces log r.at))) ≡ length (log_text K log) = rw (run_tells K R h) at f.told in
      omega (arith, h.runs.filled, length-append h.runs.text (pending r.stop ++ tell K r.going.state r.going.tally (pieces log r.at)))

  -- the rows do not fit
  pub fitting_short : room - width < r.filled → false ≡ leb (length (log_text K log)) room
  fitting_short n = sym (lt-leb (length (log_text K log)) room (omega (arith, f.fits, still)))

  -- they do, and the `sum` row decides
  pub fitting_end : r.filled ≤ room - width → is_closed r.stop ≡ false → (n : ℕ) → n ≡ refusal_of r.stop → (ns : List ℕ) → ns ≡ sum_numbers (sum_of K r.going.state r.going.tally n)
      → (w : ℕ) → w ≡ 3 + length (numbers_text ns) → leb w (room - (width + r.filled)) ≡ leb (length (log_text K log)) room
  fitting_end y c n p ns q w l =
      let s : length (sum_text (sum_of K r.going.state r.going.tally n)) ≡ w = line_length sum_word _ ∙ rw (← q) (sym l) in
      let t : length (tell K r.going.state r.going.tally (pieces log r.at)) ≡ w = ap length ((run_account K R h).ends c) ∙ rw (← p) s in
      let u : width + r.filled + w ≡ length (log_text K log) = rw (none_pending r.stop _ c, t) at still in
      room_behind (width + r.filled) w (omega (arith, f.fits)) u

  -- they do, and the row of a kept cycle is the next to be measured
  pub fitting_more : r.filled ≤ room - width → {k : Cycle} → r.stop ≡ Closed k → {more : ℕ} {out : List ℕ} → Put after 0 (cycle_text k) more out
      → Fitting K log room out r.going r.at more (width + r.filled)
  fitting_more y {k} c {more} p =
      let t : width + r.filled + length (cycle_text k ++ tell K r.going.state r.going.tally (pieces log r.at)) ≡ length (log_text K log) = rw c at still in
      let z : length after ≡ 4096 = run_length h ∙ f.size in
      let w = put_fits (omega (arith, row_most k)) p in
      record {
        told = omega (arith, w.0, length-append (cycle_text k) (tell K r.going.state r.going.tally (pieces log r.at)));
        fits = omega (arith, f.fits);
        size = put_length p ∙ z;
        place = omega (arith, w.0, put_length p, row_most k);
        within = h.runs.inside;
        ready = h.runs.ready;
        roomy = h.runs.roomy;
      }

-- a report written into a buffer that holds it
module _ (K : Table) (R : RowLaws K) (log buf : List ℕ) (room : length (log_text K log) ≤ length buf) (at : ℕ) (b₁ : List ℕ) (p : Put buf 0 head_text at b₁) where
  head : Writing buf 0 (log_text K log) b₁ at (tell K fresh no_tally (pieces log 0))
  head = writing_put (subst (Writing buf 0 (log_text K log) buf 0) (log_text_lem K log) (writing_start buf 0 (log_text K log) (omega arith))) p

  -- behind the header
  pub head_within : at ≤ length b₁
  head_within = omega (arith, head.kept, head.wide, head.room)

  module _ (g : Going) (e : g ≡ fresh_going) (o : Ran) (b₂ : List ℕ) (t : Plays K log 0 g b₁ at o b₂) where
    told : tell K fresh no_tally (pieces log 0) ≡ t.runs.text ++ (pending o.stop ++ tell K o.going.state o.going.tally (pieces log o.at))
    unfolding fresh_going
    told = rw e at (run_tells K R t)

    rows : Writing buf 0 (log_text K log) b₂ o.filled (pending o.stop ++ tell K o.going.state o.going.tally (pieces log o.at))
    rows =
        let w = subst (Writing buf 0 (log_text K log) b₁ at) told head in
        let z : Put b₁ at t.runs.text o.filled b₂ = record { place = t.runs.filled ∙ rw (le-leb _ _ t.runs.fits); bytes = t.runs.bytes ∙ rw (le-leb _ _ t.runs.fits) } in
        writing_put w z

    -- every row had room
    ended : (s : Stop) → o.stop ≡ s → is_closed s ≡ false
    ended End q = refl
    ended (Refused n) q = refl
    ended (Closed k) q =
        let w : Writing buf 0 (log_text K log) b₂ o.filled (cycle_text k ++ tell K o.going.state o.going.tally (pieces log o.at)) = rw q at rows in
        absurd (omega (arith, (run_account K R t).short k q, t.runs.filled, head.kept, w.wide, w.room, length-append (cycle_text k) (tell K o.going.state o.going.tally (pieces log o.at))))
    ended Row q = refl

    left : Writing buf 0 (log_text K log) b₂ o.filled (sum_text (sum_of K o.going.state o.going.tally (refusal_of o.stop)))
    left =
        let c = ended o.stop refl in
        subst (Writing buf 0 (log_text K log) b₂ o.filled) (none_pending o.stop _ c ∙ (run_account K R t).ends c) rows

    -- the `sum` row is written
    pub report_put : (n : ℕ) → n ≡ refusal_of o.stop → (r : ℕ) (b₃ : List ℕ) → Put b₂ o.filled (sum_text (sum_of K o.going.state o.going.tally n)) r b₃
        → Put buf 0 (log_text K log) r b₃
    report_put n q r b₃ z = writing_last left (rw q at z)

-- it surely fits
pub log_surely : (k : Component) (log : List ℕ) (room : ℕ) → surely room (length log) ≡ true → length (log_text (held k) log) ≤ room
log_surely k log room y = surely_holds (held k) (true_T _ k.prepared.formed) (rows_of k) log room (true_T _ y)

-- the report on a table's text and a log
module _ (s : List ℕ) where
  -- a table that was read is accepted
  pub read_fine : {t : tables.Table} → accepts t ≡ read_table s → Passes t
  read_fine {t} e = ap (λ (x : Said). x.numbers) (read_checks s t (sym e))

  module _ (log : List ℕ) {buf after : List ℕ} {n : ℕ} where
    pub judged_fine : {t : tables.Table} → accepts t ≡ read_table s → Put buf 0 (log_text (table_of t) log) n after → Put buf 0 (report_on s log) n after
    unfolding report_on
    judged_fine e p = rw (← e) p

    pub judged_refused : {m k l : ℕ} → refused m l ≡ read_table s → k ≡ m → Put buf 0 (report_text (refused_report k l)) n after → Put buf 0 (report_on s log) n after
    unfolding report_on
    judged_refused e q p = rw (← e, ← q) p
