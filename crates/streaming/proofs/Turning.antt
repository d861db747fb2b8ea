-- A block judged: what a run wrote and the `sum` row behind it are what is told, since the buffer has room for whatever the block can tell.
use Prim.Native.Nat.{ℕ, ◌+◌, ◌-◌, ◌≤◌}
use mathlib.Core.Bool.{Bool, true, false, not}
use mathlib.Core.List.{List, [], ◌++◌}
use mathlib.Core.Path.{◌≡◌, refl, sym, ap, subst, subst⁻¹, ◌∙◌}
use native.Mathlib.Omega.{arith}
use lib.Dec.{T}
use lib.ListN.{length, take, length-append, length-take}
use lib.Seq.{slice}
use borrow.Author.Tests.{le-leb, not-true, not-false}
use Rattle.text.specs.Parts.{split_on}
use Rattle.text.specs.Put.{Put}
use Rattle.text.proofs.Puts.{put_nothing}
use Rattle.model.specs.Tables.{Table}
use Rattle.model.specs.Rows.{wellformed}
use Rattle.model.proofs.Tests.{true_T}
use Rattle.model.proofs.Formed.{formed}
use Rattle.model.proofs.Soundness.{Sound, sound_of, of_sound, fresh_shaped}
use Rattle.model.specs.declared.State.{State}
use Rattle.prepared.specs.Prepared.{table_in, Prepared}
use Rattle.entries.proofs.Owning.{RowLaws, row_laws}
use Rattle.report.specs.Rows.{cycle_text, sum_text}
use Rattle.report.proofs.Lines.{writing_start, writing_put, writing_last}
use Rattle.tally.specs.Tallies.{Roomy, sum_of}
use Rattle.tally.specs.declared.Tally.{Tally}
use Rattle.engine.specs.Play.{played_to, played, is_closed, pieces}
use Rattle.engine.specs.Starts.{fresh_going}
use Rattle.engine.specs.declared.Stop.{Stop}
use Rattle.engine.specs.declared.Stop.TheVariants.{End, Refused, Closed, Row}
use Rattle.engine.specs.declared.Going.{Going}
use Rattle.engine.specs.declared.Ran.{Ran}
use Rattle.engine.proofs.Pausing.{left_over}
use Rattle.playing.proofs.Resuming.{going_same}
use Rattle.engine.proofs.Starting.{fresh_ready}
use Rattle.playing.specs.Plays.{Plays}
use Rattle.stream.specs.Chunk.{chunk_end}
use Rattle.judging.specs.Report.{refusal_of}
use Rattle.judging.proofs.Telling.{tell}
use Rattle.judging.proofs.Accounts.{pending, none_pending, run_account, run_tells}
use Rattle.judging.proofs.Hands.{chunk_least, chunk_bytes}
use Rattle.judging.proofs.Bounds.{tell_bound}
use Rattle.streaming.specs.Turns.{taken, played_now, is_over, end_text, most_told}
use Rattle.streaming.specs.Lent.{Resumes, Turned, Judged}
use Rattle.streaming.specs.declared.Turn.{Turn}
use Rattle.streaming.proofs.Leaving.{played_sound, played_roomy}

-- the `sum` row, or nothing
module _ (K : Table) (s : State) (c : Tally) (w : Stop) (done : Bool) (out : List ℕ) (at : ℕ) where
  pub end_none : not done ≡ true → Put out at (end_text K s c w done) at out
  end_none n = rw (not-true done n) (put_nothing out at)

  pub end_sum : not done ≡ false → {n : ℕ} → n ≡ refusal_of w → {r : ℕ} {after : List ℕ} → Put out at (sum_text (sum_of K s c n)) r after
      → Put out at (end_text K s c w done) r after
  end_sum y e p = rw (not-false done y, ← e) p

-- the state that a log goes on from
pub resumes_sound : {K : Table} {g : Going} → Resumes K g → Sound K g.state
resumes_sound {K} {g} R = sound_of K g.state (record { tasks = R.tasks; acts = R.acts }) R.ready.sound

-- a run over lines for whose rows and `sum` row the buffer has room
module _ {K : Table} (wf : T (wellformed K)) (R : RowLaws K) (g : Going) (S : Sound K g.state) (chunk out : List ℕ)
    (m : most_told (length chunk) ≤ length out) {r : Ran} {mid : List ℕ} (t : Plays K chunk 0 g out 0 r mid) where
  all_fits : length t.runs.text + length (pending r.stop ++ tell K r.going.state r.going.tally (pieces chunk r.at)) ≤ length out
  all_fits =
      let b = tell_bound K wf R g.state S g.tally chunk in
      omega (arith, ap length (run_tells K R t), length-append t.runs.text (pending r.stop ++ tell K r.going.state r.going.tally (pieces chunk r.at)))

  -- so it did not stop for want of room
  run_open : (w : Stop) → r.stop ≡ w → is_closed w ≡ false
  run_open End e = refl
  run_open (Refused n) e = refl
  run_open (Closed k) e =
      let f : length t.runs.text + length (cycle_text k ++ tell K r.going.state r.going.tally (pieces chunk r.at)) ≤ length out = rw e at all_fits in
      absurd (omega (arith, (run_account K R t).short k e, length-append (cycle_text k) (tell K r.going.state r.going.tally (pieces chunk r.at))))
  run_open Row e = refl

  end_fits : (done : Bool) → length (t.runs.text ++ end_text K r.going.state r.going.tally r.stop done) ≤ length out
  end_fits true =
      let o = run_open r.stop refl in
      let f = rw (none_pending r.stop _ o, (run_account K R t).ends o) at all_fits in
      rw length-append f
  end_fits false = omega (arith, all_fits, length-append t.runs.text [])

  -- the `sum` row behind the rows
  run_written : (done : Bool) {n : ℕ} {after : List ℕ} → Put mid r.filled (end_text K r.going.state r.going.tally r.stop done) n after
      → Put out 0 (t.runs.text ++ end_text K r.going.state r.going.tally r.stop done) n after
  run_written done p =
      let f : 0 + length (t.runs.text ++ end_text K r.going.state r.going.tally r.stop done) ≤ length out = omega (arith, end_fits done) in
      let w = writing_start out 0 (t.runs.text ++ end_text K r.going.state r.going.tally r.stop done) f in
      let z : Put out 0 t.runs.text r.filled mid = record { place = t.runs.filled ∙ rw (le-leb _ _ t.runs.fits); bytes = t.runs.bytes ∙ rw (le-leb _ _ t.runs.fits) } in
      writing_last (writing_put w z) p

-- the turn over the first bytes of a block
module _ {rows index : List ℕ} (P : Prepared rows index) (g : Going) (R : Resumes (table_in rows index) g) (block : List ℕ) (have : ℕ) (h : have ≤ length block)
    (ended : Bool) (out : List ℕ) (m : most_told have ≤ length out) (end : ℕ) (e : end ≡ chunk_end ended (take have block)) where
  pub turned : {r : Ran} {mid : List ℕ} → Plays (table_in rows index) (take end block) 0 g out 0 r mid
      → (done : Bool) → done ≡ is_over ended r.stop
      → (n : ℕ) (after : List ℕ) → Put mid r.filled (end_text (table_in rows index) r.going.state r.going.tally r.stop done) n after
      → (held : ℕ) (rest : List ℕ) → Put block 0 (slice end have block) held rest
      → Judged (table_in rows index) g ended block have out (record { going = r.going; told = n; held = held; over = done }) rest after
  turned {r} {mid} t done d n after p held rest z =
      let K = table_in rows index in
      let wf = true_T _ P.formed in
      let S = resumes_sound R in
      let l : most_told (length (take end block)) ≤ length out = omega (arith, chunk_least block have h ended end e, length-take end block) in
      let o : length out - 0 ≡ length out = omega arith in
      let q : played_to t.runs.text r.going.state r.going.tally r.stop (pieces (take end block) r.at) ≡ played_now (length out) K g.state g.tally ended (take have block) =
      sym (left_over K t.runs.text r.going.state r.going.tally (length out - (0 + length t.runs.text)) r.stop (pieces (take end block) r.at) t.whole)
      ∙ t.runs.played ∙ rw o (ap (λ b. played K g.state g.tally (length out) (split_on 10 b)) (chunk_bytes block have h ended end e)) in
      subst (λ w. Turned K ended (take have block) w block out (record { going = r.going; told = n; held = held; over = done }) rest after) q
      (record {
        going = going_same t.runs.ready;
        over = d;
        told = rw d at (run_written wf (row_laws K wf) g S (take end block) out l t done p);
        held = rw e at z;
      })

-- a log goes on from the fresh state, and from where a turn leaves it
pub fresh_resumes : (K : Table) (g : Going) → g ≡ fresh_going → Resumes K g
unfolding fresh_going
fresh_resumes K g e = subst⁻¹ (Resumes K) e (record { tasks = fresh_shaped.tasks; acts = fresh_shaped.acts; ready = fresh_ready K })

module _ {rows index : List ℕ} (P : Prepared rows index) {g : Going} (R : Resumes (table_in rows index) g) (block : List ℕ) (have : ℕ) (ended : Bool)
    {out : List ℕ} {r : Turn} {rest after : List ℕ} (J : Judged (table_in rows index) g ended block have out r rest after) where
  pub turn_resumes : Resumes (table_in rows index) r.going
  turn_resumes =
      let K = table_in rows index in
      let wf = true_T _ P.formed in
      let S = played_sound K (formed K wf) (row_laws K wf) g.state (resumes_sound R) g.tally (length out) (taken ended (take have block)) in
      subst⁻¹ (Resumes K) J.going (record {
        tasks = S.shape.tasks;
        acts = S.shape.acts;
        ready = record { sound = of_sound K _ S; busy = refl; listed = refl };
      })

  -- a count that has room for the bytes at hand, and one more, has room for what follows
  pub turn_roomy : (n : ℕ) → Roomy g.tally (have + 1 + n) → Roomy r.going.tally n
  turn_roomy n h =
      let K = table_in rows index in
      let wf = true_T _ P.formed in
      let hand = take have block in
      let l : length (taken ended hand) ≤ have = omega (arith, length-take (chunk_end ended hand) hand, length-take have block) in
      subst⁻¹ (λ w. Roomy w.tally n) J.going
      (played_roomy K (formed K wf) (row_laws K wf) g.state (resumes_sound R) g.tally (length out) (taken ended (take have block)) have n l h)
