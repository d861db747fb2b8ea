-- A log gone through run by run, and the lines of a block: one law for each turn and each exit.
use Prim.Native.Nat.{ℕ, ◌-◌, ◌≤◌, ◌<◌}
use mathlib.Core.Bool.{Bool, true, false}
use mathlib.Core.List.{List}
use mathlib.Core.Path.{◌≡◌, refl, sym, subst, subst⁻¹, ◌∙◌}
use native.Mathlib.Omega.{arith}
use lib.ListN.{length, take}
use lib.Seq.{slice}
use Rattle.text.specs.Parts.{split_on}
use Rattle.text.specs.Put.{Put}
use Rattle.text.proofs.Picks.{false_true}
use Rattle.model.specs.Tables.{Table}
use Rattle.model.specs.declared.State.{State}
use Rattle.model.proofs.Tests.{true_T}
use Rattle.tally.specs.Tallies.{Roomy}
use Rattle.tally.specs.declared.Tally.{Tally}
use Rattle.engine.specs.Play.{pieces, is_closed, is_row, Ready}
use Rattle.report.specs.declared.Cycle.{Cycle}
use Rattle.engine.specs.declared.Stop.{Stop}
use Rattle.engine.specs.declared.Stop.TheVariants.{End, Refused, Closed, Row}
use Rattle.engine.specs.declared.Going.{Going}
use Rattle.engine.specs.declared.Ran.{Ran}
use Rattle.playing.specs.Plays.{Plays}
use Rattle.playing.proofs.Resuming.{going_same}
use Rattle.judging.specs.Report.{refusal_of}
use Rattle.judging.proofs.Hands.{chunk_bytes}
use Rattle.stream.specs.Chunk.{chunk_end}
use Rattle.reaching.specs.Passing.{stays, passed, Passes, is_over, Turned}
use Rattle.reaching.proofs.Playing.{gone_on, run_gone}

-- what is left of a log from a place on comes to what the whole log comes to
pub record Left (K : Table) (log : List ℕ) (g₀ g : Going) (at : ℕ) : Type 0 where
  pub same : passed K g₀.state g₀.tally (split_on 10 log) ≡ passed K g.state g.tally (pieces log at)
  pub within : at ≤ length log
  pub ready : Ready K g
  pub roomy : Roomy g.tally (length log - at)

-- the whole log is left
pub left_all : {K : Table} {log : List ℕ} {g : Going} → Ready K g → Roomy g.tally (length log) → Left K log g g 0
left_all {log = log} {g = g} r h = let e : length log ≡ length log - 0 = omega arith in record { same = refl; within = omega arith; ready = r; roomy = subst (Roomy g.tally) e h }

-- a stop at a kept cycle, by the code's match
is_closed_lem : (w : Stop) {k : Cycle} → w ≡ Closed k → is_closed w ≡ true
is_closed_lem w e = rw e

-- from there on the log goes on
gone_more : (K : Table) (s : State) (c : Tally) (w : Stop) (rest : List (List ℕ)) → is_closed w ≡ true → gone_on K s c w rest ≡ passed K s c rest
gone_more K s c End rest o = absurd (false_true o)
gone_more K s c (Refused n) rest o = absurd (false_true o)
gone_more K s c (Closed k) rest o = refl
gone_more K s c Row rest o = refl

-- a stop at neither a cycle nor a row
gone_over : (K : Table) (s : State) (c : Tally) (w : Stop) (rest : List (List ℕ)) → is_closed w ≡ false → is_row w ≡ false → gone_on K s c w rest ≡ stays s c (refusal_of w)
gone_over K s c End rest o r = refl
gone_over K s c (Refused n) rest o r = refl
gone_over K s c (Closed k) rest o r = absurd (false_true (sym o))
gone_over K s c Row rest o r = absurd (false_true (sym r))

module _ {K : Table} {log : List ℕ} {g₀ g : Going} {at : ℕ} (l : Left K log g₀ g at) {buf : List ℕ} {r : Ran} {after : List ℕ} (h : Plays K log at g buf 0 r after) where
  -- behind a kept cycle
  module _ {k : Cycle} (e : r.stop ≡ Closed k) where
    -- the log goes on
    pub left_more : Left K log g₀ r.going r.at
    left_more = record {
      same = l.same ∙ run_gone K h.runs ∙ gone_more K r.going.state r.going.tally r.stop (pieces log r.at) (is_closed_lem r.stop e);
      within = h.runs.inside;
      ready = h.runs.ready;
      roomy = h.runs.roomy;
    }

    -- and less of it is left
    pub left_less : length log - r.at < length log - at
    left_less = omega (arith, h.runs.within, h.runs.inside, h.runs.onward (true_T _ (is_closed_lem r.stop e)))

  -- at its end or a refusal it is over
  pub left_over : is_closed r.stop ≡ false → Passes (passed K g₀.state g₀.tally (split_on 10 log)) r
  left_over o =
      let w = l.same ∙ run_gone K h.runs ∙ gone_over K r.going.state r.going.tally r.stop (pieces log r.at) o h.whole in
      subst⁻¹ (λ x. Passes x r) w (record { going = going_same h.runs.ready; refusal = refl })

-- the lines of a block that are gone through now
module _ (block : List ℕ) (have : ℕ) (h : have ≤ length block) (ended : Bool) (end : ℕ) (e : end ≡ chunk_end ended (take have block)) where
  -- the turn
  pub turned : {K : Table} {g : Going} {x : Ran} → Passes (passed K g.state g.tally (split_on 10 (take end block))) x → {n : ℕ} → n ≡ refusal_of x.stop
      → {done : Bool} → done ≡ is_over ended n → {held : ℕ} {rest : List ℕ} → Put block 0 (slice end have block) held rest
      → Turned K g ended block have (record { going = x.going; refusal = n; held = held; over = done }) rest
  turned {K} {g} {x} p {n} y d z =
      let q = subst (λ b. Passes (passed K g.state g.tally (split_on 10 b)) x) (chunk_bytes block have h ended end e) p in
      record { going = q.going; refusal = y ∙ q.refusal; over = d; held = rw e at z }
