-- A log told chunk by chunk: what was told of a chunk stands, whatever bytes follow it.
use Prim.Native.Nat.{ℕ, ◌<◌}
use mathlib.Core.Bool.{false}
use mathlib.Core.List.{List, [], ◌++◌, append-nil}
use mathlib.Core.Path.{◌≡◌, sym, ap, ◌∙◌}
use native.Mathlib.Omega.{arith}
use lib.ListN.{length, length-append}
use Rattle.text.specs.Parts.{split_on}
use Rattle.model.specs.Tables.{Table}
use Rattle.model.specs.declared.State.{State}
use Rattle.entries.proofs.Owning.{RowLaws}
use Rattle.report.specs.Rows.{cycle_text, sum_text}
use Rattle.report.specs.declared.Cycle.{Cycle}
use Rattle.tally.specs.Tallies.{sum_of}
use Rattle.tally.specs.declared.Tally.{Tally}
use Rattle.engine.specs.Play.{Played, played, is_closed}
use Rattle.engine.specs.declared.Stop.TheVariants.{End, Refused, Closed}
use Rattle.stream.proofs.Pieces.{followed, followed_none, split_some, split_append}
use Rattle.stream.proofs.Lines.{Settled}
use Rattle.judging.specs.Report.{refusal_of}
use Rattle.judging.proofs.Telling.{tell}
use Rattle.judging.proofs.Accounts.{pending, none_pending, account}

module _ (K : Table) (R : RowLaws K) (s : State) (c : Tally) (room : ℕ) (log : List ℕ) where
  -- what the chunk comes to
  abbrev pub chunk : Played
  chunk = played K s c room (split_on 10 log)

  carries : (b : List ℕ) → tell K s c (split_on 10 (log ++ b)) ≡ chunk.text ++ (pending chunk.stop ++ tell K chunk.state chunk.tally (followed chunk.rest (split_on 10 b)))
  carries b = ap (tell K s c) (split_append log b) ∙ (account K R (split_on 10 log) s c room).on (split_on 10 b)

  -- a chunk that went through: what follows is told behind it
  pub carries_end : chunk.stop ≡ End → (b : List ℕ) → tell K s c (split_on 10 (log ++ b)) ≡ chunk.text ++ tell K chunk.state chunk.tally (split_on 10 b)
  carries_end e b =
      let w = split_some b in
      let d : followed chunk.rest (split_on 10 b) ≡ split_on 10 b = rw w.2 ((account K R (split_on 10 log) s c room).done e w.0 w.1) in
      carries b ∙ rw (e, d)

  -- a settled chunk with a refusal in it: only the `sum` row is told behind it, whatever follows
  pub carries_refused : {n : ℕ} → Settled (split_on 10 log) → chunk.stop ≡ Refused n → (b : List ℕ) → tell K s c (split_on 10 (log ++ b)) ≡ chunk.text ++ sum_text (sum_of K chunk.state chunk.tally n)
  carries_refused {n} o e b = carries b ∙ rw (e, (account K R (split_on 10 log) s c room).stays o n e (split_on 10 b))

  -- a chunk that stopped at a kept cycle: its row had no room, and it is told
  pub carries_room : {k : Cycle} → chunk.stop ≡ Closed k → room < length (tell K s c (split_on 10 log))
  carries_room {k} e =
      let t = account K R (split_on 10 log) s c room in
      let l : tell K s c (split_on 10 (log ++ [])) ≡ chunk.text ++ (cycle_text k ++ tell K chunk.state chunk.tally (followed chunk.rest (split_on 10 []))) = rw e at (carries []) in
      omega (arith, t.short k e, rw (append-nil log, length-append, length-append) at (ap length l))

  -- the last chunk
  pub carries_last : is_closed chunk.stop ≡ false → tell K s c (split_on 10 log) ≡ chunk.text ++ sum_text (sum_of K chunk.state chunk.tally (refusal_of chunk.stop))
  carries_last o =
      let t = account K R (split_on 10 log) s c room in
      ap (tell K s c) (sym (followed_none (split_on 10 log))) ∙ t.on [] ∙ rw (followed_none chunk.rest, none_pending chunk.stop _ o, t.ends o)
