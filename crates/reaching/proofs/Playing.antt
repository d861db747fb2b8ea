-- A log gone through, along its play: where the play leaves off at a kept cycle the lines left are gone through from there on, else it is over.
use Prim.Native.Nat.{ℕ}
use mathlib.Core.List.{List, [], ◌∷◌}
use mathlib.Core.Path.{◌≡◌, refl, sym, ap, ◌∙◌}
use lib.ListN.{length}
use lib.Dec.{leb}
use Rattle.std.specs.Prelude.{Option, Some, None}
use Rattle.text.proofs.Picks.{cases}
use Rattle.model.specs.Tests.{accepted}
use Rattle.model.specs.Tables.{Table}
use Rattle.model.specs.Rules.{refusal, next}
use Rattle.model.specs.Cycles.{Verdict, none, kept, dropped, verdict}
use Rattle.model.specs.declared.State.{State}
use Rattle.model.specs.declared.Step.{Step}
use Rattle.logs.specs.Lines.{set_digits, read_step}
use Rattle.saved.specs.Rows.{begins_row}
use Rattle.report.specs.Rows.{cycle_of, cycle_text}
use Rattle.tally.specs.Tallies.{tallied}
use Rattle.tally.specs.declared.Tally.{Tally}
use Rattle.entries.specs.Entries.{resumed}
use Rattle.engine.specs.Play.{Played, on_verdict, on_line, played, pieces, left_with, Runs}
use Rattle.engine.specs.declared.Stop.{Stop}
use Rattle.engine.specs.declared.Stop.TheVariants.{End, Refused, Closed, Row}
use Rattle.engine.specs.declared.Going.{Going}
use Rattle.engine.specs.declared.Ran.{Ran}
use Rattle.reaching.specs.Passing.{Passed, stays, past_line, passed}

module _ (K : Table) where
  -- what is come to where a play stopped
  abbrev pub gone_on : State → Tally → Stop → List (List ℕ) → Passed
  gone_on s c End rest = stays s c 0
  gone_on s c (Refused n) rest = stays s c n
  gone_on s c (Closed k) rest = passed K s c rest
  gone_on s c Row rest = passed K s c rest

  -- what a play leads to
  abbrev gone : Played → Passed
  gone p = gone_on p.state p.tally p.stop p.rest

  -- an accepted step, told or not
  on_verdict_lem : (v : Verdict) (s : State) (c : Tally) (room : ℕ) (rest : List (List ℕ)) (go : ℕ → Played) → ((n : ℕ) → passed K s c rest ≡ gone (go n)) → passed K s c rest ≡ gone (on_verdict v s c room rest go)
  on_verdict_lem none s c room rest go h = h room
  on_verdict_lem (kept r) s c room rest go h = cases (leb (length (cycle_text (cycle_of r))) room) (λ y. rw y (h _)) (λ y. rw y)
  on_verdict_lem dropped s c room rest go h = h room

  -- a line with its newline
  on_line_lem : (l : Option Step) (s : State) (c : Tally) (room : ℕ) (p : List ℕ) (here rest : List (List ℕ)) → ((w : State) (d : Tally) (n : ℕ) → passed K w d rest ≡ gone (played K w d n rest))
      → past_line K s c p l (λ w d. passed K w d rest) ≡ gone (on_line K s c room p l here rest (λ w d n. played K w d n rest))
  on_line_lem None s c room p here rest h =
      let u = resumed K s c p in
      cases (begins_row p) (λ b. rw b (cases (accepted u.number) (λ y. rw y (h u.state u.tally room)) (λ y. rw y))) (λ b. rw b)
  on_line_lem (Some x) s c room p here rest h =
      cases (accepted (refusal K s x))
      (λ y. rw y (on_verdict_lem (verdict K s x) (next K s x) (tallied K s x c) room rest _ (h (next K s x) (tallied K s x c))))
      (λ y. rw y)

  -- a log with so much room for rows
  pub played_gone : (ps : List (List ℕ)) (s : State) (c : Tally) (room : ℕ) → passed K s c ps ≡ gone (played K s c room ps)
  unfolding passed played
  played_gone [] s c room = refl
  played_gone ([] ∷ []) s c room = refl
  played_gone ((b ∷ p) ∷ []) s c room = refl
  played_gone (p ∷ q ∷ ps) s c room = on_line_lem (read_step set_digits p) s c room p (p ∷ q ∷ ps) (q ∷ ps) (played_gone (q ∷ ps))

  -- a run that left off
  left_gone : (text : List ℕ) (s : State) (c : Tally) (room : ℕ) (w : Stop) (rest : List (List ℕ)) → gone (left_with K text s c room w rest) ≡ gone_on s c w rest
  left_gone text s c room End rest = refl
  left_gone text s c room (Refused n) rest = refl
  left_gone text s c room (Closed k) rest = refl
  left_gone text s c room Row rest = sym (played_gone rest s c room)

  -- what a log comes to behind a run over it
  pub run_gone : {log : List ℕ} {from : ℕ} {g : Going} {buf : List ℕ} {place : ℕ} {r : Ran} {after : List ℕ} → Runs K log from g buf place r after
      → passed K g.state g.tally (pieces log from) ≡ gone_on r.going.state r.going.tally r.stop (pieces log r.at)
  run_gone {log} {from} {g} {buf} {place} {r} h =
      played_gone (pieces log from) g.state g.tally _ ∙ ap gone (sym h.played) ∙ left_gone h.text r.going.state r.going.tally _ r.stop (pieces log r.at)
