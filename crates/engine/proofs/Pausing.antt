-- A log played up to its first `state` row that does not go by, and from there on: together what the log comes to.
use Prim.Native.Nat.{ℕ, ◌-◌}
use mathlib.Core.Bool.{true, false}
use mathlib.Core.List.{List, [], ◌∷◌, ◌++◌, append_assoc}
use mathlib.Core.Path.{◌≡◌, refl, ap, sym, ◌∙◌}
use native.Mathlib.Omega.{arith}
use lib.Dec.{leb, eqb}
use lib.ListN.{length, length-append}
use Rattle.text.proofs.Picks.{cases, picked, passed, false_true}
use Rattle.std.specs.Prelude.{Option, Some, None}
use Rattle.model.specs.Tests.{accepted}
use Rattle.model.specs.Tables.{Table}
use Rattle.model.specs.Rules.{refusal, next}
use Rattle.model.specs.Cycles.{Verdict, none, kept, dropped, verdict}
use Rattle.model.specs.declared.State.{State}
use Rattle.model.specs.declared.Step.{Step}
use Rattle.logs.specs.Lines.{set_digits, read_step}
use Rattle.saved.specs.Rows.{begins_row}
use Rattle.entries.specs.Entries.{stays, resumed}
use Rattle.report.specs.Rows.{cycle_of, cycle_text}
use Rattle.tally.specs.Tallies.{lines_of, after_row, tallied}
use Rattle.tally.specs.declared.Tally.{Tally}
use Rattle.engine.specs.Play.{Played, played_to, telling, on_verdict, on_step, goes_by, up_to_row, played, paused, is_row, left_with}
use Rattle.engine.specs.declared.Stop.{Stop}
use Rattle.engine.specs.declared.Stop.TheVariants.{End, Refused, Closed, Row}

-- rows told before a row more
pub telling_more : (text row : List ℕ) (p : Played) → telling text (telling row p) ≡ telling (text ++ row) p
telling_more text row p = ap (λ l. played_to l p.state p.tally p.stop p.rest) (sym (append_assoc text row p.text))

-- a row that goes by is taken, and only counts as a line
pub row_goes : (K : Table) (s : State) (c : Tally) (p : List ℕ) → goes_by K s c p ≡ true → (begins_row p ≡ true) × (resumed K s c p ≡ stays 0 s (after_row c))
unfolding goes_by resumed
row_goes K s c p e =
    let b = picked (begins_row p) false_true e in
    let l = passed (eqb (lines_of c) 0) false_true b.1 in
    (b.0, rw (l.0, l.1))

module _ (K : Table) where
  -- a run that leaves at no row is over
  pub left_over : (text : List ℕ) (s : State) (c : Tally) (room : ℕ) (w : Stop) (ps : List (List ℕ)) → is_row w ≡ false → left_with K text s c room w ps ≡ played_to text s c w ps
  left_over text s c room End ps h = refl
  left_over text s c room (Refused n) ps h = refl
  left_over text s c room (Closed k) ps h = refl
  left_over text s c room Row ps h = absurd (false_true (sym h))

  -- what is played on from where it paused, with the room left
  abbrev pub played_on : ℕ → Played → Played
  played_on room p = left_with K p.text p.state p.tally (room - length p.text) p.stop p.rest

  -- behind a row told before
  left_telling : (row text : List ℕ) (s : State) (c : Tally) (n m : ℕ) (w : Stop) (ps : List (List ℕ)) → n ≡ m → left_with K (row ++ text) s c n w ps ≡ telling row (left_with K text s c m w ps)
  left_telling row text s c n m End ps e = refl
  left_telling row text s c n m (Refused k) ps e = refl
  left_telling row text s c n m (Closed k) ps e = refl
  left_telling row text s c n m Row ps e = rw e (sym (telling_more row text (played K s c m ps)))

  on_telling : (row : List ℕ) (room : ℕ) (p : Played) → telling row (played_on (room - length row) p) ≡ played_on room (telling row p)
  on_telling row room p = sym (left_telling row p.text p.state p.tally _ _ p.stop p.rest (omega (arith, length-append row p.text)))

  -- behind an accepted step
  on_verdict_lem : (v : Verdict) (s : State) (c : Tally) (room : ℕ) (rest : List (List ℕ)) (go stay : ℕ → Played) → ((n : ℕ) → go n ≡ played_on n (stay n))
      → on_verdict v s c room rest go ≡ played_on room (on_verdict v s c room rest stay)
  on_verdict_lem none s c room rest go stay e = e room
  on_verdict_lem (kept r) s c room rest go stay e =
      let row = cycle_text (cycle_of r) in
      cases (leb (length row) room)
      (λ h. rw h (ap (telling row) (e (room - length row)) ∙ on_telling row room (stay (room - length row))))
      (λ h. rw h)
  on_verdict_lem dropped s c room rest go stay e = e room

  -- behind a step
  on_step_lem : (s : State) (c : Tally) (room : ℕ) (x : Step) (here rest : List (List ℕ)) (go stay : State → Tally → ℕ → Played) → ((w : State) (d : Tally) (n : ℕ) → go w d n ≡ played_on n (stay w d n))
      → on_step K s c room x here rest go ≡ played_on room (on_step K s c room x here rest stay)
  on_step_lem s c room x here rest go stay e =
      let w = next K s x in
      let d = tallied K s x c in
      cases (accepted (refusal K s x))
      (λ h. rw h (on_verdict_lem (verdict K s x) w d room rest (go w d) (stay w d) (e w d)))
      (λ h. rw h)

  -- at a row
  from_row : (s : State) (c : Tally) (room : ℕ) (ps : List (List ℕ)) → played K s c room ps ≡ telling [] (played K s c (room - 0) ps)
  from_row s c room ps = let e : room ≡ room - 0 = omega arith in ap (λ n. played K s c n ps) e

  -- at a line with its newline
  on_line_lem : (p q : List ℕ) (ps : List (List ℕ)) → ((w : State) (d : Tally) (n : ℕ) → played K w d n (q ∷ ps) ≡ played_on n (paused K w d n (q ∷ ps))) → (s : State) (c : Tally) (room : ℕ) (x : Option Step) → read_step set_digits p ≡ x
      → played K s c room (p ∷ q ∷ ps) ≡ played_on room (up_to_row K s c room p x (p ∷ q ∷ ps) (q ∷ ps) (λ w d n. paused K w d n (q ∷ ps)))
  unfolding played
  on_line_lem p q ps h s c room None e =
      cases (goes_by K s c p)
      (λ y. let r = row_goes K s c p y in rw (e, y, r.0, r.1) (h s (after_row c) room))
      (λ z. cases (begins_row p) (λ y. rw (z, y) (from_row s c room (p ∷ q ∷ ps))) (λ y. rw (z, e, y)))
  on_line_lem p q ps h s c room (Some x) e = rw e (on_step_lem s c room x (p ∷ q ∷ ps) (q ∷ ps) (λ w d n. played K w d n (q ∷ ps)) (λ w d n. paused K w d n (q ∷ ps)) h)

  -- what a log comes to is what it comes to from that row on, behind what it came to up to there
  pub plays_on : (ps : List (List ℕ)) (s : State) (c : Tally) (room : ℕ) → played K s c room ps ≡ played_on room (paused K s c room ps)
  unfolding played paused
  plays_on [] s c room = refl
  plays_on ([] ∷ []) s c room = refl
  plays_on ((b ∷ p) ∷ []) s c room = refl
  plays_on (p ∷ q ∷ ps) s c room = on_line_lem p q ps (plays_on (q ∷ ps)) s c room (read_step set_digits p) refl
