-- One step on a line given by value: what a run over that one line comes to, and each answer by the tests that lead to it.
use mathlib.Core.Bool.{Bool, true, false, not}
use mathlib.Core.List.{List}
use mathlib.Core.Path.{◌≡◌, refl, sym, ap, ◌∙◌}
use Prim.Native.Nat.{ℕ, ◌+◌, ◌-◌}
use native.Mathlib.Omega.{arith}
use lib.Dec.{eqb, leb}
use lib.ListN.{length}
use borrow.Author.Tests.{eqb-true, ne_eqb, not-true, not-false}
use Rattle.text.specs.Parts.{first_at}
use Rattle.text.proofs.Picks.{cases, picked}
use Rattle.model.specs.Tables.{Table}
use Rattle.model.specs.Tests.{accepted}
use Rattle.model.specs.Sound.{sound}
use Rattle.model.specs.Rules.{refusal, next}
use Rattle.model.specs.Cycles.{Verdict, none, kept, dropped, verdict}
use Rattle.model.specs.declared.State.{State}
use Rattle.model.specs.declared.Step.{Step}
use Rattle.std.specs.Prelude.{Option, Some, None, Result, Ok, Err}
use Rattle.logs.specs.Lines.{set_digits, read_line}
use Rattle.logs.proofs.Bounds.{read_line_bounds}
use Rattle.table.specs.Checks.{says, check_table}
use Rattle.table.specs.Tables.{table_of}
use Rattle.table.specs.declared.Table as rows
use Rattle.table.specs.declared.fault.Refused as fault
use Rattle.logs.proofs.Shapes.{no_step_lem}
use Rattle.report.specs.Rows.{cycle_of, cycle_text}
use Rattle.tally.specs.Tallies.{tallied, no_tally, Roomy}
use Rattle.engine.specs.Turns.{line_at}
use Rattle.engine.specs.Play.{Played, pieces, stopped, on_verdict, on_step, paused, Pauses}
use Rattle.engine.specs.Starts.{going_from}
use Rattle.stepping.specs.Stepping.{line_stepped, stepped}
use Rattle.tally.specs.declared.Tally.{Tally}
use Rattle.engine.specs.declared.Stop.{Stop}
use Rattle.engine.specs.declared.Stop.TheVariants.{End, Refused, Closed, Row}
use Rattle.engine.specs.declared.Going.{Going}
use Rattle.engine.specs.declared.Ran.{Ran}
use Rattle.stepping.specs.declared.Stepped.{Stepped}
use Rattle.engine.proofs.Lines.{at_end_lem, at_step}
use Rattle.engine.proofs.Starting.{roomy}

-- an answer by why the run stopped: s is the state as it came, w that behind it
abbrev answer_on : Stop → State → State → Stepped
answer_on End s w = record { number = 0; state = w }
answer_on (Refused n) s w = record { number = n; state = s }
answer_on (Closed c) s w = record { number = 0; state = w }
answer_on Row s w = record { number = 0; state = w }

abbrev answer_of : State → Played → Stepped
answer_of s p = answer_on p.stop s p.state

-- every stop but a refusal
goes_on_lem : (w : Stop) → ((n : ℕ) → w ≡ Refused n → ⊥) → (s u : State) → record { number = 0; state = u } ≡ answer_on w s u
goes_on_lem End h s u = refl
goes_on_lem (Refused n) h s u = absurd (h n refl)
goes_on_lem (Closed c) h s u = refl
goes_on_lem Row h s u = refl

-- a step that is accepted, whatever its verdict and whether the row of a kept cycle has room
on_verdict_lem : (v : Verdict) (s w : State) (c : Tally) (room : ℕ) (rest : List (List ℕ)) (go : ℕ → Played) → ((n : ℕ) → go n ≡ stopped w c End rest)
    → answer_of s (on_verdict v w c room rest go) ≡ record { number = 0; state = w }
on_verdict_lem none s w c room rest go e = rw (e room)
on_verdict_lem (kept r) s w c room rest go e =
    let k = cycle_of r in
    cases (leb (length (cycle_text k)) room)
    (λ h. rw (h, e (room - length (cycle_text k))))
    (λ h. rw h)
on_verdict_lem dropped s w c room rest go e = rw (e room)

module _ (K : Table) (s : State) (c : Tally) (room : ℕ) (x : Step) where
  on_step_lem : (here rest : List (List ℕ)) (go : State → Tally → ℕ → Played) → ((w : State) (d : Tally) (n : ℕ) → go w d n ≡ stopped w d End rest)
      → answer_of s (on_step K s c room x here rest go) ≡ line_stepped K s (Some x)
  on_step_lem here rest go e =
      let w = next K s x in
      let d = tallied K s x c in
      cases (accepted (refusal K s x))
      (λ h. rw (h, on_verdict_lem (verdict K s x) s w d room rest (go w d) (e w d), eqb-true (refusal K s x) 0 h))
      (λ h. rw h)

  -- a line that reads as a step is the only one
  one_line : (l : List ℕ) → read_line set_digits l ≡ Some x → answer_of s (paused K s c room (pieces l 0)) ≡ line_stepped K s (Some x)
  unfolding read_line
  one_line l h =
      let t = picked (eqb (first_at l 0 10 + 1) (length l)) no_step_lem h in
      let n : first_at l 0 10 + 1 ≡ length l = eqb-true _ _ t.0 in
      let m : length l - 1 ≡ first_at l 0 10 - 0 = omega arith in
      let k : first_at l 0 10 ≡ length l → ⊥ = λ z. omega arith in
      let q : line_at l 0 (first_at l 0 10) ≡ Some x = rw (ne_eqb _ _ k) (rw m at t.1) in
      rw (at_step K s c room l 0 (first_at l 0 10) (omega arith) refl x q)
      (on_step_lem (pieces l 0) (pieces l (first_at l 0 10 + 1)) _ (λ w d n. at_end_lem K w d n l (first_at l 0 10 + 1) (omega arith)))

-- each count has room for such a line
pub line_roomy : (s : State) (g : Going) (l : List ℕ) (y : Option Step) (x : Step) → g ≡ going_from s → y ≡ read_line set_digits l → y ≡ Some x → Roomy g.tally (length l - 0)
line_roomy s g l y x f e h = roomy s g f (length l - 0) (omega (arith, (read_line_bounds set_digits l x (sym e ∙ h)).0))

-- the answers on a line
module _ (K : Table) (s : State) (l : List ℕ) (y : Option Step) (e : y ≡ read_line set_digits l) where
  pub line_bad : y ≡ None → record { number = 11; state = s } ≡ line_stepped K s (read_line set_digits l)
  line_bad h = rw (← e, h)

  module _ (x : Step) (h : y ≡ Some x) (g : Going) (f : g ≡ going_from s) (buf : List ℕ) (place : ℕ) (r : Ran) (after : List ℕ) (R : Pauses K l 0 g buf place r after) where
    ran : answer_on r.stop s r.going.state ≡ line_stepped K s (read_line set_digits l)
    ran = ap (answer_of s) R.paused ∙ rw (f, ← e, h) (one_line K s no_tally (length buf - place) x l (sym e ∙ h))

    pub line_refused : (n : ℕ) → r.stop ≡ Refused n → record { number = n; state = s } ≡ line_stepped K s (read_line set_digits l)
    line_refused n p = rw p at ran

    pub line_accepted : ((n : ℕ) → r.stop ≡ Refused n → ⊥) → record { number = 0; state = r.going.state } ≡ line_stepped K s (read_line set_digits l)
    line_accepted p = goes_on_lem r.stop p s r.going.state ∙ ran

-- and on a table and a state that may be refused
module _ (t : rows.Table) (s : State) (l : List ℕ) (q : Result rows.Table fault.Refused) (e : says q ≡ check_table t) where
  pub table_refused : (r : fault.Refused) → q ≡ Err r → record { number = 19; state = s } ≡ stepped t s l
  unfolding stepped
  table_refused r h = rw (← e, h)

  module _ (u : rows.Table) (a : q ≡ Ok u) (K : Table) (i : K ≡ table_of t) (b : Bool) (f : b ≡ sound K s) where
    pub state_unsound : not b ≡ true → record { number = 19; state = s } ≡ stepped t s l
    unfolding stepped
    state_unsound h = rw (← e, a, ← i, ← f, not-true b h)

    pub step_is : not b ≡ false → (r : Stepped) → r ≡ line_stepped K s (read_line set_digits l) → r ≡ stepped t s l
    unfolding stepped
    step_is h r g = rw (← e, a, ← i, ← f, not-false b h) g
