-- The line at a place of a log, and what playing on from there up to a `state` row that does not go by comes to, with so much room for rows.
use Prim.Native.Nat.{ℕ, ◌+◌, ◌-◌, ◌≤◌, ◌<◌}
use mathlib.Core.Bool.{true, false}
use mathlib.Core.List.{List, [], ◌∷◌}
use mathlib.Core.Path.{◌≡◌, refl, ap, sym, subst⁻¹, ◌∙◌}
use native.Mathlib.Omega.{arith}
use lib.Dec.{T, eqb}
use lib.ListN.{length, take, drop, length-drop, drop_of_length-le}
use lib.Seq.{length-take-le}
use borrow.Author.Tests.{le-ltb, eq-eqb, ne_eqb, eqb-false}
use Rattle.text.specs.Parts.{first_at, parts_from}
use Rattle.text.proofs.Parts.{parts_cut, parts_none}
use Rattle.text.proofs.Picks.{cases, order, passed, false_true}
use Rattle.text.proofs.Seeking.{part_ends}
use Rattle.std.specs.Prelude.{Some, None}
use Rattle.model.specs.Tables.{Table}
use Rattle.model.specs.declared.State.{State}
use Rattle.model.specs.declared.Step.{Step}
use Rattle.model.specs.declared.Step.TheVariants.{Wait, Sm, OfTask, OfAct}
use Rattle.logs.specs.Lines.{set_digits, read_step}
use Rattle.logs.proofs.Bounds.{read_step_bounds}
use Rattle.logs.proofs.Shapes.{no_step_lem}
use Rattle.saved.specs.Rows.{begins_row}
use Rattle.saved.proofs.Rows.{begins_no_step}
use Rattle.engine.specs.Play.{Played, pieces, stopped, on_step, goes_by, up_to_row, paused, is_closed, is_row, AtRow}
use Rattle.engine.specs.Turns.{line_at, passes_at, row_or}
use Rattle.engine.specs.Steps.{Small}
use Rattle.tally.specs.Tallies.{after_row}
use Rattle.tally.specs.declared.Tally.{Tally}
use Rattle.engine.specs.declared.Stop.TheVariants.{End, Refused}
use Rattle.engine.proofs.Pausing.{row_goes}

-- the lines from a place on: that up to the first newline, then the others
from_here : (log : List ℕ) (at e : ℕ) → at ≤ length log → e ≡ first_at log at 10 → pieces log at ≡ take (e - at) (drop at log) ∷ parts_from 10 log (e + 1)
from_here log at e h f =
    let q : parts_from 10 log at ≡ pieces log at = rw (le-ltb _ _ h) in
    sym q ∙ rw f (parts_cut 10 log at h)

-- a line ended by a newline is the first of those from a place on: what is told of the first of more lines is told of it
pub first_line : (log : List ℕ) (at e : ℕ) → at ≤ length log → e ≡ first_at log at 10 → e < length log → (F : List (List ℕ) → Played) (G : List ℕ → List (List ℕ) → List (List ℕ) → Played)
    → ((p q : List ℕ) (ps : List (List ℕ)) → F (p ∷ q ∷ ps) ≡ G p (p ∷ q ∷ ps) (q ∷ ps)) → F (pieces log at) ≡ G (take (e - at) (drop at log)) (pieces log at) (pieces log (e + 1))
first_line log at e h f l F G m =
    let p = take (e - at) (drop at log) in
    let k : e + 1 ≤ length log = omega arith in
    let q : pieces log at ≡ p ∷ pieces log (e + 1) = from_here log at e h f ∙ rw (le-ltb _ _ k) in
    subst⁻¹ (λ ps. F ps ≡ G p ps (pieces log (e + 1))) q
    (subst⁻¹ (λ ps. F (p ∷ ps) ≡ G p (p ∷ ps) ps) (from_here log (e + 1) _ k refl) (m p _ _))

-- a line says no more ticks than a step takes
pub read_small : (x : Step) (p : List ℕ) → read_step set_digits p ≡ Some x → Small x
read_small (Wait d) p j = omega (arith, (read_step_bounds set_digits p (Wait d) j).1)
read_small (Sm t n r) p j = tt
read_small (OfTask t k) p j = tt
read_small (OfAct a k) p j = tt

module _ (K : Table) (s : State) (c : Tally) (room : ℕ) (log : List ℕ) where
  -- at the end there is no line
  pub at_end_lem : (at : ℕ) → length log ≤ at → paused K s c room (pieces log at) ≡ stopped s c End (pieces log at)
  unfolding paused
  at_end_lem at h = rw (drop_of_length-le log h)

  one_more_lem : (p q : List ℕ) (ps : List (List ℕ)) → paused K s c room (p ∷ q ∷ ps) ≡ up_to_row K s c room p (read_step set_digits p) (p ∷ q ∷ ps) (q ∷ ps) (λ w d n. paused K w d n (q ∷ ps))
  unfolding paused
  one_more_lem p q ps = refl

  one_last : (p : List ℕ) → 0 < length p → paused K s c room (p ∷ []) ≡ stopped s c (Refused 11) (p ∷ [])
  unfolding paused
  one_last [] h = absurd (omega arith)
  one_last (b ∷ p) h = refl

  module _ (at e : ℕ) (h : at < length log) (f : e ≡ first_at log at 10) where
    before_end : at ≤ length log
    before_end = omega arith

    -- a line ended by a newline
    ended : e < length log → paused K s c room (pieces log at) ≡ up_to_row K s c room (take (e - at) (drop at log)) (line_at log at e) (pieces log at) (pieces log (e + 1)) (λ w d n. paused K w d n (pieces log (e + 1)))
    ended l =
        let ne : e ≡ length log → ⊥ = λ z. omega arith in
        rw (ne_eqb _ _ ne)
        (first_line log at e before_end f l (paused K s c room) (λ p here rest. up_to_row K s c room p (read_step set_digits p) here rest (λ w d n. paused K w d n rest)) one_more_lem)

    -- a line without newline
    open_ended : length log ≤ e → paused K s c room (pieces log at) ≡ stopped s c (Refused 11) (pieces log at)
    open_ended l =
        let p = take (e - at) (drop at log) in
        let q : pieces log at ≡ p ∷ [] = from_here log at e before_end f ∙ ap (p ∷◌) (parts_none 10 log (e + 1) (omega arith)) in
        let n = length-drop at log in
        let t = part_ends log at e 10 before_end f in
        subst⁻¹ (λ ps. paused K s c room ps ≡ stopped s c (Refused 11) ps) q (one_last p (omega (arith, length-take-le (e - at) (drop at log) (omega arith))))

    not_end : e < length log → e ≡ length log → ⊥
    not_end l z = omega arith

    -- a row that goes by
    pub at_passed : passes_at K s c log at e ≡ true → (e < length log) × (paused K s c room (pieces log at) ≡ paused K s (after_row c) room (pieces log (e + 1)))
    at_passed y =
        let q = passed (eqb e (length log)) false_true y in
        let n : e ≡ length log → ⊥ = eqb-false e (length log) q.0 in
        let l : e < length log = omega (arith, part_ends log at e 10 before_end f, n) in
        let i : line_at log at e ≡ None = rw q.0 (begins_no_step set_digits _ (row_goes K s c _ q.1).0) in
        (l, ended l ∙ rw (i, q.1))

    -- neither a step nor such a row
    pub at_unread : line_at log at e ≡ None → passes_at K s c log at e ≡ false → paused K s c room (pieces log at) ≡ stopped s c (row_or log at e 11) (pieces log at)
    at_unread b y =
        order e (length log)
        (λ l. let o = ne_eqb e (length log) (not_end l) in let z : goes_by K s c (take (e - at) (drop at log)) ≡ false = rw o at y in ended l ∙ rw (b, o, z))
        (λ l. let q : e ≡ length log = omega (arith, part_ends log at e 10 before_end f) in open_ended l ∙ rw (eq-eqb _ _ q))

    module _ (x : Step) (i : line_at log at e ≡ Some x) where
      -- a step's line is ended by a newline
      pub step_ends : e < length log
      step_ends = order e (length log) (λ l. l) (λ l.
          let q : e ≡ length log = omega (arith, part_ends log at e 10 before_end f) in
          absurd (no_step_lem (rw (eq-eqb _ _ q) at i)))

      pub at_step : paused K s c room (pieces log at) ≡ on_step K s c room x (pieces log at) (pieces log (e + 1)) (λ w d n. paused K w d n (pieces log (e + 1)))
      at_step = ended step_ends ∙ rw i

-- a run that leaves at a line that is no step closes no cycle there
pub row_unclosed : {P : Type 0} (log : List ℕ) (at e n : ℕ) → T (is_closed (row_or log at e n)) → P
row_unclosed log at e n t =
    cases (eqb e (length log))
    (λ h. absurd (rw h at t))
    (λ h. cases (begins_row (take (e - at) (drop at log))) (λ y. absurd (rw (h, y) at t)) (λ y. absurd (rw (h, y) at t)))

-- where it leaves at a row, that stands there with its newline
pub row_there : (log : List ℕ) (at e n : ℕ) → at ≤ length log → e ≡ first_at log at 10 → T (is_row (row_or log at e n)) → AtRow log at
row_there log at e n l f t =
    cases (eqb e (length log))
    (λ h. absurd (rw h at t))
    (λ h.
    cases (begins_row (take (e - at) (drop at log)))
    (λ y. record { ends = omega (arith, f, part_ends log at _ 10 l refl, eqb-false e (length log) h); begins = rw (← f) y })
    (λ y. absurd (rw (h, y) at t)))
