-- A `state` row that is taken or refused: one law for each answer, over plain variables.
use Prim.Native.Nat.{ℕ}
use mathlib.Core.List.{List}
use mathlib.Core.Path.{◌≡◌}
use borrow.Author.Tests.{eq-eqb, ne_eqb, eqb-false}
use Rattle.text.proofs.Picks.{cases}
use Rattle.model.specs.Tests.{accepted}
use Rattle.model.specs.Tables.{Table}
use Rattle.saved.specs.Rows.{Read}
use Rattle.entries.specs.Entries.{row_number, row_refusal, resumed, sound_row}
use Rattle.tally.specs.Tallies.{lines_of, after_row, began}
use Rattle.tally.specs.declared.Tally.{Tally}
use Rattle.engine.specs.Play.{Ready}
use Rattle.engine.specs.Starts.{going_at}
use Rattle.engine.specs.declared.Going.{Going}
use Rattle.playing.specs.Plays.{Resumes}

-- what is carried is named by its state and its tally
pub going_same : {K : Table} {g : Going} → Ready K g → g ≡ going_at g.state g.tally
going_same R = rw (← R.busy, ← R.listed)

module _ {K : Table} {g : Going} (R : Ready K g) {p : List ℕ} where
  -- on line 1
  module _ (l : lines_of g.tally ≡ 0) {x : Read} (e : x ≡ sound_row K p) where
    -- a row that is refused leaves all as it was
    pub first_refused : (x.number ≡ 0 → ⊥) → Resumes K g p (record { number = x.number; going = g })
    unfolding resumed
    first_refused n =
        cases (accepted (row_number K p))
        (λ y. absurd (n (rw (e, y))))
        (λ y. record { number = rw (e, eq-eqb _ 0 l, y); going = rw (eq-eqb _ 0 l, y) (going_same R) })

    -- one that is not sets the state and the tally
    pub first_taken : x.number ≡ 0 → {c : Tally} → c ≡ began K x.state → {h : Going} → h ≡ going_at x.state c → Resumes K g p (record { number = 0; going = h })
    unfolding resumed
    first_taken z k q =
        cases (accepted (row_number K p))
        (λ y. record { number = rw (eq-eqb _ 0 l, y); going = rw (q, k, e, eq-eqb _ 0 l, y) })
        (λ y. absurd (eqb-false _ 0 y (rw (e, y) at z)))

  -- on any later line
  module _ (l : lines_of g.tally ≡ 0 → ⊥) {n : ℕ} (e : n ≡ row_refusal K g.state p) where
    -- a row that is refused leaves all as it was
    pub later_refused : (n ≡ 0 → ⊥) → Resumes K g p (record { number = n; going = g })
    unfolding resumed
    later_refused z = record { number = rw (ne_eqb _ 0 l, ← e, ne_eqb n 0 z); going = rw (ne_eqb _ 0 l, ← e, ne_eqb n 0 z) (going_same R) }

    -- one that is not is counted as a line
    pub later_taken : n ≡ 0 → {c : Tally} → c ≡ after_row g.tally → Resumes K g p (record { number = 0; going = record { state = g.state; busy = g.busy; listed = g.listed; tally = c } })
    unfolding resumed
    later_taken z k = record { number = rw (ne_eqb _ 0 l, ← e, z); going = rw (ne_eqb _ 0 l, ← e, z, k, R.busy, R.listed) }
