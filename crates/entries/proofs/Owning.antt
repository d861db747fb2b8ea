-- What a `state` row is under a table: one that sets the state is that state's own row.
use Prim.Native.Nat.{ℕ, ◌*◌, ◌≤◌}
use mathlib.Core.Bool.{Bool, true, false}
use mathlib.Core.List.{List, [], ◌∷◌}
use mathlib.Core.Path.{◌≡◌, sym, ap, ◌∙◌}
use native.Mathlib.Omega.{arith}
use lib.Dec.{T}
use lib.ListN.{length, length-append}
use borrow.Author.Tests.{le-leb, eqb-true}
use Rattle.text.specs.Parts.{pick}
use Rattle.text.specs.Words.{same_list}
use Rattle.text.proofs.Picks.{cases, false_true}
use Rattle.text.proofs.Words.{same_self}
use Rattle.model.specs.Tests.{one, need, accepted}
use Rattle.model.specs.Tables.{Table}
use Rattle.model.specs.Rows.{wellformed}
use Rattle.model.specs.States.{task_at}
use Rattle.model.specs.Sound.{sound}
use Rattle.model.specs.Cycles.{managing}
use Rattle.std.specs.Prelude.{None}
use Rattle.model.specs.declared.State.{State}
use Rattle.model.proofs.Tests.{true_T, T_true}
use Rattle.model.proofs.Formed.{formed}
use Rattle.model.proofs.Soundness.{Sound, sound_of, of_sound}
use Rattle.model.proofs.Sums.{sum_bound}
use Rattle.logs.specs.Lines.{longest_row, set_digits, read_step}
use Rattle.saved.specs.Rows.{Read, begins_row, row_line, read_state}
use Rattle.saved.proofs.Rows.{row_back, row_is, begins_no_step, shaped_back}
use Rattle.saved.proofs.Lengths.{row_long}
use Rattle.entries.specs.Entries.{row_state, row_number, row_refusal}

pub record RowLaws (K : Table) : Type 0 where
  -- a row that reads as a sound state is accepted where that state is reached
  pub own : (p : List ℕ) → accepted (row_number K p) ≡ true → row_refusal K (row_state K p) p ≡ 0
  -- that state is sound and has all its rows
  pub sound : (p : List ℕ) → accepted (row_number K p) ≡ true → Sound K (row_state K p)
  -- the row has at least 39 bytes for each task that manages in it, as many as the shortest `sm` line
  pub wide : (p : List ℕ) → accepted (row_number K p) ≡ true → 39 * managing K (row_state K p) ≤ length p
  -- a line that begins `state` and a tab is never a step
  pub no_step : (p : List ℕ) → begins_row p ≡ true → read_step set_digits p ≡ None
  -- one that is too long does not read
  pub long : (p : List ℕ) → longest_row ≤ length p → row_number K p ≡ 11

module _ (K : Table) (p : List ℕ) where
  -- a row without a number of its own reads, and as a sound state
  pub row_taken : accepted (row_number K p) ≡ true → ((read_state K p).number ≡ 0) × (sound K (row_state K p) ≡ true)
  unfolding row_number
  row_taken h =
      cases (accepted (read_state K p).number)
      (λ e. cases (sound K (row_state K p)) (λ g. (eqb-true _ 0 e, g)) (λ g. absurd (false_true (rw (e, g) at h))))
      (λ e. absurd (false_true (sym e ∙ rw e at h)))

-- at most every task manages
managing_few : (K : Table) (s : State) → managing K s ≤ K.ntasks * 1
unfolding managing
managing_few K s = sum_bound K.ntasks 1 (λ t. one (task_at s t).managing) (λ t h. few (task_at s t).managing)
  where
    few : (b : Bool) → one b ≤ 1
    few true = omega arith
    few false = omega arith

module _ (K : Table) (wf : T (wellformed K)) (p : List ℕ) where
  -- it is the row of the state that it says
  pub row_same : accepted (row_number K p) ≡ true → p ≡ row_line K (row_state K p)
  row_same h = row_is K (formed K wf).fits.0 (formed K wf).fits.1 p (row_taken K p h).0

  -- so it is accepted there
  row_own : accepted (row_number K p) ≡ true → row_refusal K (row_state K p) p ≡ 0
  unfolding row_refusal
  row_own h =
      let e : same_list p (row_line K (row_state K p)) ≡ true = ap (λ q. same_list q (row_line K (row_state K p))) (row_same h) ∙ same_self (row_line K (row_state K p)) in
      rw (h, e)

  row_wide : accepted (row_number K p) ≡ true → 39 * managing K (row_state K p) ≤ length p
  row_wide h =
      let e : length p ≡ length (row_line K (row_state K p)) = ap length (row_same h) in
      omega (arith, row_long K (row_state K p), managing_few K (row_state K p), length-append (row_line K (row_state K p)) (10 ∷ []))

-- one that is too long does not read
too_long : (K : Table) (p : List ℕ) → longest_row ≤ length p → row_number K p ≡ 11
unfolding row_number read_state
too_long K p h = rw (le-leb longest_row (length p) h)

-- so it is with every well-formed table
pub row_laws : (K : Table) → T (wellformed K) → RowLaws K
row_laws K wf = record {
  own = row_own K wf;
  sound = λ p h. sound_of K (row_state K p) (record { tasks = (shaped_back K p).0; acts = (shaped_back K p).1 }) (true_T _ (row_taken K p h).1);
  wide = row_wide K wf;
  no_step = begins_no_step set_digits;
  long = too_long K;
}

-- the row of a sound state is that state's own
pub row_of : (K : Table) → T (wellformed K) → (s : State) → Sound K s → (row_number K (row_line K s) ≡ 0) × (row_state K (row_line K s) ≡ s)
unfolding row_number
row_of K wf s S =
    let e = row_back K (T_true _ wf) s (of_sound K s S) S.shape.tasks S.shape.acts in
    let f : Read → ℕ = λ r. pick (accepted r.number) (need (sound K r.state) 20 0) r.number in
    (ap f e ∙ ap (λ b. need b 20 0) (T_true (sound K s) (of_sound K s S)), ap (λ r. r.state) e)
