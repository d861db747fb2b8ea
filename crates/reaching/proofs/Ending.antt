-- Where a log ends, by the lines that it has: the state, the refusal and the number of lines accepted are the report's.
use Prim.Native.Nat.{ℕ, ◌+◌}
use mathlib.Core.Bool.{Bool, true, false}
use mathlib.Core.List.{List, [], ◌∷◌}
use mathlib.Core.Path.{◌≡◌, refl, sym, ap, subst, subst⁻¹, ◌∙◌}
use native.Mathlib.Omega.{arith}
use lib.Dec.{T, eqb}
use borrow.Author.Tests.{ne_eqb, eqb-true}
use Rattle.std.specs.Prelude.{Option, Some, None}
use Rattle.text.specs.Parts.{split_on}
use Rattle.text.proofs.Picks.{cases}
use Rattle.model.specs.Tests.{◌and◌, accepted}
use Rattle.model.specs.Tables.{Table}
use Rattle.model.specs.Rows.{wellformed}
use Rattle.model.specs.States.{fresh}
use Rattle.model.specs.Rules.{refusal, next}
use Rattle.model.specs.Logs.{reached}
use Rattle.model.specs.Cycles.{Entry, step, row, neither, steps_of, lines_done, stop_on}
use Rattle.model.specs.declared.State.{State}
use Rattle.model.specs.declared.Step.{Step}
use Rattle.model.proofs.Formed.{formed}
use Rattle.model.proofs.Soundness.{Sound}
use Rattle.model.proofs.StepsKeep.{reached_sound}
use Rattle.model.proofs.Reports.{steps_accepted}
use Rattle.logs.specs.Lines.{set_digits, read_step}
use Rattle.logs.proofs.Shapes.{no_step_lem}
use Rattle.saved.specs.Rows.{begins_row}
use Rattle.entries.specs.Entries.{row_state, row_number, row_refusal, entry_by, entries_in, sets, Resumed, stays as still, resumed}
use Rattle.entries.proofs.Owning.{RowLaws, row_laws}
use Rattle.tally.specs.Tallies.{no_tally, tallied, lines_of, after_row, began}
use Rattle.tally.specs.declared.Tally.{Tally}
use Rattle.judging.proofs.Telling.{start_at, start_state, row_entry}
use Rattle.judging.proofs.Bounds.{start_sound_at}
use Rattle.reaching.specs.Reaching.{reach_from, log_reach}
use Rattle.reaching.specs.Passing.{Passed, stays, past_row, past_line, passed, end_of}

-- lines from a state on, with so many before them, end as the report says
record Ends (K : Table) (s : State) (n : ℕ) (es : List Entry) (x : Passed) : Type 0 where
  number : x.number ≡ stop_on K s es
  state : x.state ≡ reached K s (steps_of K s es)
  lines : lines_of x.tally ≡ n + lines_done K s es

module _ (K : Table) (s : State) (c : Tally) where
  -- no line
  ends_none : Ends K s (lines_of c) [] (stays s c 0)
  unfolding steps_of lines_done stop_on reached
  ends_none = record { number = refl; state = refl; lines = omega arith }

  -- a line that is none
  ends_bad : (es : List Entry) → Ends K s (lines_of c) (neither ∷ es) (stays s c 11)
  unfolding steps_of lines_done stop_on reached
  ends_bad es = record { number = refl; state = refl; lines = omega arith }

  -- a refused step
  ends_refused : (x : Step) (es : List Entry) → accepted (refusal K s x) ≡ false → Ends K s (lines_of c) (step x ∷ es) (stays s c (refusal K s x))
  unfolding steps_of lines_done stop_on reached
  ends_refused x es h = record { number = rw h; state = rw h; lines = rw h (omega arith) }

  -- a refused row
  ends_differs : (f : State → ℕ) (es : List Entry) → accepted (f s) ≡ false → Ends K s (lines_of c) (row f ∷ es) (stays s c (f s))
  unfolding steps_of lines_done stop_on reached
  ends_differs f es h = record { number = rw h; state = rw h; lines = rw h (omega arith) }

-- an accepted line, with the lines behind it
module _ (K : Table) (s : State) (n : ℕ) (es : List Entry) {y : Passed} where
  -- a step
  ends_step : (x : Step) → accepted (refusal K s x) ≡ true → Ends K (next K s x) (n + 1) es y → Ends K s n (step x ∷ es) y
  unfolding steps_of lines_done stop_on reached
  ends_step x h e = record { number = rw h e.number; state = rw h e.state; lines = rw h (omega (arith, e.lines)) }

  -- a row that equals the state
  ends_equals : (f : State → ℕ) → accepted (f s) ≡ true → Ends K s (n + 1) es y → Ends K s n (row f ∷ es) y
  unfolding steps_of lines_done stop_on reached
  ends_equals f h e = record { number = rw h e.number; state = rw h e.state; lines = rw h (omega (arith, e.lines)) }

-- behind a line no row sets the state
start_later : (K : Table) (s : State) (c : Tally) (ps : List (List ℕ)) → eqb (lines_of c) 0 ≡ false → start_at K s c ps ≡ s
start_later K s c [] e = refl
start_later K s c (p ∷ []) e = refl
start_later K s c (p ∷ q ∷ ps) e = rw e

-- a test and one that fails
and_false : (a b : Bool) → b ≡ false → a and b ≡ false
and_false true b e = e
and_false false b e = refl

-- what the first line says
first_entry : (K : Table) (l : Option Step) (p q : List ℕ) (ps : List (List ℕ)) → read_step set_digits p ≡ l → entries_in K (p ∷ q ∷ ps) ≡ entry_by K p l ∷ entries_in K (q ∷ ps)
unfolding entries_in
first_entry K l p q ps e = ap (λ m. entry_by K p m ∷ entries_in K (q ∷ ps)) e

-- a row that does not read, or is not sound, is refused with that number in every state
number_first : (K : Table) (s : State) (p : List ℕ) → accepted (row_number K p) ≡ false → row_refusal K s p ≡ row_number K p
unfolding row_refusal
number_first K s p a = rw a

module _ (K : Table) (R : RowLaws K) where
  -- all lines from a state and a tally on
  abbrev Ending : State → Tally → List (List ℕ) → Passed → Type 0
  Ending s c ps x = Ends K (start_at K s c ps) (lines_of c) (entries_in K ps) x

  -- the lines behind an accepted one
  onward : (s : State) (c : Tally) (ps : List (List ℕ)) (n : ℕ) (x : Passed) → lines_of c ≡ n + 1 → Ending s c ps x → Ends K s (n + 1) (entries_in K ps) x
  onward s c ps n x l h =
      let f : eqb (lines_of c) 0 ≡ false = ne_eqb (lines_of c) 0 (λ z. omega arith) in
      subst (λ m. Ends K s m (entries_in K ps) x) l (subst (λ z. Ends K z (lines_of c) (entries_in K ps) x) (start_later K s c ps f) h)

  -- a line with its newline, and what the lines behind it come to
  module _ (s : State) (c : Tally) (p q : List ℕ) (ps : List (List ℕ)) (go : (w : State) (d : Tally) → Ending w d (q ∷ ps) (passed K w d (q ∷ ps))) where
    -- what the lines behind it come to
    abbrev behind : State → Tally → Passed
    behind w d = passed K w d (q ∷ ps)

    -- it sets nothing
    plain : (e : Entry) (x : Passed) → entries_in K (p ∷ q ∷ ps) ≡ e ∷ entries_in K (q ∷ ps) → eqb (lines_of c) 0 and sets K p ≡ false → Ends K s (lines_of c) (e ∷ entries_in K (q ∷ ps)) x → Ending s c (p ∷ q ∷ ps) x
    plain e x u f h = rw (f, u) h

    -- a step
    on_step_lem : (x : Step) → read_step set_digits p ≡ Some x → Ending s c (p ∷ q ∷ ps) (past_line K s c p (Some x) behind)
    unfolding entry_by
    on_step_lem x e =
        let u = first_entry K (Some x) p q ps e in
        let b : sets K p ≡ false = cases (begins_row p) (λ b. absurd (no_step_lem (sym (R.no_step p b) ∙ e))) (λ b. rw b) in
        let f = and_false (eqb (lines_of c) 0) (sets K p) b in
        let w = next K s x in
        let d = tallied K s x c in
        cases (accepted (refusal K s x))
        (λ y. rw y (plain (step x) _ u f (ends_step K s (lines_of c) (entries_in K (q ∷ ps)) x y (onward w d (q ∷ ps) (lines_of c) _ (omega arith) (go w d)))))
        (λ y. rw y (plain (step x) _ u f (ends_refused K s c x (entries_in K (q ∷ ps)) y)))

    module _ (e : read_step set_digits p ≡ None) where
      -- neither step nor row
      on_bad : begins_row p ≡ false → Ending s c (p ∷ q ∷ ps) (stays s c 11)
      unfolding entry_by
      on_bad b = plain neither _ (first_entry K None p q ps e ∙ rw b) (and_false (eqb (lines_of c) 0) (sets K p) (rw b)) (ends_bad K s c (entries_in K (q ∷ ps)))

      module _ (b : begins_row p ≡ true) where
        -- a row that sets the state
        on_begin : eqb (lines_of c) 0 ≡ true → accepted (row_number K p) ≡ true → Ending s c (p ∷ q ∷ ps) (passed K (row_state K p) (began K (row_state K p)) (q ∷ ps))
        unfolding began
        on_begin f a =
            let z = row_state K p in
            let n = eqb-true (lines_of c) 0 f in
            rw (f, b, a, row_entry K p q ps e b)
            (ends_equals K z (lines_of c) (entries_in K (q ∷ ps)) (λ w. row_refusal K w p) (ap accepted (R.own p a)) (onward z (began K z) (q ∷ ps) (lines_of c) _ (omega arith) (go z (began K z))))

        -- one that equals it
        on_equal : eqb (lines_of c) 0 ≡ false → accepted (row_refusal K s p) ≡ true → Ending s c (p ∷ q ∷ ps) (passed K s (after_row c) (q ∷ ps))
        on_equal f a =
            plain (row (λ w. row_refusal K w p)) _ (row_entry K p q ps e b) (rw f)
            (ends_equals K s (lines_of c) (entries_in K (q ∷ ps)) (λ w. row_refusal K w p) a (onward s (after_row c) (q ∷ ps) (lines_of c) _ (omega arith) (go s (after_row c))))

        -- one that is refused
        on_refused : (n : ℕ) → row_refusal K s p ≡ n → accepted n ≡ false → eqb (lines_of c) 0 and sets K p ≡ false → Ending s c (p ∷ q ∷ ps) (stays s c n)
        on_refused n r h f =
            plain (row (λ w. row_refusal K w p)) _ (row_entry K p q ps e b) f
            (subst (λ m. Ends K s (lines_of c) (row (λ w. row_refusal K w p) ∷ entries_in K (q ∷ ps)) (stays s c m)) r (ends_differs K s c (λ w. row_refusal K w p) (entries_in K (q ∷ ps)) (ap accepted r ∙ h)))

        -- by what a row does
        taken : (u : Resumed) → resumed K s c p ≡ u → Ending s c (p ∷ q ∷ ps) (past_row s c u behind) → Ending s c (p ∷ q ∷ ps) (past_row s c (resumed K s c p) behind)
        taken u r h = subst⁻¹ (λ v. Ending s c (p ∷ q ∷ ps) (past_row s c v behind)) r h

        -- any row
        on_row_lem : Ending s c (p ∷ q ∷ ps) (past_row s c (resumed K s c p) behind)
        unfolding resumed
        on_row_lem =
            cases (eqb (lines_of c) 0)
            (λ f.
            cases (accepted (row_number K p))
            (λ a. taken (still 0 (row_state K p) (began K (row_state K p))) (rw (f, a)) (on_begin f a))
            (λ a. taken (still (row_number K p) s c) (rw (f, a)) (refused (row_number K p) a (on_refused (row_number K p) (number_first K s p a) a (rw (f, b, a))))))
            (λ f.
            cases (accepted (row_refusal K s p))
            (λ a. taken (still 0 s (after_row c)) (rw (f, a)) (on_equal f a))
            (λ a. taken (still (row_refusal K s p) s c) (rw (f, a)) (refused (row_refusal K s p) a (on_refused (row_refusal K s p) refl a (rw f)))))
          where
            refused : (n : ℕ) → accepted n ≡ false → Ending s c (p ∷ q ∷ ps) (stays s c n) → Ending s c (p ∷ q ∷ ps) (past_row s c (still n s c) behind)
            refused n a h = rw a h

    -- any line
    on_line_lem : (l : Option Step) → read_step set_digits p ≡ l → Ending s c (p ∷ q ∷ ps) (past_line K s c p l behind)
    on_line_lem (Some x) e = on_step_lem x e
    on_line_lem None e =
        cases (begins_row p)
        (λ b. let y : past_line K s c p None behind ≡ past_row s c (resumed K s c p) behind = rw b in subst⁻¹ (Ending s c (p ∷ q ∷ ps)) y (on_row_lem e b))
        (λ b. let y : past_line K s c p None behind ≡ stays s c 11 = rw b in subst⁻¹ (Ending s c (p ∷ q ∷ ps)) y (on_bad e b))

  -- all lines
  ends : (ps : List (List ℕ)) (s : State) (c : Tally) → Ending s c ps (passed K s c ps)
  unfolding passed entries_in
  ends [] s c = ends_none K s c
  ends ([] ∷ []) s c = ends_none K s c
  ends ((b ∷ p) ∷ []) s c = ends_bad K s c []
  ends (p ∷ q ∷ ps) s c = on_line_lem s c p q ps (ends (q ∷ ps)) (read_step set_digits p) refl

module _ (K : Table) (wf : T (wellformed K)) where
  -- a whole log ends as the report on it says
  pub log_ends : (log : List ℕ) → end_of K (passed K fresh no_tally (split_on 10 log)) ≡ log_reach K log
  unfolding log_reach
  log_ends log =
      let ps = split_on 10 log in
      let es = entries_in K ps in
      let h = ends K (row_laws K wf) ps fresh no_tally in
      let n : lines_of (passed K fresh no_tally ps).tally ≡ lines_done K (start_at K fresh no_tally ps) es = omega (arith, h.lines) in
      rw (h.number, h.state, n) (ap (λ z. reach_from K z es) (start_state K ps))

  -- lines lead from a sound state to a sound one
  pub passed_sound : (s : State) → Sound K s → (c : Tally) (ps : List (List ℕ)) → Sound K (passed K s c ps).state
  passed_sound s S c ps =
      let R = row_laws K wf in
      let z = start_at K s c ps in
      let es = entries_in K ps in
      subst⁻¹ (Sound K) (ends K R ps s c).state (reached_sound K (formed K wf) (steps_of K z es) z (start_sound_at K R s S c ps) (steps_accepted K z es))
