-- What the code answers to a row: by its own number, and by the state reached.
use Prim.Native.Nat.{ℕ, ◌+◌, ◌-◌, ◌≤◌}
use mathlib.Core.Bool.{Bool, true, false}
use mathlib.Core.List.{List, [], ◌∷◌, ◌++◌, map}
use mathlib.Core.Path.{◌≡◌, refl, sym, ap, ◌∙◌}
use native.Mathlib.Omega.{arith}
use lib.Dec.{T, leb}
use lib.ListN.{length, take, drop, length-append, length-map}
use lib.Seq.{sets, sets-eq, length-sets, take-append-le, take-length}
use borrow.Author.Tests.{ne_eqb, eqb-false}
use Rattle.text.specs.Parts.{pick, split_on}
use Rattle.text.specs.Words.{same_list}
use Rattle.text.proofs.Picks.{cases}
use Rattle.text.proofs.Words.{same_list_lem}
use Rattle.model.specs.Tests.{accepted}
use Rattle.model.specs.Limits.{most_tasks, most_acts}
use Rattle.model.specs.Tables.{Table}
use Rattle.model.specs.Rows.{wellformed}
use Rattle.model.specs.Sound.{sound}
use Rattle.model.specs.declared.State.{State}
use Rattle.model.specs.Refusals.{number_of}
use Rattle.model.specs.declared.refusal.Refusal.{Refusal}
use Rattle.model.specs.declared.refusal.Refusal.TheVariants.{NoStep, Unknown, NotAllowed, TooEarly, InConflict, StillEnabled, TooLate, PastCeiling, NotGiven, Unsound, NotReached}
use Rattle.model.proofs.Soundness.{sound_of}
use Rattle.logs.specs.Lines.{longest_row}
use Rattle.fields.specs.Fields.{Part, part, none}
use Rattle.prepared.specs.Prepared.{table_in, Prepared}
use Rattle.saved.specs.Rows.{Read, sets_within, row_line, row_text, refused, on_part, part_in, read_state}
use Rattle.saved.proofs.Lengths.{row_fits}
use Rattle.entries.specs.Entries.{row_state, row_number, row_refusal, sound_row}
use Rattle.entries.proofs.Owning.{row_of}

-- a list has as many elements as its image
pub rows_whole : {A B : Type 0} (f : A → B) (l : List A) (n : ℕ) → length (map f l) ≡ n → length l ≡ n
rows_whole f l n e = sym (length-map l f) ∙ e

-- no refusal has the number 0
pub refusal_some : (r : Refusal) → number_of r ≡ 0 → ⊥
refusal_some NoStep e = omega arith
refusal_some Unknown e = omega arith
refusal_some NotAllowed e = omega arith
refusal_some TooEarly e = omega arith
refusal_some InConflict e = omega arith
refusal_some StillEnabled e = omega arith
refusal_some TooLate e = omega arith
refusal_some PastCeiling e = omega arith
refusal_some NotGiven e = omega arith
refusal_some Unsound e = omega arith
refusal_some NotReached e = omega arith

-- a row that does not read, or that no state is, has the fresh state
refused_whole : (K : Table) (p : List ℕ) → ((read_state K p).number ≡ 0 → ⊥) → read_state K p ≡ refused (read_state K p).number
unfolding read_state
refused_whole K p = go (pick (leb longest_row (length p)) none (part_in K (split_on 9 p)))
  where
    go : (x : Part) → ((on_part K x).number ≡ 0 → ⊥) → on_part K x ≡ refused (on_part K x).number
    go none h = refl
    go (part vs []) h = cases (sets_within K vs) (λ e. absurd (h (rw e refl))) (λ e. rw e refl)
    go (part vs (q ∷ qs)) h = refl

module _ (K : Table) (p : List ℕ) (r : Read) (e : r ≡ read_state K p) where
  -- it does not read
  pub sound_unread : (r.number ≡ 0 → ⊥) → r ≡ sound_row K p
  unfolding row_number
  sound_unread h =
      let n : (read_state K p).number ≡ 0 → ⊥ = λ q. h (ap (λ x. x.number) e ∙ q) in
      e ∙ refused_whole K p n ∙ rw (ne_eqb (read_state K p).number 0 n, ne_eqb (read_state K p).number 0 n)

  module _ (z : r.number ≡ 0) (b : Bool) (q : b ≡ sound K r.state) where
    reads : (read_state K p).number ≡ 0
    reads = ap (λ x. x.number) (sym e) ∙ z

    tested : sound K (row_state K p) ≡ b
    tested = ap (λ x. sound K x.state) (sym e) ∙ sym q

    -- it reads as a sound state
    pub sound_taken : b ≡ true → r ≡ sound_row K p
    unfolding row_number
    sound_taken y =
        let a : row_number K p ≡ 0 = rw (reads, tested, y) in
        e ∙ ap (λ n. record { number = n; state = row_state K p }) reads ∙ rw a refl

    -- it reads as a state that is not sound
    pub sound_refused : b ≡ false → (x : Read) → x ≡ refused 20 → x ≡ sound_row K p
    unfolding row_number
    sound_refused n x u = u ∙ rw (reads, tested, n)

-- the row that was written, without its newline
module _ {rows index : List ℕ} (P : Prepared rows index) (s : State) (ok : T (sound (table_in rows index) s)) (b after : List ℕ) (n : ℕ) (room : longest_row ≤ length b)
    (h : (n ≡ length (row_text (table_in rows index) s)) × (after ≡ sets b 0 (row_text (table_in rows index) s))) where
  ends : n ≡ length (row_line (table_in rows index) s) + 1
  ends = h.0 ∙ length-append (row_line (table_in rows index) s) (10 ∷ [])

  pub row_some : 1 ≤ n
  row_some = omega (arith, ends)

  pub row_inside : n - 1 ≤ length after
  row_inside = omega (arith, ends, row_fits (table_in rows index) P.formed s ok, ap length h.1, length-sets b 0 (row_text (table_in rows index) s))

  pub row_line_lem : take (n - 1) after ≡ row_line (table_in rows index) s
  row_line_lem =
      let l = row_line (table_in rows index) s in
      let m : n - 1 ≡ length l = omega (arith, ends) in
      let f : 0 + length (l ++ 10 ∷ []) ≤ length b = omega (arith, length-append l (10 ∷ []), row_fits (table_in rows index) P.formed s ok) in
      let t : sets b 0 (l ++ 10 ∷ []) ≡ (l ++ 10 ∷ []) ++ drop (0 + length (l ++ 10 ∷ [])) b = sets-eq (l ++ 10 ∷ []) b 0 f in
      ap (λ k. take k after) m ∙ ap (take (length l)) (h.1 ∙ t)
      ∙ take-append-le (length l) (l ++ 10 ∷ []) _ (omega (arith, length-append l (10 ∷ [])))
      ∙ take-append-le (length l) l (10 ∷ []) (omega arith)
      ∙ take-length l

-- a row behind line 1
module _ (K : Table) (s : State) (p : List ℕ) (b : Bool) (e : b ≡ same_list p (row_line K s)) where
  -- it is the state's own
  pub later_same : T (wellformed K) → T (sound K s) → length s.tasks ≡ most_tasks → length s.acts ≡ most_acts → b ≡ true → 0 ≡ row_refusal K s p
  unfolding row_refusal
  later_same wf ok lt la y =
      let o = row_of K wf s (sound_of K s (record { tasks = lt; acts = la }) ok) in
      let q : p ≡ row_line K s = same_list_lem p (row_line K s) (sym e ∙ y) in
      let n : row_number K p ≡ 0 = ap (row_number K) q ∙ o.0 in
      sym (rw (n, ← e, y))

  module _ (r : Read) (u : r ≡ sound_row K p) where
    numbered : r.number ≡ (sound_row K p).number
    numbered = ap (λ x. x.number) u

    -- it has a number of its own
    pub later_refused : (r.number ≡ 0 → ⊥) → r.number ≡ row_refusal K s p
    unfolding row_refusal
    later_refused h =
        cases (accepted (row_number K p))
        (λ a. absurd (h (numbered ∙ rw a refl)))
        (λ a. numbered ∙ rw a refl)

    -- it differs
    pub later_differs : b ≡ false → r.number ≡ 0 → 21 ≡ row_refusal K s p
    unfolding row_refusal
    later_differs n z =
        cases (accepted (row_number K p))
        (λ a. rw (a, ← e, n))
        (λ a. let w : row_number K p ≡ 0 = sym (numbered ∙ rw a refl) ∙ z in absurd (eqb-false (row_number K p) 0 a w))
