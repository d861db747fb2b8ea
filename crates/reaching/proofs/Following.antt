-- A log with more behind it: where its lines were accepted those behind go on from there, and a refusal stays whatever follows.
use Prim.Native.Nat.{ℕ, ◌+◌, ◌≤◌, ◌<◌}
use mathlib.Core.List.{List, [], ◌∷◌, ◌++◌}
use mathlib.Core.Path.{◌≡◌, refl, ap, ◌∙◌}
use mathlib.Core.Logic.{inl, inr}
use native.Mathlib.Omega.{arith}
use borrow.Author.Tests.{lt-ltb}
use lib.ListN.{length, length-append}
use lib.Dec.{T, eqb}
use Rattle.std.specs.Prelude.{Option, Some, None}
use Rattle.text.specs.Parts.{pick, split_on}
use Rattle.text.proofs.Picks.{cases}
use Rattle.model.specs.Tests.{accepted}
use Rattle.model.specs.Tables.{Table}
use Rattle.model.specs.Rows.{wellformed}
use Rattle.model.specs.Rules.{refusal, next}
use Rattle.model.specs.declared.State.{State}
use Rattle.model.specs.declared.Step.{Step}
use Rattle.logs.specs.Lines.{longest_line, longest_row, set_digits, read_step}
use Rattle.saved.specs.Rows.{begins_row}
use Rattle.entries.specs.Entries.{row_number, row_refusal, resumed}
use Rattle.entries.proofs.Owning.{RowLaws, row_laws}
use Rattle.tally.specs.Tallies.{tallied, lines_of}
use Rattle.tally.specs.declared.Tally.{Tally}
use Rattle.stream.proofs.Pieces.{followed, split_some, split_append}
use Rattle.stream.proofs.Lines.{Settled}
use Rattle.judging.proofs.Accounts.{behind}
use Rattle.reaching.specs.Passing.{Passed, stays, past_line, passed}

-- a line over 63 bytes with its newline is no step
long_bad : (p q : List ℕ) → longest_row ≤ length p → read_step set_digits (p ++ q) ≡ None
unfolding read_step
long_bad p q h = let l : longest_line < length (p ++ q) + 1 = omega (arith, length-append p q) in rw (lt-ltb _ _ l)

-- a row that does not read is refused with 11 on any line
unread : (K : Table) (s : State) (c : Tally) (p : List ℕ) → row_number K p ≡ 11 → (resumed K s c p).number ≡ 11
unfolding resumed row_refusal
unread K s c p e = cases (eqb (lines_of c) 0) (λ f. rw (f, e)) (λ f. rw (f, e))

module _ (K : Table) where
  -- these lines behind what was come to
  abbrev pub goes_on : List (List ℕ) → Passed → Passed
  goes_on qs x = pick (accepted x.number) (passed K x.state x.tally qs) x

  -- a line with its newline, and two ways to go on behind it
  on_line_lem : (qs : List (List ℕ)) (l : Option Step) (s : State) (c : Tally) (p : List ℕ) (go then : State → Tally → Passed) → ((w : State) (d : Tally) → then w d ≡ goes_on qs (go w d))
      → past_line K s c p l then ≡ goes_on qs (past_line K s c p l go)
  on_line_lem qs None s c p go then h =
      let u = resumed K s c p in
      cases (begins_row p) (λ b. rw b (cases (accepted u.number) (λ y. rw y (h u.state u.tally)) (λ y. rw (y, y)))) (λ b. rw b)
  on_line_lem qs (Some x) s c p go then h = cases (accepted (refusal K s x)) (λ y. rw y (h (next K s x) (tallied K s x c))) (λ y. rw (y, y))

  module _ (R : RowLaws K) where
    -- what is too long for a line is none, whatever follows
    too_long : (s : State) (c : Tally) (p : List ℕ) → longest_row ≤ length p → (q : List ℕ) (qs : List (List ℕ)) → passed K s c ((p ++ q) ∷ qs) ≡ stays s c 11
    unfolding passed
    too_long s c [] h q qs = absurd (omega arith)
    too_long s c (b ∷ p) h q [] = refl
    too_long s c (b ∷ p) h q (r ∷ qs) =
        let line = (b ∷ p) ++ q in
        let n = unread K s c line (R.long line (omega (arith, length-append (b ∷ p) q))) in
        rw (long_bad (b ∷ p) q h) (cases (begins_row line) (λ y. rw (y, n)) (λ y. rw y))

    -- pieces behind pieces that are settled
    followed_on : (ps : List (List ℕ)) (s : State) (c : Tally) → Settled ps → (q : List ℕ) (qs : List (List ℕ)) → passed K s c (followed ps (q ∷ qs)) ≡ goes_on (q ∷ qs) (passed K s c ps)
    unfolding passed
    followed_on [] s c o q qs = refl
    followed_on ([] ∷ []) s c o q qs = refl
    followed_on ((b ∷ p) ∷ []) s c (inl e) q qs = let z : ◌≡◌ {A = ℕ} 0 1 = cc in absurd (omega arith)
    followed_on ((b ∷ p) ∷ []) s c (inr h) q qs = too_long s c (b ∷ p) h q qs
    followed_on (p ∷ m ∷ ps) s c o q qs =
        behind (λ l. passed K s c (p ∷ l) ≡ past_line K s c p (read_step set_digits p) (λ w d. passed K w d l)) m ps (λ r rs. refl) (q ∷ qs)
        ∙ on_line_lem (q ∷ qs) (read_step set_digits p) s c p _ _ (λ w d. followed_on (m ∷ ps) w d o q qs)

-- bytes behind bytes whose pieces are settled
pub chunk_on : (K : Table) → T (wellformed K) → (s : State) (c : Tally) (log : List ℕ) → Settled (split_on 10 log) → (b : List ℕ)
    → passed K s c (split_on 10 (log ++ b)) ≡ goes_on K (split_on 10 b) (passed K s c (split_on 10 log))
chunk_on K wf s c log o b = let w = split_some b in ap (passed K s c) (split_append log b) ∙ rw w.2 (followed_on K (row_laws K wf) (split_on 10 log) s c o w.0 w.1)
