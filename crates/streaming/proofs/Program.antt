-- What the program writes, by the promises of what it calls alone: it opens the table, judges block after block, and writes what it was told.
-- That is the report on the input.
use Prim.Native.Nat.{ℕ, ◌+◌, ◌≤◌}
use mathlib.Core.Bool.{Bool, true, false}
use mathlib.Core.List.{List, [], ◌∷◌, ◌++◌, append_assoc, append-nil}
use mathlib.Core.Path.{◌≡◌, refl, sym, ap, ◌∙◌}
use native.Mathlib.Omega.{arith}
use lib.Dec.{T}
use lib.ListN.{length, take, drop}
use Rattle.std.specs.Prelude.{Some, None}
use Rattle.text.specs.Parts.{pick}
use Rattle.text.proofs.Picks.{false_true}
use Rattle.model.specs.Tables.{Table}
use Rattle.model.specs.States.{fresh}
use Rattle.table.specs.Tables.{table_of}
use Rattle.table.specs.Checks.{Said, accepts}
use Rattle.table.specs.Texts.{longest, is_empty, read_table}
use Rattle.table.specs.declared.Table as rows
use Rattle.prepared.specs.Prepared.{table_in, Prepared}
use Rattle.report.specs.Rows.{head_text}
use Rattle.tally.specs.Tallies.{no_tally}
use Rattle.engine.specs.Starts.{fresh_going}
use Rattle.engine.specs.declared.Going.{Going}
use Rattle.stream.specs.Cut.{cut_of, cut_known}
use Rattle.judging.specs.Report.{input_report}
use Rattle.streaming.specs.Turns.{at_log, over, Telling, on_log, opening, on_table, on_input, told_by, joined, most_block, Short, most_told}
use Rattle.streaming.specs.Lent.{Resumes, Judged, Opens}
use Rattle.streaming.proofs.Opening.{accepted_some, accepted_none}
use Rattle.streaming.specs.declared.Turn.{Turn}
use Rattle.streaming.specs.declared.Opened.{Opened}
use Rattle.streaming.proofs.Turning.{fresh_resumes, turn_resumes}
use Rattle.streaming.proofs.Written.{judged_turn, opened_turn}
use Rattle.streaming.proofs.Streamed.{owed, Little, told_owed, input_told}

-- a turn over the bytes at hand, as promised
pub record Promised (rows index : List ℕ) (room : ℕ) (g : Going) (hand : List ℕ) (ended : Bool) (going : Going) (done : Bool) (wrote kept : List ℕ) : Type 0 where
  pub block : List ℕ
  pub have : ℕ
  pub out : List ℕ
  pub turn : Turn
  pub rest : List ℕ
  pub after : List ℕ
  pub within : have ≤ length block
  pub size : length out ≡ room
  pub enough : most_told have ≤ length out
  pub judged : Judged (table_in rows index) g ended block have out turn rest after
  pub at_hand : hand ≡ take have block
  pub onward : going ≡ turn.going
  pub over : done ≡ turn.over
  pub written : wrote ≡ take turn.told after
  pub left : kept ≡ take turn.held rest

-- the log: the last turn, one that a block follows, and one that the end follows
pub data Writes (rows index : List ℕ) (room : ℕ) : Going → List ℕ → Bool → List (List ℕ) → List ℕ → Type 0 where
  ends : {g h : Going} {hand told held : List ℕ} {ended : Bool} {bs : List (List ℕ)} → Promised rows index room g hand ended h true told held
      → Writes rows index room g hand ended bs told
  goes : {g h : Going} {hand told held b w : List ℕ} {bs : List (List ℕ)} → Promised rows index room g hand false h false told held
      → Writes rows index room h (held ++ b) false bs w → Writes rows index room g hand false (b ∷ bs) (told ++ w)
  stops : {g h : Going} {hand told held w : List ℕ} → Promised rows index room g hand false h false told held
      → Writes rows index room h held true [] w → Writes rows index room g hand false [] (told ++ w)

-- when all is told nothing more is
told_over : (room : ℕ) (bs : List (List ℕ)) → told_by room over bs ≡ []
told_over room [] = refl
told_over room (b ∷ bs) = told_over room bs

-- the table that is read from the bytes at hand
abbrev table_read : List ℕ → Said
table_read hand = read_table (take (cut_of hand) hand)

-- what the definition tells from here on
abbrev told_from : ℕ → Bool → Telling → List (List ℕ) → List ℕ
told_from room ended t bs = t.bytes ++ pick ended [] (told_by room t.next bs)

module _ {rows index : List ℕ} (P : Prepared rows index) (room : ℕ) where
  abbrev K : Table
  K = table_in rows index

  turn_is : {g h : Going} {hand told held : List ℕ} {ended done : Bool} → Resumes K g → Promised rows index room g hand ended h done told held
      → (told ≡ (on_log room K g.state g.tally ended hand).bytes)
      × (pick done over (at_log K h.state h.tally held) ≡ (on_log room K g.state g.tally ended hand).next)
  turn_is {g} {ended = ended} R T =
      let j = judged_turn P g R T.block T.have T.within ended T.out T.enough T.judged in
      rw (T.written, T.at_hand, T.onward, T.over, T.left, ← T.size) j

  next_resumes : {g h : Going} {hand told held : List ℕ} {ended done : Bool} → Resumes K g → Promised rows index room g hand ended h done told held → Resumes K h
  next_resumes {ended = ended} R T = rw T.onward (turn_resumes P R T.block T.have ended T.judged)

  log_written : {g : Going} {hand : List ℕ} {ended : Bool} {bs : List (List ℕ)} {w : List ℕ} → Writes rows index room g hand ended bs w → Resumes K g
      → w ≡ told_from room ended (on_log room K g.state g.tally ended hand) bs
  log_written {ended = true} (ends T) R = (turn_is R T).0 ∙ sym (append-nil _)
  log_written {ended = false} {bs = bs} (ends T) R =
      let t = turn_is R T in
      t.0 ∙ sym (append-nil _) ∙ rw (← t.1, told_over room bs)
  log_written (goes T W) R =
      let t = turn_is R T in
      let w = log_written W (next_resumes R T) in
      rw (← t.1, t.0, w)
  log_written {g} {hand} (stops {h = h} {held = held} T W) R =
      let t = turn_is R T in
      let w = log_written W (next_resumes R T) ∙ append-nil _ in
      rw (← t.1, t.0, w) (ap (λ l. (on_log room K g.state g.tally false hand).bytes ++ (on_log room K h.state h.tally true l).bytes) (sym (append-nil held)))

-- a table with the log's bytes behind it, refused or accepted
module _ (room : ℕ) (ended : Bool) (t : rows.Table) (log : List ℕ) (bs : List (List ℕ)) where
  none : (b : Bool) → pick {A = List ℕ} b [] [] ≡ []
  none true = refl
  none false = refl

  table_refused : (ns : List ℕ) → is_empty ns ≡ false → opening ns ≡ told_from room ended (on_table room ended t ns log) bs
  table_refused [] e = absurd (false_true (sym e))
  table_refused (n ∷ ls) e = rw (told_over room bs, none ended, append-nil, append-nil)

  table_fine : (ns : List ℕ) → is_empty ns ≡ true
      → opening ns ++ told_from room ended (on_log room (table_of t) fresh no_tally ended log) bs ≡ told_from room ended (on_table room ended t ns log) bs
  table_fine [] e = sym (append_assoc head_text _ _)
  table_fine (n ∷ ls) e = absurd (false_true e)

-- a buffer for whatever is told, and a block no longer than the longest
module _ (room : ℕ) (m : most_told (longest + most_block) ≤ room) (hand : List ℕ) (l : length hand ≤ most_block)
    (ended : Bool) (k : cut_known ended hand ≡ true) (bs : List (List ℕ)) (short : Short bs) (o : ended ≡ true → bs ≡ []) where
  -- what the definition tells of the bytes at hand and of the blocks to come is the report
  whole_told : told_from room ended (on_input room ended hand) bs ≡ input_report (hand ++ joined bs)
  whole_told =
      let t = input_told room ended (joined bs) (λ e. ap joined (o e)) hand (omega arith) in
      ap (λ w. (on_input room ended hand).bytes ++ w) (still ended refl t.end t.little) ∙ sym t.now
    where
      still : (b : Bool) → ended ≡ b → (ended ≡ true → (on_input room ended hand).next ≡ over) → Little (on_input room ended hand).next
          → pick ended [] (told_by room (on_input room ended hand).next bs) ≡ owed (on_input room ended hand).next (joined bs)
      still true e f n = ap (λ b. pick b [] (told_by room (on_input room ended hand).next bs)) e ∙ sym (ap (λ c. owed c (joined bs)) (f e))
      still false e f n = ap (λ b. pick b [] (told_by room (on_input room ended hand).next bs)) e ∙ told_owed room m bs (on_input room ended hand).next n short

  input_is : on_input room ended hand ≡ on_table room ended (table_read hand).table (table_read hand).numbers (drop (cut_of hand) hand)
  unfolding on_input
  input_is = rw k

  module _ {block out : List ℕ} {r : Opened} {rest after : List ℕ} (h : length hand ≤ length block) (n : 202 ≤ length out) (O : Opens hand block out r rest after) where
    -- a refused table: what is told of it is all
    pub refused_written : r.table ≡ None
        → take r.told after ≡ input_report (hand ++ joined bs)
    refused_written f =
        (opened_turn hand block out h n O).0 ∙ table_refused room ended (table_read hand).table (drop (cut_of hand) hand) bs (table_read hand).numbers (accepted_none (table_read hand) (sym O.table ∙ f))
        ∙ ap (λ t. told_from room ended t bs) (sym input_is) ∙ whole_told

    -- an accepted table: what is told of it, and then of the log
    pub fine_written : {t : rows.Table} → r.table ≡ Some t → {rows index : List ℕ} → Prepared rows index → table_in rows index ≡ table_of t
        → {g : Going} → g ≡ fresh_going → {w : List ℕ} → Writes rows index room g (take r.held rest) ended bs w
        → take r.told after ++ w ≡ input_report (hand ++ joined bs)
    unfolding fresh_going
    fine_written {t} f {rows} {index} P e {g} q {w} W =
        let a : table_read hand ≡ accepts t = accepted_some (table_read hand) t (sym O.table ∙ f) in
        let u = opened_turn hand block out h n O in
        let log : w ≡ told_from room ended (on_log room (table_of (table_read hand).table) fresh no_tally ended (drop (cut_of hand) hand)) bs =
        log_written P room W (fresh_resumes (table_in rows index) g q)
        ∙ ap (λ x. told_from room ended (on_log room (table_in rows index) x.state x.tally ended (take r.held rest)) bs) q
        ∙ ap (λ K. told_from room ended (on_log room K fresh no_tally ended (take r.held rest)) bs) (e ∙ sym (ap (λ (x : Said). table_of x.table) a))
        ∙ ap (λ b. told_from room ended (on_log room (table_of (table_read hand).table) fresh no_tally ended b) bs) u.1 in
        ap (λ b. b ++ w) u.0 ∙ ap (λ b. opening (table_read hand).numbers ++ b) log
        ∙ table_fine room ended (table_read hand).table (drop (cut_of hand) hand) bs (table_read hand).numbers (ap (λ (x : Said). is_empty x.numbers) a)
        ∙ ap (λ t. told_from room ended t bs) (sym input_is) ∙ whole_told
