-- The answer found block after block is the answer on the input, however it is cut into blocks.
use Prim.Native.Nat.{ℕ}
use mathlib.Core.Bool.{Bool, true, false}
use mathlib.Core.List.{List, [], ◌∷◌, ◌++◌, append_assoc, append-nil}
use mathlib.Core.Path.{◌≡◌, refl, sym, ap, ◌∙◌}
use lib.Dec.{T}
use lib.ListN.{take, drop, take-append-drop}
use lib.Seq.{take-append-le, drop-append-le, take-length}
use Rattle.text.specs.Parts.{split_on}
use Rattle.text.proofs.Picks.{cases, false_true}
use Rattle.model.specs.Tests.{accepted}
use Rattle.model.specs.Tables.{Table}
use Rattle.model.specs.Rows.{wellformed}
use Rattle.model.specs.States.{fresh}
use Rattle.model.specs.declared.State.{State}
use Rattle.table.specs.Tables.{table_of}
use Rattle.table.specs.Texts.{read_table}
use Rattle.tally.specs.Tallies.{no_tally}
use Rattle.tally.specs.declared.Tally.{Tally}
use Rattle.stream.specs.Cut.{cut_of, cut_known}
use Rattle.stream.specs.Chunk.{chunk_end}
use Rattle.stream.proofs.Cuts.{cut_within, known_stays, unknown_few}
use Rattle.stream.proofs.Lines.{whole_settled}
use Rattle.judging.proofs.Mission.{fine_wellformed}
use Rattle.reaching.specs.Reaching.{Reach, answer_reach, reach_on}
use Rattle.reaching.specs.Passing.{passed, end_of, Carried, at_table, at_log, over, on_log, behind_table, on_input, turn, carried_by}
use Rattle.reaching.proofs.Ending.{log_ends}
use Rattle.reaching.proofs.Following.{chunk_on}

-- the input that these blocks are
abbrev pub joined : List (List ℕ) → List ℕ
joined [] = []
joined (b ∷ bs) = b ++ joined bs

-- the answer on an input, cut into table and log
abbrev pub input_reach : List ℕ → Reach
input_reach s = reach_on (take (cut_of s) s) (drop (cut_of s) s)

-- the answer where this is carried, with these bytes to come
abbrev pub answer_of : Carried → List ℕ → Reach
answer_of (at_table held) rest = input_reach (held ++ rest)
answer_of (at_log K s c held) rest = end_of K (passed K s c (split_on 10 (held ++ rest)))
answer_of (over x) rest = x

-- the table that is carried is well formed
abbrev pub Formed : Carried → Type 0
Formed (at_table held) = Unit {0}
Formed (at_log K s c held) = T (wellformed K)
Formed (over x) = Unit {0}

-- a turn leaves the answer as it is; once the input has ended it is there
pub record Answers (ended : Bool) (x : Reach) (t : Carried) (rest : List ℕ) : Type 0 where
  pub now : x ≡ answer_of t rest
  pub formed : Formed t
  pub end : ended ≡ true → t ≡ over x

module _ (ended : Bool) (rest : List ℕ) (o : ended ≡ true → rest ≡ []) where
  -- the log's bytes at hand
  pub log_answers : (K : Table) → T (wellformed K) → (s : State) (c : Tally) (hand : List ℕ) → Answers ended (end_of K (passed K s c (split_on 10 (hand ++ rest)))) (on_log K s c ended hand) rest
  log_answers K wf s c hand = by_end ended refl
    where
      parts : (n : ℕ) → hand ++ rest ≡ take n hand ++ (drop n hand ++ rest)
      parts n = ap (λ l. l ++ rest) (sym (take-append-drop n hand)) ∙ append_assoc (take n hand) (drop n hand) rest

      by_end : (b : Bool) → ended ≡ b → Answers b (end_of K (passed K s c (split_on 10 (hand ++ rest)))) (on_log K s c b hand) rest
      by_end false q =
          let n = chunk_end false hand in
          let x = passed K s c (split_on 10 (take n hand)) in
          let e = ap (λ l. end_of K (passed K s c (split_on 10 l))) (parts n) ∙ ap (end_of K) (chunk_on K wf s c (take n hand) (whole_settled hand) (drop n hand ++ rest)) in
          cases (accepted x.number)
          (λ y. record { now = e ∙ rw y; formed = rw y wf; end = λ z. absurd (false_true z) })
          (λ y. record { now = e ∙ rw y; formed = rw y tt; end = λ z. absurd (false_true z) })
      by_end true q =
          let e : hand ++ rest ≡ take (chunk_end true hand) hand = rw (o q, append-nil, take-length hand) in
          let w = ap (λ l. end_of K (passed K s c (split_on 10 l))) e in
          record { now = w; formed = tt; end = λ z. ap over (sym w) }

  -- a table with the log's bytes behind it
  table_answers : (table log : List ℕ) → Answers ended (reach_on table (log ++ rest)) (behind_table ended (table_of (read_table table).table) log (read_table table).numbers) rest
  unfolding reach_on
  table_answers table log = by_numbers (read_table table).numbers refl
    where
      by_numbers : (ns : List ℕ) → (read_table table).numbers ≡ ns → Answers ended (answer_reach (read_table table).table (log ++ rest) ns) (behind_table ended (table_of (read_table table).table) log ns) rest
      by_numbers [] e = let K = table_of (read_table table).table in let wf = fine_wellformed table e in rw (← log_ends K wf (log ++ rest)) (log_answers K wf fresh no_tally log)
      by_numbers (n ∷ ls) e = record { now = refl; formed = tt; end = λ z. refl }

  -- where the table ends stays, whatever follows
  pub cut_stays : (hand : List ℕ) → cut_known ended hand ≡ true → cut_of (hand ++ rest) ≡ cut_of hand
  cut_stays hand y = by_end ended refl y
    where
      by_end : (b : Bool) → ended ≡ b → cut_known b hand ≡ true → cut_of (hand ++ rest) ≡ cut_of hand
      by_end false q y = known_stays hand y rest
      by_end true q y = rw (o q, append-nil)

  -- the input from its start
  input_answers : (hand : List ℕ) → Answers ended (input_reach (hand ++ rest)) (on_input ended hand) rest
  input_answers hand =
      cases (cut_known ended hand)
      (λ y.
      let l = cut_within hand (cut_of hand) refl in
      rw (y, cut_stays hand y, take-append-le (cut_of hand) hand rest l, drop-append-le (cut_of hand) hand rest l) (table_answers (take (cut_of hand) hand) (drop (cut_of hand) hand)))
      (λ y. rw y (record { now = refl; formed = tt; end = λ z. absurd (false_true (sym (unknown_few hand ended y).0 ∙ z)) }))

  -- a turn
  turn_answers : (c : Carried) → Formed c → (b : List ℕ) → Answers ended (answer_of c (b ++ rest)) (turn ended c b) rest
  turn_answers (at_table held) l b = rw (← append_assoc held b rest) (input_answers (held ++ b))
  turn_answers (at_log K s c held) l b = rw (← append_assoc held b rest) (log_answers K l s c (held ++ b))
  turn_answers (over x) l b = record { now = refl; formed = tt; end = λ z. refl }

-- what is carried behind all blocks is the answer
carried : (bs : List (List ℕ)) (c : Carried) → Formed c → carried_by c bs ≡ over (answer_of c (joined bs))
carried [] c l = (turn_answers true [] (λ e. refl) c l []).end refl
carried (b ∷ bs) c l =
    let t = turn_answers false (joined bs) (λ e. absurd (false_true e)) c l b in
    carried bs (turn false c b) t.formed ∙ ap over (sym t.now)

-- for every way in which an input is cut into blocks: what is come to is the answer on the input
pub reached_streamed : (bs : List (List ℕ)) → carried_by (at_table []) bs ≡ over (input_reach (joined bs))
reached_streamed bs = carried bs (at_table []) tt
