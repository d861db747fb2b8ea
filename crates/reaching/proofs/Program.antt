-- What the program finds, by the promises of what it calls alone: it reads the table, goes through block after block, and tells where it ends.
-- That is the answer on the input.
use Prim.Native.Nat.{ℕ, ◌+◌, ◌≤◌}
use mathlib.Core.Bool.{Bool, true, false}
use mathlib.Core.List.{List, [], ◌∷◌, ◌++◌, append_assoc}
use mathlib.Core.Path.{◌≡◌, refl, sym, ap, ◌∙◌}
use native.Mathlib.Omega.{arith}
use lib.Dec.{T}
use lib.ListN.{length, get_or, take, drop, length-take, length-drop}
use lib.Seq.{take-append-le, drop-append-le}
use Rattle.text.specs.Parts.{pick, split_on}
use Rattle.text.proofs.Picks.{false_true}
use Rattle.text.proofs.Puts.{put_fits}
use Rattle.model.specs.Tables.{Table}
use Rattle.model.specs.Rows.{wellformed}
use Rattle.model.proofs.Soundness.{Sound, of_sound}
use Rattle.table.specs.Tables.{table_of}
use Rattle.table.specs.Texts.{read_table}
use Rattle.tally.specs.Tallies.{lines_of, Roomy}
use Rattle.engine.specs.Play.{Ready}
use Rattle.engine.specs.Starts.{fresh_going}
use Rattle.engine.specs.declared.Going.{Going}
use Rattle.stream.specs.Cut.{cut_of, cut_known}
use Rattle.stream.specs.Chunk.{chunk_end}
use Rattle.stream.proofs.Cuts.{cut_within}
use Rattle.judging.proofs.Mission.{fine_wellformed}
use Rattle.reaching.specs.Reaching.{Reach, refused, reach_at, answer_reach, reach_on}
use Rattle.reaching.specs.Passing.{passed, end_of, at_log, over, on_log, Turned}
use Rattle.reaching.specs.declared.Turn.{Turn}
use Rattle.reaching.proofs.Ending.{log_ends, passed_sound}
use Rattle.reaching.proofs.Leaving.{passed_roomy}
use Rattle.reaching.proofs.Streamed.{joined, input_reach, answer_of, log_answers, cut_stays}
use Rattle.reaching.proofs.Writing.{front_is}

module _ {K : Table} {g : Going} {ended : Bool} {block : List ℕ} {have : ℕ} {r : Turn} {rest : List ℕ} (t : Turned K g ended block have r rest) where
  -- the answer where it is over; else what is carried to the next block
  pub turned_is : have ≤ length block → on_log K g.state g.tally ended (take have block)
      ≡ pick r.over (over (reach_at K r.going.state r.refusal (lines_of r.going.tally))) (at_log K r.going.state r.going.tally (take r.held rest))
  turned_is h =
      let hand = take have block in
      let left = drop (chunk_end ended hand) hand in
      let l : length left ≤ length block = omega (arith, length-drop (chunk_end ended hand) hand, length-take have block) in
      let f = put_fits (omega arith) t.held in
      let e : take r.held rest ≡ left = front_is block left rest r.held l (omega (arith, f.0)) f.1 in
      rw (t.over, e, t.going, t.refusal)

  module _ (wf : T (wellformed K)) where
    -- it leads from a sound state to a sound one, where the log may go on
    pub turn_sound : Sound K g.state → Sound K r.going.state × Ready K r.going
    turn_sound S =
        let S' = passed_sound K wf g.state S g.tally (split_on 10 (take (chunk_end ended (take have block)) (take have block))) in
        rw t.going (S', record { sound = of_sound K _ S'; busy = refl; listed = refl })

    -- a count that has room for the bytes at hand and for more has room for more
    pub turn_roomy : (n : ℕ) → Roomy g.tally (have + n) → Roomy r.going.tally n
    turn_roomy n h =
        let hand = take have block in
        let l : length (take (chunk_end ended hand) hand) ≤ have = omega (arith, length-take (chunk_end ended hand) hand, length-take have block) in
        rw t.going (passed_roomy K wf g.state g.tally (take (chunk_end ended hand) hand) have n l h)

-- a turn over the bytes at hand, as promised, and the bytes that are held behind it
pub record Promised (K : Table) (g : Going) (hand : List ℕ) (ended : Bool) (r : Turn) (held : List ℕ) : Type 0 where
  pub block : List ℕ
  pub have : ℕ
  pub rest : List ℕ
  pub within : have ≤ length block
  pub turned : Turned K g ended block have r rest
  pub at_hand : hand ≡ take have block
  pub left : held ≡ take r.held rest

-- the log: the last turn, one that a block follows, and one that the end follows
pub data Finds (K : Table) : Going → List ℕ → Bool → List (List ℕ) → Reach → Type 0 where
  ends : {g : Going} {hand held : List ℕ} {ended : Bool} {bs : List (List ℕ)} {r : Turn} → Promised K g hand ended r held → r.over ≡ true
      → Finds K g hand ended bs (reach_at K r.going.state r.refusal (lines_of r.going.tally))
  goes : {g : Going} {hand held b : List ℕ} {bs : List (List ℕ)} {r : Turn} {x : Reach} → Promised K g hand false r held → r.over ≡ false
      → Finds K r.going (held ++ b) false bs x → Finds K g hand false (b ∷ bs) x
  stops : {g : Going} {hand held : List ℕ} {r : Turn} {x : Reach} → Promised K g hand false r held → r.over ≡ false
      → Finds K r.going held true [] x → Finds K g hand false [] x

module _ (K : Table) (wf : T (wellformed K)) where
  -- where a log ends from here on
  abbrev end_from : Going → List ℕ → Reach
  end_from g log = end_of K (passed K g.state g.tally (split_on 10 log))

  -- behind a turn it ends as what is carried does
  promised_on : {g : Going} {hand held : List ℕ} {ended : Bool} {r : Turn} → Promised K g hand ended r held → (rest : List ℕ) → (ended ≡ true → rest ≡ [])
      → end_from g (hand ++ rest) ≡ answer_of (pick r.over (over (reach_at K r.going.state r.refusal (lines_of r.going.tally))) (at_log K r.going.state r.going.tally held)) rest
  promised_on {g} {hand} {ended = ended} p rest o =
      (log_answers ended rest o K wf g.state g.tally hand).now
      ∙ rw (p.at_hand, p.left) (ap (λ c. answer_of c rest) (turned_is p.turned p.within))

  -- what is found of it is that
  log_found : {g : Going} {hand : List ℕ} {ended : Bool} {bs : List (List ℕ)} {x : Reach} → Finds K g hand ended bs x → (ended ≡ true → bs ≡ []) → x ≡ end_from g (hand ++ joined bs)
  log_found {bs = bs} (ends p e) o = sym (promised_on p (joined bs) (λ z. ap joined (o z)) ∙ rw e)
  log_found (goes {held = held} {b = b} {bs = bs} {r = r} p e f) o =
      log_found f (λ z. absurd (false_true z)) ∙ ap (end_from r.going) (append_assoc held b (joined bs)) ∙ sym (promised_on p (b ++ joined bs) (λ z. absurd (false_true z)) ∙ rw e)
  log_found (stops p e f) o = log_found f (λ z. refl) ∙ sym (promised_on p [] (λ z. refl) ∙ rw e)

-- the bytes at hand, which say where the table ends, and the blocks to come
module _ (hand : List ℕ) (ended : Bool) (k : cut_known ended hand ≡ true) (bs : List (List ℕ)) (o : ended ≡ true → bs ≡ []) where
  -- the table's bytes
  abbrev pub table : List ℕ
  table = take (cut_of hand) hand

  -- the log's bytes behind them
  abbrev pub log : List ℕ
  log = drop (cut_of hand) hand

  -- the blocks to come are the log's
  cut_on : reach_on table (log ++ joined bs) ≡ input_reach (hand ++ joined bs)
  cut_on =
      let l = cut_within hand (cut_of hand) refl in
      rw (cut_stays ended (joined bs) (λ z. ap joined (o z)) hand k, take-append-le (cut_of hand) hand (joined bs) l, drop-append-le (cut_of hand) hand (joined bs) l)

  -- a refused table is the answer
  pub refused_found : (n : ℕ) (ls : List ℕ) → (read_table table).numbers ≡ n ∷ ls → refused n (get_or ls 0 0) ≡ input_reach (hand ++ joined bs)
  unfolding reach_on
  refused_found n ls e = ap (answer_reach (read_table table).table (log ++ joined bs)) (sym e) ∙ cut_on

  -- with an accepted one it is what is found of the log
  pub fine_found : (read_table table).numbers ≡ [] → {g : Going} → g ≡ fresh_going → {x : Reach} → Finds (table_of (read_table table).table) g log ended bs x → x ≡ input_reach (hand ++ joined bs)
  unfolding reach_on fresh_going
  fine_found e {g} q f =
      let K = table_of (read_table table).table in
      let wf = fine_wellformed table e in
      log_found K wf f o ∙ ap (λ h. end_from K wf h (log ++ joined bs)) q ∙ log_ends K wf (log ++ joined bs)
      ∙ ap (answer_reach (read_table table).table (log ++ joined bs)) (sym e) ∙ cut_on
