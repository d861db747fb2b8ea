-- The report told block after block is the report on the input, however it is cut into blocks.
use Prim.Native.Nat.{ℕ, ◌+◌, ◌≤◌, ◌<◌}
use mathlib.Core.Bool.{Bool, true, false}
use mathlib.Core.List.{List, [], ◌∷◌, ◌++◌, append_assoc, append-nil}
use mathlib.Core.Path.{◌≡◌, refl, sym, ap, ◌∙◌}
use native.Mathlib.Omega.{arith}
use lib.Dec.{T}
use lib.ListN.{length, take, drop, length-append, length-take, length-drop, take-append-drop}
use lib.Seq.{take-append-le, drop-append-le, take-length}
use Rattle.text.specs.Parts.{split_on}
use Rattle.text.proofs.Picks.{cases, false_true}
use Rattle.model.specs.Tables.{Table}
use Rattle.model.specs.Rows.{wellformed}
use Rattle.model.specs.States.{fresh}
use Rattle.model.specs.declared.State.{State}
use Rattle.model.proofs.Formed.{formed}
use Rattle.model.proofs.Soundness.{Sound, start_sound}
use Rattle.logs.specs.Lines.{longest_row}
use Rattle.entries.proofs.Owning.{row_laws}
use Rattle.table.specs.Tables.{table_of}
use Rattle.table.specs.Texts.{longest, read_table}
use Rattle.report.specs.Rows.{head_text}
use Rattle.tally.specs.Tallies.{no_tally}
use Rattle.tally.specs.declared.Tally.{Tally}
use Rattle.engine.specs.Play.{Played, is_closed, is_row}
use Rattle.engine.specs.declared.Stop.{Stop}
use Rattle.engine.specs.declared.Stop.TheVariants.{End, Refused, Closed, Row}
use Rattle.stream.specs.Cut.{cut_of, cut_known}
use Rattle.stream.specs.Chunk.{chunk_end}
use Rattle.stream.proofs.Cuts.{cut_within, known_stays, unknown_few}
use Rattle.stream.proofs.Lines.{whole_settled, rest_short}
use Rattle.judging.specs.Report.{answer_text, report_on, input_report}
use Rattle.judging.proofs.Telling.{tell, log_text_lem}
use Rattle.judging.proofs.Bounds.{tell_bound}
use Rattle.judging.proofs.Chunks.{carries_end, carries_refused, carries_last, carries_room}
use Rattle.judging.proofs.Mission.{fine_wellformed}
use Rattle.streaming.specs.Turns.{Carried, at_table, at_log, over, Telling, taken, left, played_now, is_over, on_log, on_table, on_input, turn, told_by, joined, most_block, Short, most_told}
use Rattle.streaming.proofs.Leaving.{played_sound, played_whole}

-- what is still to be told, with these bytes to come
abbrev pub owed : Carried → List ℕ → List ℕ
owed (at_table held) rest = input_report (held ++ rest)
owed (at_log K s c held) rest = tell K s c (split_on 10 (held ++ rest))
owed over rest = []

-- what is carried is little: less than a table, or a sound state and less than a line
abbrev pub Little : Carried → Type 0
Little (at_table held) = length held ≤ longest
Little (at_log K s c held) = T (wellformed K) × Sound K s × (length held < longest_row)
Little over = Unit {0}

-- a turn tells what was owed, up to what is owed then; once the input has ended nothing is
pub record Tells (ended : Bool) (bytes : List ℕ) (t : Telling) (rest : List ℕ) : Type 0 where
  pub now : bytes ≡ t.bytes ++ owed t.next rest
  pub little : Little t.next
  pub end : ended ≡ true → t.next ≡ over

-- judging ends with the input
over_last : (w : Stop) → is_over true w ≡ true
over_last End = refl
over_last (Refused n) = refl
over_last (Closed k) = refl
over_last Row = refl

module _ (room : ℕ) (ended : Bool) (rest : List ℕ) (o : ended ≡ true → rest ≡ []) where
  -- the bytes of a log at hand
  module _ (K : Table) (wf : T (wellformed K)) (s : State) (S : Sound K s) (c : Tally) (hand : List ℕ) (m : most_told (length hand) ≤ room) where
    -- what is judged now, whose rows have room
    abbrev now_judged : Played
    now_judged = played_now room K s c ended hand

    has_room : (w : Stop) → now_judged.stop ≡ w → is_closed w ≡ false
    has_room End e = refl
    has_room (Refused n) e = refl
    has_room (Closed k) e =
        let b = tell_bound K wf (row_laws K wf) s S c (taken ended hand) in
        absurd (omega (arith, carries_room K (row_laws K wf) s c room (taken ended hand) e, length-take (chunk_end ended hand) hand))
    has_room Row e = refl

    pub log_told : Tells ended (tell K s c (split_on 10 (hand ++ rest))) (on_log room K s c ended hand) rest
    unfolding on_log
    log_told = by_end ended refl
      where
        parts : hand ++ rest ≡ taken ended hand ++ (left ended hand ++ rest)
        parts = ap (λ l. l ++ rest) (sym (take-append-drop (chunk_end ended hand) hand)) ∙ append_assoc (taken ended hand) (left ended hand) rest

        by_stop : ended ≡ false → (w : Stop) → now_judged.stop ≡ w → Tells ended (tell K s c (split_on 10 (hand ++ rest))) (on_log room K s c ended hand) rest
        by_stop q End e = record {
          now = ap (λ l. tell K s c (split_on 10 l)) parts ∙ carries_end K (row_laws K wf) s c room (taken ended hand) e (left ended hand ++ rest) ∙ rw (e, q, append-nil);
          little = rw (e, q) (wf, rw q at (played_sound K (formed K wf) (row_laws K wf) s S c room (taken ended hand)), rest_short hand);
          end = λ z. absurd (false_true (sym q ∙ z));
        }
        by_stop q (Refused n) e = record {
          now = ap (λ l. tell K s c (split_on 10 l)) parts ∙ carries_refused K (row_laws K wf) s c room (taken ended hand) (rw q (whole_settled hand)) e (left ended hand ++ rest)
              ∙ rw (e, append-nil);
          little = rw e tt;
          end = λ z. absurd (false_true (sym q ∙ z));
        }
        by_stop q (Closed k) e = absurd (false_true (sym (has_room (Closed k) e)))
        by_stop q Row e = absurd (false_true (sym (played_whole K (formed K wf) (row_laws K wf) s S c room (taken ended hand)) ∙ ap is_row e))

        by_end : (b : Bool) → ended ≡ b → Tells ended (tell K s c (split_on 10 (hand ++ rest))) (on_log room K s c ended hand) rest
        by_end false q = by_stop q now_judged.stop refl
        by_end true q =
            let v : is_over ended now_judged.stop ≡ true = ap (λ b. is_over b now_judged.stop) q ∙ over_last now_judged.stop in
            let w : hand ++ rest ≡ taken ended hand = rw (o q, append-nil, q, take-length hand) in
            record {
              now = ap (λ l. tell K s c (split_on 10 l)) w ∙ carries_last K (row_laws K wf) s c room (taken ended hand) (has_room now_judged.stop refl) ∙ rw (v, append-nil);
              little = rw v tt;
              end = λ z. rw v;
            }

  -- a table with the log's bytes behind it
  table_told : (table log : List ℕ) → most_told (length log) ≤ room
      → Tells ended (report_on table (log ++ rest)) (on_table room ended (read_table table).table (read_table table).numbers log) rest
  unfolding report_on
  table_told table log m = by_numbers (read_table table).numbers refl
    where
      by_numbers : (ns : List ℕ) → (read_table table).numbers ≡ ns
          → Tells ended (answer_text (read_table table).table (log ++ rest) ns) (on_table room ended (read_table table).table ns log) rest
      by_numbers [] e =
          let K = table_of (read_table table).table in
          let t = log_told K (fine_wellformed table e) fresh (start_sound K) no_tally log m in
          record {
            now = log_text_lem K (log ++ rest) ∙ ap (λ l. head_text ++ l) t.now ∙ sym (append_assoc head_text _ _);
            little = t.little;
            end = t.end;
          }
      by_numbers (n ∷ ls) e = record { now = rw (append-nil, append-nil); little = tt; end = λ z. refl }

  -- the input from its start
  cut_stays : (hand : List ℕ) → cut_known ended hand ≡ true → cut_of (hand ++ rest) ≡ cut_of hand
  cut_stays hand y = by_end ended refl y
    where
      by_end : (b : Bool) → ended ≡ b → cut_known b hand ≡ true → cut_of (hand ++ rest) ≡ cut_of hand
      by_end false q y = known_stays hand y rest
      by_end true q y = rw (o q, append-nil)

  pub input_told : (hand : List ℕ) → most_told (length hand) ≤ room
      → Tells ended (input_report (hand ++ rest)) (on_input room ended hand) rest
  unfolding on_input
  input_told hand m =
      cases (cut_known ended hand)
      (λ y.
      let l = cut_within hand (cut_of hand) refl in
      rw (y, cut_stays hand y, take-append-le (cut_of hand) hand rest l, drop-append-le (cut_of hand) hand rest l)
      (table_told (take (cut_of hand) hand) (drop (cut_of hand) hand) (omega (arith, length-drop (cut_of hand) hand))))
      (λ y. let u = unknown_few hand ended y in rw y (record { now = refl; little = u.1; end = λ z. absurd (false_true (sym u.0 ∙ z)) }))

  -- a turn
  turn_told : most_told (longest + most_block) ≤ room → (c : Carried) → Little c → (b : List ℕ) → length b ≤ most_block
      → Tells ended (owed c (b ++ rest)) (turn room ended c b) rest
  turn_told m (at_table held) l b h = rw (← append_assoc held b rest) (input_told (held ++ b) (omega (arith, length-append held b)))
  turn_told m (at_log K s c held) l b h = rw (← append_assoc held b rest) (log_told K l.0 s l.1 c (held ++ b) (omega (arith, length-append held b)))
  turn_told m over l b h = record { now = refl; little = tt; end = λ z. refl }

module _ (room : ℕ) (m : most_told (longest + most_block) ≤ room) where
  pub told_owed : (bs : List (List ℕ)) (c : Carried) → Little c → Short bs → told_by room c bs ≡ owed c (joined bs)
  told_owed [] c l h =
      let t = turn_told room true [] (λ e. refl) m c l [] (omega arith) in
      sym (t.now ∙ rw (t.end refl, append-nil))
  told_owed (b ∷ bs) c l h =
      let t = turn_told room false (joined bs) (λ e. absurd (false_true e)) m c l b h.0 in
      ap (λ w. (turn room false c b).bytes ++ w) (told_owed bs (turn room false c b).next t.little h.1) ∙ sym t.now

  -- for every way in which an input is cut into blocks: what is told of them, one after another, is the report on the input
  pub streamed : (bs : List (List ℕ)) → Short bs → told_by room (at_table []) bs ≡ input_report (joined bs)
  streamed bs h = told_owed bs (at_table []) (omega arith) h
