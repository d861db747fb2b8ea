-- A promise of a turn is the definition's turn: the bytes to be written are those that it tells, and the block holds what it carries on.
use Prim.Native.Nat.{ℕ, ◌+◌, ◌≤◌}
use mathlib.Core.Bool.{Bool}
use mathlib.Core.List.{List, [], ◌∷◌, ◌++◌}
use mathlib.Core.Path.{◌≡◌, refl, ap}
use native.Mathlib.Omega.{arith}
use lib.ListN.{length, get_or, take, drop, length-append, length-take, length-drop}
use lib.Seq.{sets-eq, take_at}
use Rattle.text.specs.Parts.{pick}
use Rattle.text.specs.Put.{Put}
use Rattle.text.proofs.Puts.{put_fits}
use Rattle.model.specs.Tables.{Table}
use Rattle.model.specs.Cycles.{refused_report}
use Rattle.model.proofs.Tests.{true_T}
use Rattle.table.specs.Texts.{read_table}
use Rattle.prepared.specs.Prepared.{table_in, Prepared}
use Rattle.entries.proofs.Owning.{row_laws}
use Rattle.report.specs.Rows.{head_text, rows_text, sum_word, sum_numbers, sum_text}
use Rattle.report.proofs.Lines.{head_length, line_length, numbers_most}
use Rattle.engine.specs.declared.Going.{Going}
use Rattle.stream.specs.Cut.{cut_of}
use Rattle.stream.specs.Chunk.{chunk_end}
use Rattle.judging.proofs.Bounds.{tell_bound}
use Rattle.streaming.specs.Turns.{Carried, at_log, over, left, on_log, opening, most_told}
use Rattle.streaming.specs.Lent.{Resumes, Judged, Opens}
use Rattle.streaming.specs.declared.Turn.{Turn}
use Rattle.streaming.specs.declared.Opened.{Opened}
use Rattle.streaming.proofs.Turning.{resumes_sound}
use Rattle.streaming.proofs.Streamed.{owed, log_told}

-- a text written from the start of a buffer that holds it stands there
put_front : {buf text after : List ℕ} {r : ℕ} → length text ≤ length buf → Put buf 0 text r after → take r after ≡ text
put_front {buf} {text} h p =
    let k : 0 + length text ≤ length buf = omega arith in
    let f = put_fits k p in
    rw (f.0, f.1, sets-eq text buf 0 k) (take_at text (drop (0 + length text) buf) (0 + length text) (omega arith))

-- what a block holds after a turn
abbrev pub carried_in : Table → Turn → List ℕ → Carried
carried_in K r block = pick r.over over (at_log K r.going.state r.going.tally (take r.held block))

-- a block judged
module _ {rows index : List ℕ} (P : Prepared rows index) (g : Going) (R : Resumes (table_in rows index) g) (block : List ℕ) (have : ℕ)
    (h : have ≤ length block) (ended : Bool) (out : List ℕ) (m : most_told have ≤ length out) where
  bytes_fit : length (on_log (length out) (table_in rows index) g.state g.tally ended (take have block)).bytes ≤ length out
  bytes_fit =
      let K = table_in rows index in
      let hand = take have block in
      let wf = true_T _ P.formed in
      let S = resumes_sound R in
      let w : most_told (length hand) ≤ length out = omega (arith, length-take have block) in
      let t = log_told (length out) ended [] (λ e. refl) K wf g.state S g.tally hand w in
      let b = tell_bound K wf (row_laws K wf) g.state S g.tally (hand ++ []) in
      let o = on_log (length out) K g.state g.tally ended hand in
      omega (arith, ap length t.now, length-append o.bytes (owed o.next []), length-append hand [])

  pub judged_turn : {r : Turn} {rest after : List ℕ} → Judged (table_in rows index) g ended block have out r rest after
      → (take r.told after ≡ (on_log (length out) (table_in rows index) g.state g.tally ended (take have block)).bytes)
      × (carried_in (table_in rows index) r rest ≡ (on_log (length out) (table_in rows index) g.state g.tally ended (take have block)).next)
  unfolding on_log
  judged_turn J =
      let hand = take have block in
      let l : length (left ended hand) ≤ length block = omega (arith, length-drop (chunk_end ended hand) hand, length-take have block) in
      (put_front bytes_fit J.told, rw (J.over, J.going, put_front l J.held))

-- a table opened
opening_length : (ns : List ℕ) → length (opening ns) ≤ 202
unfolding rows_text
opening_length [] = omega (arith, head_length)
opening_length (n ∷ ls) =
    let s = (refused_report n (get_or ls 0 0)).sum in
    omega (arith, head_length, length-append head_text (sum_text s), line_length sum_word (sum_numbers s), numbers_most (sum_numbers s))

pub opened_turn : (hand block out : List ℕ) {r : Opened} {rest after : List ℕ} → length hand ≤ length block → 202 ≤ length out
    → Opens hand block out r rest after
    → (take r.told after ≡ opening (read_table (take (cut_of hand) hand)).numbers) × (take r.held rest ≡ drop (cut_of hand) hand)
opened_turn hand block out h m O =
    let a = (read_table (take (cut_of hand) hand)).numbers in
    let l : length (opening a) ≤ length out = omega (arith, opening_length a) in
    let k : length (drop (cut_of hand) hand) ≤ length block = omega (arith, length-drop (cut_of hand) hand) in
    (put_front l O.told, put_front k O.held)
