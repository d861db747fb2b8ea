-- What is written of an answer: one law for each exit, over plain variables.
use Prim.Native.Nat.{ℕ, zero, suc, ◌+◌, ◌≤◌, ◌<◌}
use mathlib.Core.List.{List, [], ◌∷◌, ◌++◌, append_assoc}
use mathlib.Core.Path.{◌≡◌, refl, sym, ap, subst, ◌∙◌}
use native.Mathlib.Omega.{arith}
use lib.Dec.{T}
use lib.ListN.{length, take, drop, set, length-append}
use lib.Seq.{sets, sets-eq, length-sets, take-append-le, take-length}
use borrow.Author.Tests.{le-leb}
use Rattle.text.specs.Put.{Put}
use Rattle.text.specs.Number.{digits}
use Rattle.text.proofs.Numbers.{length_digits, width_within}
use Rattle.text.specs.Parts.{split_on}
use Rattle.report.proofs.Lines.{Writing, writing_start, writing_put}
use Rattle.model.specs.Tables.{Table}
use Rattle.model.specs.Rows.{wellformed}
use Rattle.model.specs.States.{fresh}
use Rattle.model.specs.Sound.{sound}
use Rattle.model.specs.declared.State.{State}
use Rattle.model.proofs.Soundness.{start_sound, of_sound}
use Rattle.model.proofs.Tests.{true_T}
use Rattle.prepared.specs.Held.{held}
use Rattle.prepared.specs.declared.component.Component.{Component}
use Rattle.table.specs.Checks.{accepts}
use Rattle.table.specs.Checks as says
use Rattle.table.specs.Tables.{table_of}
use Rattle.table.specs.Texts.{read_table}
use Rattle.table.specs.declared.Table as rows
use Rattle.tally.specs.Tallies.{most_count, no_tally, lines_of, Roomy}
use Rattle.engine.specs.Starts.{fresh_going}
use Rattle.engine.specs.declared.Going.{Going}
use Rattle.engine.specs.declared.Ran.{Ran}
use Rattle.saved.specs.Rows.{row_text}
use Rattle.saved.proofs.Lengths.{row_short}
use Rattle.reaching.specs.Reaching.{row, refused, reach_at, log_reach, reach_on, pair_over, Reaches, reach_text}
use Rattle.reaching.specs.Passing.{passed, Passes}
use Rattle.judging.specs.Report.{refusal_of}
use Rattle.judging.proofs.Reporting.{roomy_lines}
use Rattle.reaching.proofs.Ending.{log_ends, passed_sound}
use Rattle.reaching.proofs.Leaving.{passed_roomy}

-- a text was written to the front of a buffer that holds it
module _ (buf text after : List ℕ) (n : ℕ) (h : length text ≤ length buf) (e : n ≡ length text) (w : after ≡ sets buf 0 text) where
  -- the first bytes are the text
  pub front_is : take n after ≡ text
  front_is =
      let s : after ≡ text ++ drop (0 + length text) buf = w ∙ sets-eq text buf 0 (omega arith) in
      rw (e, s) (take-append-le (length text) text _ (omega arith) ∙ take-length text)

  -- where they were put, it was
  front_put : {out out' : List ℕ} {r : ℕ} → Put out 0 (take n after) r out' → Put out 0 text r out'
  front_put {out} {out'} {r} p = subst (λ x. Put out 0 x r out') front_is p

-- a byte is written
byte : {buf text at q : List ℕ} {b p : ℕ} → Writing buf 0 text at p (b ∷ q) → Writing buf 0 text (set at p b) (p + 1) q
byte {at = at} {b = b} {p = p} w =
    let h : p + length (b ∷ []) ≤ length at = omega (arith, w.kept, w.wide, w.room) in
    let z : Put at p (b ∷ []) (p + 1) (set at p b) = record { place = rw (le-leb _ _ h); bytes = rw (le-leb _ _ h) } in
    writing_put w z

-- a refusal's number, a tab, its line and a newline, put together in a buffer of 48 bytes
module _ (buf : List ℕ) (k : length buf ≡ 48) (n l : ℕ) where
  -- its parts, one after another
  text_is : reach_text (refused n l) ≡ digits n ++ (9 ∷ (digits l ++ (10 ∷ [])))
  text_is = append_assoc (digits n) (9 ∷ digits l) (10 ∷ [])

  -- nothing is written yet
  started : Writing buf 0 (reach_text (refused n l)) buf 0 (digits n ++ (9 ∷ (digits l ++ (10 ∷ []))))
  started =
      let a = length-append (digits n) (9 ∷ (digits l ++ (10 ∷ []))) in
      let b = length-append (digits l) (10 ∷ []) in
      let h : 0 + length (reach_text (refused n l)) ≤ length buf = omega (arith, ap length text_is, length_digits n, (width_within n).1, length_digits l, (width_within l).1) in
      subst (Writing buf 0 (reach_text (refused n l)) buf 0) text_is (writing_start buf 0 (reach_text (refused n l)) h)

  module _ {p : ℕ} {b₁ : List ℕ} (y : Put buf 0 (digits n) p b₁) where
    -- the tab has room
    pub tab_room : p < 48
    tab_room = let w = writing_put started y in omega (arith, w.kept, w.wide, w.room)

    module _ {q : ℕ} {b₂ : List ℕ} (z : Put (set b₁ p 9) (p + 1) (digits l) q b₂) where
      -- the newline is left
      behind : Writing buf 0 (reach_text (refused n l)) b₂ q (10 ∷ [])
      behind = writing_put (byte (writing_put started y)) z

      -- so has the newline
      pub newline_room : q < 48
      newline_room = let w = behind in omega (arith, w.kept, w.wide, w.room)

      -- all is written
      whole : Writing buf 0 (reach_text (refused n l)) (set b₂ q 10) (q + 1) []
      whole = byte behind

      -- the bytes up to it
      pub newline_inside : q + 1 ≤ length (set b₂ q 10)
      newline_inside = let w = whole in omega (arith, w.kept, w.wide, w.room)

      -- are the refusal's text
      pub refusal_put : {out after : List ℕ} {r : ℕ} → Put out 0 (take (q + 1) (set b₂ q 10)) r after → Put out 0 (reach_text (refused n l)) r after
      refusal_put p = let w = whole in front_put buf (reach_text (refused n l)) (set b₂ q 10) (q + 1) (omega (arith, w.room)) (omega (arith, w.wide)) w.same p

-- the row of a sound state was written to the front of a buffer that holds any
module _ (c : Component) (s : State) (S : T (sound (held c) s)) (buf : List ℕ) (k : length buf ≡ 4095) {n : ℕ} {after : List ℕ}
    (e : (n ≡ length (row_text (held c) s)) × (after ≡ sets buf 0 (row_text (held c) s))) where
  -- the buffer holds it
  row_fits : length (row_text (held c) s) ≤ length buf
  row_fits = omega (arith, row_short (held c) c.prepared.formed s S)

  -- it lies within the buffer
  pub row_room : n ≤ length after
  row_room = omega (arith, row_fits, e.0, ap length e.1, length-sets buf 0 (row_text (held c) s))

  -- where its bytes were put, it was
  pub row_bytes : {out out' : List ℕ} {r : ℕ} → Put out 0 (take n after) r out' → Put out 0 (row_text (held c) s) r out'
  row_bytes p = front_put buf (row_text (held c) s) after n row_fits e.0 e.1 p

-- a log gone through from the fresh state against a component, which holds L
module _ (c : Component) {L : Table} (e : held c ≡ L) (log : List ℕ) (g : Going) (f : g ≡ fresh_going) {x : Ran}
    (p : Passes (passed (held c) g.state g.tally (split_on 10 log)) x) where
  -- the table
  abbrev K : Table
  K = held c

  -- it is well formed
  wf : T (wellformed K)
  wf = true_T _ c.prepared.formed

  -- what the log comes to from the fresh state
  from_fresh : Passes (passed K fresh no_tally (split_on 10 log)) x
  unfolding fresh_going
  from_fresh = rw f at p

  -- where it ends is the answer
  ended : reach_at K x.going.state (refusal_of x.stop) (lines_of x.going.tally) ≡ log_reach L log
  ended = let q = from_fresh in rw (q.going, q.refusal, ← e) (log_ends K wf log)

  -- its state is sound
  pub log_sound : T (sound K x.going.state)
  log_sound = let q = from_fresh in rw q.going (of_sound K _ (passed_sound K wf fresh (start_sound K) no_tally (split_on 10 log)))

  -- its lines can be counted
  pub log_lines : length log ≤ most_count → lines_of x.going.tally ≤ most_count
  log_lines h =
      let q = from_fresh in
      let r : Roomy no_tally (length log + 0) = record { lines = omega arith; opened = omega arith; kept = omega arith; dropped = omega arith; since = omega arith } in
      rw q.going (roomy_lines (passed_roomy K wf fresh no_tally log (length log) 0 (omega arith) r))

  module _ (out pair : List ℕ) {pair' : List ℕ} where
    -- it is refused
    pub log_refused : {n m : ℕ} → n ≡ refusal_of x.stop → (n ≡ 0 → ⊥) → m ≡ lines_of x.going.tally → pair' ≡ pair_over (n ∷ (m + 1) ∷ []) pair → Reaches (log_reach L log) out pair 0 out pair'
    log_refused {n} y z l q = subst (λ y. Reaches y out pair 0 out pair') (ap (λ m. reach_at K x.going.state m (lines_of x.going.tally)) y ∙ ended) (at n z (rw l at q))
      where
        at : (n : ℕ) → (n ≡ 0 → ⊥) → pair' ≡ pair_over (n ∷ (lines_of x.going.tally + 1) ∷ []) pair → Reaches (reach_at K x.going.state n (lines_of x.going.tally)) out pair 0 out pair'
        at zero z q = absurd (z refl)
        at (suc n) z q = record { size = refl; bytes = refl; numbers = q }

    -- its row is put
    pub log_row : {n : ℕ} → n ≡ refusal_of x.stop → {r : ℕ} {out' : List ℕ} → n ≡ 0 → Reaches (row (row_text K x.going.state)) out pair r out' pair' → Reaches (log_reach L log) out pair r out' pair'
    log_row {n} y {r} {out'} z h = subst (λ y. Reaches y out pair r out' pair') (ap (λ m. reach_at K x.going.state m (lines_of x.going.tally)) (sym z ∙ y) ∙ ended) h

-- a table's text and a log
module _ (s log : List ℕ) {out pair pair' : List ℕ} where
  -- the table is accepted
  pub table_fine : {t : rows.Table} → accepts t ≡ read_table s → {n : ℕ} {out' : List ℕ} → Reaches (log_reach (table_of t) log) out pair n out' pair' → Reaches (reach_on s log) out pair n out' pair'
  unfolding reach_on
  table_fine e p = rw (← e) p

  -- it is refused
  pub table_refused : {m n l : ℕ} → says.refused m l ≡ read_table s → n ≡ m → pair' ≡ pair_over (n ∷ l ∷ []) pair → Reaches (reach_on s log) out pair 0 out pair'
  unfolding reach_on
  table_refused e y q = rw (← e, ← y) (record { size = refl; bytes = refl; numbers = q })
