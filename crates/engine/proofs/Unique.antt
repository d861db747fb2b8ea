-- The promise of a run leaves no choice, be it up to the first row that does not go by or past them all: one result for a log, a place in it, what is carried
-- there and a buffer, and one content of the buffer.
use Prim.Native.Nat.{ℕ, ◌+◌, ◌≤◌}
use mathlib.Core.Bool.{false}
use mathlib.Core.List.{List}
use mathlib.Core.Path.{◌≡◌, sym, ap, ◌∙◌}
use native.Mathlib.Omega.{arith}
use lib.ListN.{length, drop, length-drop}
use lib.Seq.{sets}
use Rattle.text.specs.Parts.{join_on}
use Rattle.text.proofs.Parts.{join_split}
use Rattle.model.specs.Tables.{Table}
use Rattle.conflicts.specs.Busy.{busy_in}
use Rattle.managing.specs.Listed.{listed_in}
use Rattle.engine.specs.Play.{Played, played_to, pieces, Ready, is_row, Runs, Pauses}
use Rattle.engine.specs.declared.Stop.{Stop}
use Rattle.engine.specs.declared.Going.{Going}
use Rattle.engine.specs.declared.Ran.{Ran}
use Rattle.engine.proofs.Pausing.{left_over}

-- the lines left of a log name the place that they are left from
same_place_lem : (log : List ℕ) {m n : ℕ} → m ≤ length log → n ≤ length log → pieces log m ≡ pieces log n → m ≡ n
same_place_lem log {m} {n} h k e =
    let d : drop m log ≡ drop n log = sym (join_split 10 (drop m log)) ∙ ap (join_on 10) e ∙ join_split 10 (drop n log) in
    omega (arith, length-drop m log, length-drop n log, ap length d)

-- what is carried from run to run is named by its state and its tally
same_going : {K : Table} {g h : Going} → Ready K g → Ready K h → g.state ≡ h.state → g.tally ≡ h.tally → g ≡ h
same_going r q s c =
    let b = r.busy ∙ ap busy_in s ∙ sym q.busy in
    let l = r.listed ∙ ap listed_in s ∙ sym q.listed in
    λ i. record { state = s i; busy = b i; listed = l i; tally = c i }

-- so what a log comes to names the rows told, what is carried on, the place reached and the reason
module _ {K : Table} (log : List ℕ) {text row : List ℕ} {g h : Going} {m n : ℕ} {v w : Stop} where
  same_stand : m ≤ length log → n ≤ length log → Ready K g → Ready K h
      → played_to text g.state g.tally v (pieces log m) ≡ played_to row h.state h.tally w (pieces log n) → (text ≡ row) × (g ≡ h) × (m ≡ n) × (v ≡ w)
  same_stand a b r q e = (
    ap (λ (p : Played). p.text) e,
    same_going r q (ap (λ (p : Played). p.state) e) (ap (λ (p : Played). p.tally) e),
    same_place_lem log a b (ap (λ (p : Played). p.rest) e),
    ap (λ (p : Played). p.stop) e,
  )

-- and that names the result
module _ {K : Table} {log : List ℕ} {from : ℕ} {g : Going} {buf : List ℕ} {place : ℕ} {r₁ r₂ : Ran} {after₁ after₂ : List ℕ} (h : Runs K log from g buf place r₁ after₁) (k : Runs K log from g buf place r₂ after₂) where
  same_result : played_to h.text r₁.going.state r₁.going.tally r₁.stop (pieces log r₁.at) ≡ played_to k.text r₂.going.state r₂.going.tally r₂.stop (pieces log r₂.at)
      → (r₁ ≡ r₂) × (after₁ ≡ after₂)
  same_result e =
      let s = same_stand log h.inside k.inside h.ready k.ready e in
      let f = h.filled ∙ ap (λ l. place + length l) s.0 ∙ sym k.filled in
      (λ i. record { going = s.1 i; at = s.2 i; filled = f i; stop = s.3 i }, h.bytes ∙ ap (sets buf place) s.0 ∙ sym k.bytes)

  -- two results that leave at no row are equal, and so are two contents of the buffer
  pub runs_unique : is_row r₁.stop ≡ false → is_row r₂.stop ≡ false → (r₁ ≡ r₂) × (after₁ ≡ after₂)
  runs_unique a b =
      same_result (sym (left_over K h.text r₁.going.state r₁.going.tally _ r₁.stop (pieces log r₁.at) a) ∙ h.played
      ∙ sym k.played ∙ left_over K k.text r₂.going.state r₂.going.tally _ r₂.stop (pieces log r₂.at) b)

-- two results of a run up to the first row that does not go by are equal, and so are two contents of its buffer
pub pauses_unique : {K : Table} {log : List ℕ} {from : ℕ} {g : Going} {buf : List ℕ} {place : ℕ} {r₁ r₂ : Ran} {after₁ after₂ : List ℕ}
    → Pauses K log from g buf place r₁ after₁ → Pauses K log from g buf place r₂ after₂ → (r₁ ≡ r₂) × (after₁ ≡ after₂)
pauses_unique h k = same_result h.runs k.runs (h.paused ∙ sym k.paused)
