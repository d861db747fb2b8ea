-- The promises leave no choice: one result, and one content of each lent buffer.
use Prim.Native.Nat.{ℕ}
use mathlib.Core.Bool.{Bool}
use mathlib.Core.List.{List}
use mathlib.Core.Path.{◌≡◌, sym, ap, ◌∙◌}
use Rattle.text.proofs.Puts.{put_unique}
use Rattle.model.specs.Tables.{Table}
use Rattle.engine.specs.declared.Going.{Going}
use Rattle.reaching.specs.Reaching.{reach_on, Reaches}
use Rattle.reaching.specs.Passing.{is_over, Turned}
use Rattle.reaching.specs.declared.Turn.{Turn}

-- `reached`
pub reached_unique : (table log buf pair : List ℕ) {r₁ r₂ : ℕ} {b₁ b₂ p₁ p₂ : List ℕ} → Reaches (reach_on table log) buf pair r₁ b₁ p₁ → Reaches (reach_on table log) buf pair r₂ b₂ p₂
    → (r₁ ≡ r₂) × (b₁ ≡ b₂) × (p₁ ≡ p₂)
reached_unique table log buf pair h k = (h.size ∙ sym k.size, h.bytes ∙ sym k.bytes, h.numbers ∙ sym k.numbers)

-- `reach_block`
pub reach_block_unique : (K : Table) (g : Going) (ended : Bool) (block : List ℕ) (have : ℕ) {r₁ r₂ : Turn} {b₁ b₂ : List ℕ} → Turned K g ended block have r₁ b₁ → Turned K g ended block have r₂ b₂
    → (r₁ ≡ r₂) × (b₁ ≡ b₂)
reach_block_unique K g ended block have {r₁} {r₂} j k =
    let h = put_unique j.held k.held in
    let a : r₁.going ≡ r₂.going = j.going ∙ sym k.going in
    let n : r₁.refusal ≡ r₂.refusal = j.refusal ∙ sym k.refusal in
    let o : r₁.over ≡ r₂.over = j.over ∙ ap (is_over ended) n ∙ sym k.over in (
      ap (λ x. record { going = x; refusal = r₁.refusal; held = r₁.held; over = r₁.over }) a
          ∙ ap (λ x. record { going = r₂.going; refusal = x; held = r₁.held; over = r₁.over }) n
          ∙ ap (λ x. record { going = r₂.going; refusal = r₂.refusal; held = x; over = r₁.over }) h.0
          ∙ ap (λ x. record { going = r₂.going; refusal = r₂.refusal; held = r₂.held; over = x }) o,
      h.1,
    )
