-- The promises of the turns leave no choice: one result, and one content of each lent buffer.
use Prim.Native.Nat.{ℕ}
use mathlib.Core.Bool.{Bool}
use mathlib.Core.List.{List}
use mathlib.Core.Path.{◌≡◌, sym, ap, ◌∙◌}
use Rattle.text.proofs.Puts.{put_unique}
use Rattle.model.specs.Tables.{Table}
use Rattle.engine.specs.declared.Going.{Going}
use Rattle.streaming.specs.Lent.{Judged, Opens}
use Rattle.streaming.specs.declared.Turn.{Turn}
use Rattle.streaming.specs.declared.Opened.{Opened}

-- `judge_block`
pub judge_block_unique : (K : Table) (g : Going) (ended : Bool) (block : List ℕ) (have : ℕ) (out : List ℕ) {r₁ r₂ : Turn} {b₁ b₂ o₁ o₂ : List ℕ}
    → Judged K g ended block have out r₁ b₁ o₁ → Judged K g ended block have out r₂ b₂ o₂ → (r₁ ≡ r₂) × (b₁ ≡ b₂) × (o₁ ≡ o₂)
judge_block_unique K g ended block have out {r₁} {r₂} j k =
    let t = put_unique j.told k.told in
    let h = put_unique j.held k.held in
    let a : r₁.going ≡ r₂.going = j.going ∙ sym k.going in
    let o : r₁.over ≡ r₂.over = j.over ∙ sym k.over in (
      ap (λ x. record { going = x; told = r₁.told; held = r₁.held; over = r₁.over }) a
          ∙ ap (λ x. record { going = r₂.going; told = x; held = r₁.held; over = r₁.over }) t.0
          ∙ ap (λ x. record { going = r₂.going; told = r₂.told; held = x; over = r₁.over }) h.0
          ∙ ap (λ x. record { going = r₂.going; told = r₂.told; held = r₂.held; over = x }) o,
      h.1,
      t.1,
    )

-- `open_table`
pub open_table_unique : (hand block out : List ℕ) {r₁ r₂ : Opened} {b₁ b₂ o₁ o₂ : List ℕ} → Opens hand block out r₁ b₁ o₁ → Opens hand block out r₂ b₂ o₂
    → (r₁ ≡ r₂) × (b₁ ≡ b₂) × (o₁ ≡ o₂)
open_table_unique hand block out {r₁} {r₂} j k =
    let t = put_unique j.told k.told in
    let h = put_unique j.held k.held in
    let a : r₁.table ≡ r₂.table = j.table ∙ sym k.table in (
      ap (λ x. record { table = x; told = r₁.told; held = r₁.held }) a
          ∙ ap (λ x. record { table = r₂.table; told = x; held = r₁.held }) t.0
          ∙ ap (λ x. record { table = r₂.table; told = r₂.told; held = x }) h.0,
      h.1,
      t.1,
    )
