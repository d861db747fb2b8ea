-- A row whose fields without number say one of their words: what a line that reads, and what a stored row, keeps to.
use Rattle.std.specs.Prelude.{ℕ, suc, ◌<◌, [], ◌∷◌, Bool, true, false, ◌≡◌, get_or, Option, Some, None}
use Rattle.model.specs.Limits.{most_ticks}
use Rattle.row.specs.Kinds.{stored_kinds, form_of}
use Rattle.row.specs.declared.Form.{Form}
use Rattle.row.specs.declared.Form.TheVariants as form
use Rattle.row.specs.declared.Row.{Row}

-- a form that says a number, or `ether` in its place
abbrev pub is_number : Option Form → Bool
is_number None = false
is_number (Some form.Number) = true
is_number (Some form.Kind) = false
is_number (Some form.Mode) = false
is_number (Some form.Target) = true

-- what the values of a form stay below in an accepted row, `ether` apart
abbrev pub cap_of : Option Form → ℕ
cap_of None = 1
cap_of (Some form.Number) = suc most_ticks
cap_of (Some form.Kind) = 3
cap_of (Some form.Mode) = 2
cap_of (Some form.Target) = suc most_ticks

-- a row's field by its number
abbrev pub value_at : Row → ℕ → ℕ
value_at r j = get_or (r.a ∷ r.b ∷ r.c ∷ []) j 0

-- a row of a stored kind in which each field without number says one of its words, or nothing where there is none
pub record Worded (r : Row) : Type 0 where
  pub kind : r.kind < stored_kinds
  pub words : (j : ℕ) → j < 3 → is_number (form_of r.kind j) ≡ false → value_at r j < cap_of (form_of r.kind j)
