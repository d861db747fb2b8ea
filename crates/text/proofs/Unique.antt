-- A promise that names a value leaves no choice.
use mathlib.Core.Path.{◌≡◌, sym, ◌∙◌}

-- Two results that both equal a definition's value are equal. It is the uniqueness of every promise of the form `r ≡ definition`.
pub one_value : {A : Type 0} {d a b : A} → a ≡ d → b ≡ d → a ≡ b
one_value p q = p ∙ sym q
