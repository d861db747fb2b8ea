-- The bytes of a quoted text, so that what a page prints stands in the definitions as it is printed.
use Rattle.std.specs.Prelude.{ℕ, List, [], ◌∷◌}
use Prim.Native.Char.{code}
use Prim.Native.String.{String, [] as none, ◌∷◌ as ◌then◌}

abbrev pub quoted : String → List ℕ
quoted none = []
quoted (c then s) = code c ∷ quoted s
