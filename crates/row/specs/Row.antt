-- One row of a table's text: how it is read, and how it is written.
use Rattle.std.specs.Prelude.{ℕ, List, [], ◌∷◌, ◌++◌, Bool, false, ltb, leb, eqb, Option, Some, None, option_and_then}
use Rattle.text.specs.Parts.{pick, split_on, join_on}
use Rattle.text.specs.Number.{read_number, digits}
use Rattle.text.specs.Words.{word_in, word_at}
use Rattle.text.specs.Fields.{most_digits, ether_value, ether_word, read_target, behind}
use Rattle.row.specs.Kinds.{kind_words, mode_words, end_kind, word_of, form_of, kind_in}
use Rattle.row.specs.declared.Form.{Form}
use Rattle.row.specs.declared.Form.TheVariants as form
use Rattle.row.specs.declared.Row.{Row}

-- what a field of a form says
unfoldable pub read_form : Form → List ℕ → Option ℕ
read_form form.Number p = read_number most_digits p
read_form form.Kind p = word_in kind_words p
read_form form.Mode p = word_in mode_words p
read_form form.Target p = read_target p

-- the next field by its form: where a row has no such field none is taken
abbrev pub with_field : Option Form → List (List ℕ) → (ℕ → List (List ℕ) → Option Row) → Option Row
with_field None ps k = k 0 ps
with_field (Some f) [] k = None
with_field (Some f) (p ∷ ps) k = option_and_then (λ v. k v ps) (read_form f p)

-- nothing is left
abbrev pub at_end : List (List ℕ) → Row → Option Row
at_end [] r = Some r
at_end (p ∷ ps) r = None

abbrev pub fields_in : List (List ℕ) → ℕ → Option Row
fields_in ps k =
    with_field (form_of k 0) ps λ a ps₁.
    with_field (form_of k 1) ps₁ λ b ps₂.
    with_field (form_of k 2) ps₂ λ c ps₃.
    at_end ps₃ (record { kind = k; a = a; b = b; c = c })

abbrev pub row_in : List (List ℕ) → Option Row
row_in [] = None
row_in (w ∷ ps) = option_and_then (fields_in ps) (kind_in w)

-- what a line says, without its newline
unfoldable pub read_row : List ℕ → Option Row
read_row s = row_in (split_on 9 s)

-- the field behind the tab at a place, and where it ends
unfoldable pub field_behind : Option Form → List ℕ → ℕ → Option (ℕ × ℕ)
field_behind None s at = Some (0, at)
field_behind (Some f) s at = behind (read_form f) s at

-- how a value of a form is written
abbrev pub value_text : Form → ℕ → List ℕ
value_text form.Number v = digits v
value_text form.Kind v = word_at kind_words v
value_text form.Mode v = word_at mode_words v
value_text form.Target v = pick (eqb v ether_value) ether_word (digits v)

abbrev pub field_text : Option Form → ℕ → List (List ℕ)
field_text None v = []
field_text (Some f) v = value_text f v ∷ []

abbrev pub row_parts : Row → List (List ℕ)
row_parts r =
    word_of r.kind
    ∷ (field_text (form_of r.kind 0) r.a ++ field_text (form_of r.kind 1) r.b ++ field_text (form_of r.kind 2) r.c)

-- the line of a row, without its newline; with it
unfoldable pub row_line : Row → List ℕ
row_line r = join_on 9 (row_parts r)

abbrev pub row_text : Row → List ℕ
row_text r = row_line r ++ 10 ∷ []

-- a field with the tab before it
unfoldable pub tabbed : Option Form → ℕ → List ℕ
tabbed None v = []
tabbed (Some f) v = 9 ∷ value_text f v

-- a value that a field of a form can say
unfoldable pub form_ok : Option Form → ℕ → Bool
form_ok None v = eqb v 0
form_ok (Some form.Number) v = ltb v ether_value
form_ok (Some form.Kind) v = ltb v 3
form_ok (Some form.Mode) v = ltb v 2
form_ok (Some form.Target) v = leb v ether_value

-- a row that a line can say
unfoldable pub row_ok : Row → Bool
row_ok r =
    pick (leb r.kind end_kind)
    (pick (form_ok (form_of r.kind 0) r.a)
    (pick (form_ok (form_of r.kind 1) r.b) (form_ok (form_of r.kind 2) r.c) false) false) false
