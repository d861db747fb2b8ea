-- The rows of a table's text, as the page lists them: each row's word, its fields by what they say, and how many rows there may be.
use Rattle.std.specs.Prelude.{ℕ, List, [], ◌∷◌, get_or, slice_get, Option}
use Rattle.text.specs.Words.{index_from}
use Rattle.model.specs.Limits.{most_tasks, most_acts, most_codels, most_edges, most_mutexes}
use Rattle.row.specs.declared.Form.{Form}
use Rattle.row.specs.declared.Form.TheVariants as form
use Rattle.row.specs.declared.Kind.{Kind}

-- "row", "fields", "most rows"
pub record RowKind : Type 0 where
  pub word : List ℕ
  pub fields : List Form
  pub most : ℕ

abbrev pub row : List ℕ → List Form → ℕ → RowKind
row word fields most = record { word = word; fields = fields; most = most }

-- `task`, `act`, `codel`, `edge`, `mutex`, `end`: a row's kind is its place here
abbrev pub kinds : List RowKind
kinds =
    row (116 ∷ 97 ∷ 115 ∷ 107 ∷ []) (form.Number ∷ form.Number ∷ []) most_tasks
    ∷ row (97 ∷ 99 ∷ 116 ∷ []) (form.Number ∷ []) most_acts
    ∷ row (99 ∷ 111 ∷ 100 ∷ 101 ∷ 108 ∷ []) (form.Number ∷ form.Kind ∷ form.Number ∷ []) most_codels
    ∷ row (101 ∷ 100 ∷ 103 ∷ 101 ∷ []) (form.Number ∷ form.Target ∷ form.Mode ∷ []) most_edges
    ∷ row (109 ∷ 117 ∷ 116 ∷ 101 ∷ 120 ∷ []) (form.Number ∷ form.Number ∷ []) most_mutexes
    ∷ row (101 ∷ 110 ∷ 100 ∷ []) (form.Number ∷ []) 1
    ∷ []

-- how many kinds of rows a table stores: those before `end`
abbrev pub stored_kinds : ℕ
stored_kinds = 5

abbrev pub end_kind : ℕ
end_kind = stored_kinds

-- how many fields a row has at most
abbrev pub most_fields : ℕ
most_fields = 3

-- past the last kind there is none
abbrev pub none : RowKind
none = row [] [] 0

abbrev pub kind_at : ℕ → RowKind
kind_at k = get_or kinds k none

-- what an entry of the code says
abbrev pub said : Kind → RowKind
said x = row x.word.now x.fields.now x.most

unfoldable pub word_of : ℕ → List ℕ
word_of k = (kind_at k).word

unfoldable pub most_of : ℕ → ℕ
most_of k = (kind_at k).most

-- what field j of a row of a kind says, if it has such a field
unfoldable pub form_of : ℕ → ℕ → Option Form
form_of k j = slice_get (kind_at k).fields j

-- which kind a row's word says
abbrev pub words_in : List RowKind → List (List ℕ)
words_in [] = []
words_in (x ∷ xs) = x.word ∷ words_in xs

unfoldable pub kind_in : List ℕ → Option ℕ
kind_in p = index_from 0 p (words_in kinds)

-- the words of a field
unfoldable pub kind_words : List ℕ
kind_words = 115 ∷ 116 ∷ 97 ∷ 114 ∷ 116 ∷ 9 ∷ 115 ∷ 116 ∷ 111 ∷ 112 ∷ 9 ∷ 109 ∷ 97 ∷ 105 ∷ 110 ∷ []

unfoldable pub mode_words : List ℕ
mode_words = 114 ∷ 117 ∷ 110 ∷ 9 ∷ 112 ∷ 97 ∷ 117 ∷ 115 ∷ 101 ∷ []
