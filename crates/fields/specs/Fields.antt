-- Fields one after another, as a description lists their forms: how they are read, and how they are written.
use Rattle.std.specs.Prelude.{ℕ, zero, suc, Bool, true, false, ◌≡◌, List, [], ◌∷◌, ◌++◌, set, Option, Some, None}
use Rattle.text.specs.Parts.{pick}
use Rattle.text.specs.Fields.{behind}
use Rattle.fields.specs.Forms.{read_form, form_text, form_ok}

-- a description so many times over
unfoldable pub repeated : ℕ → List ℕ → List ℕ
repeated zero fs = []
repeated (suc k) fs = fs ++ repeated k fs

-- the values of the first fields, and the fields behind them; none where one has bad form or is missing
pub data Part : Type 0 where
  part : List ℕ → List (List ℕ) → Part
  none : Part

abbrev pub with_value : Option ℕ → Part → Part
with_value (Some v) (part vs ps) = part (v ∷ vs) ps
with_value (Some v) none = none
with_value None r = none

unfoldable pub read_fields : List ℕ → List (List ℕ) → Part
read_fields [] ps = part [] ps
read_fields (f ∷ fs) [] = none
read_fields (f ∷ fs) (p ∷ ps) = with_value (read_form f p) (read_fields fs ps)

-- the fields as they are written; each with the tab before it
unfoldable pub field_parts : List ℕ → List ℕ → List (List ℕ)
field_parts [] vs = []
field_parts (f ∷ fs) [] = []
field_parts (f ∷ fs) (v ∷ vs) = form_text f v ∷ field_parts fs vs

unfoldable pub fields_text : List ℕ → List ℕ → List ℕ
fields_text [] vs = []
fields_text (f ∷ fs) [] = []
fields_text (f ∷ fs) (v ∷ vs) = 9 ∷ form_text f v ++ fields_text fs vs

-- values that fields of these forms can say, one for each
unfoldable pub values_ok : List ℕ → List ℕ → Bool
values_ok [] [] = true
values_ok [] (v ∷ vs) = false
values_ok (f ∷ fs) [] = false
values_ok (f ∷ fs) (v ∷ vs) = pick (form_ok f v) (values_ok fs vs) false

-- as the code reads them: from the tab at a place of a line on, the values stored from a place on, up to the first of bad form; where it
-- ended, and what is stored then
pub record Taken : Type 0 where
  pub end : Option ℕ
  pub values : List ℕ

abbrev pub on_field : Option (ℕ × ℕ) → (ℕ → ℕ → Taken) → List ℕ → Taken
on_field (Some (v, e)) go b = go v e
on_field None go b = record { end = None; values = b }

unfoldable pub took : List ℕ → List ℕ → ℕ → ℕ → List ℕ → Taken
took [] line at i b = record { end = Some at; values = b }
took (f ∷ fs) line at i b = on_field (behind (read_form f) line at) (λ v e. took fs line e (suc i) (set b i v)) b

-- an answer and a buffer are what was taken
pub record Took (x : Taken) (r : Option ℕ) (after : List ℕ) : Type 0 where
  pub end : r ≡ x.end
  pub values : after ≡ x.values
