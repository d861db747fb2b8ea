-- "Log lines carry the action names of document 000, 6.2.1, plus `wait` and `cx`, in the table's field and number form."
use Rattle.std.specs.Prelude.{ℕ, ◌+◌, ◌-◌, List, [], ◌∷◌, length, take, ltb, eqb, Option, Some, None, option_and_then}
use Rattle.text.specs.declared.Set.{Set}
use Rattle.text.specs.Parts.{pick, split_on, first_at}
use Rattle.text.specs.Number.{read_number}
use Rattle.text.specs.Set.{read_set}
use Rattle.text.specs.Words.{word_in}
use Rattle.text.specs.Fields.{most_digits, read_target}
use Rattle.model.specs.Tables.{target_of}
use Rattle.model.specs.declared.Place.TheVariants.{Codel}
use Rattle.model.specs.declared.TaskStep.TheVariants.{St, Fm}
use Rattle.model.specs.declared.ActStep.TheVariants.{Lm, Ia, Ea, Cx, Fa}
use Rattle.model.specs.declared.Step.{Step}
use Rattle.model.specs.declared.Step.TheVariants.{Wait, Sm, OfTask, OfAct}

-- 11: "line over 63 bytes with its newline"
abbrev pub longest_line : ℕ
longest_line = 63

-- "a `state` row, one line of at most 4,095 bytes" (document 02), its newline with it: no line of a log is longer
abbrev pub longest_row : ℕ
longest_row = 4095

-- `wait`, `st`, `sm`, `lm`, `ia`, `ea`, `cx`, `fa`, `fm`
unfoldable pub step_words : List ℕ
step_words = 119 ∷ 97 ∷ 105 ∷ 116 ∷ 9 ∷ 115 ∷ 116 ∷ 9 ∷ 115 ∷ 109 ∷ 9 ∷ 108 ∷ 109 ∷ 9 ∷ 105 ∷ 97 ∷ 9 ∷ 101 ∷ 97 ∷ 9 ∷ 99 ∷ 120 ∷ 9 ∷ 102 ∷ 97 ∷ 9 ∷ 102 ∷ 109 ∷ []

-- how many digits a set has; what a line says is stated over any number of them
abbrev pub set_digits : ℕ
set_digits = 16

-- a field as a number, as a set of d digits, as a codel or `ether`
abbrev pub a_number : List ℕ → Option ℕ
a_number p = read_number most_digits p

abbrev pub a_set : ℕ → List ℕ → Option Set
a_set d p = read_set d p

abbrev pub a_place : List ℕ → Option ℕ
a_place p = read_target p

-- where a field has good form, what follows from its value
abbrev pub given : {B : Type 0} → Option ℕ → (ℕ → Option B) → Option B
given n go = option_and_then go n

-- the fields are just one, of this form
abbrev pub only : (List ℕ → Option ℕ) → List (List ℕ) → Option ℕ
only form [] = None
only form (p ∷ []) = form p
only form (p ∷ q ∷ ps) = None

-- the first field, of this form, with the fields behind it
abbrev pub headed : {B : Type 0} → (List ℕ → Option ℕ) → List (List ℕ) → (ℕ → List (List ℕ) → Option B) → Option B
headed form [] go = None
headed form (p ∷ ps) go = given (form p) (λ v. go v ps)

-- just two fields, both numbers
abbrev pub number_pair : List (List ℕ) → Option (ℕ × ℕ)
number_pair ps = headed a_number ps λ a qs. given (only a_number qs) (λ b. Some (a, b))

abbrev pub one_number : List (List ℕ) → (ℕ → Step) → Option Step
one_number ps go = given (only a_number ps) (λ a. Some (go a))

abbrev pub two_numbers : List (List ℕ) → (ℕ → ℕ → Step) → Option Step
two_numbers ps go = headed a_number ps λ a qs. one_number qs (go a)

-- `sm` task N R: behind the task just two fields, both sets
abbrev pub manages : ℕ → Option Set → Option Set → Option Step
manages t (Some n) (Some r) = Some (Sm t n r)
manages t (Some n) None = None
manages t None r = None

abbrev pub sets_line : ℕ → ℕ → List (List ℕ) → Option Step
sets_line d t [] = None
sets_line d t (p ∷ []) = None
sets_line d t (p ∷ q ∷ []) = manages t (a_set d p) (a_set d q)
sets_line d t (p ∷ q ∷ o ∷ ps) = None

abbrev pub manager_line : ℕ → List (List ℕ) → Option Step
manager_line d ps = headed a_number ps λ t qs. sets_line d t qs

-- `fa` A target
abbrev pub leaving_line : List (List ℕ) → Option Step
leaving_line ps =
    headed a_number ps λ a qs.
    given (only a_place qs) (λ c. Some (OfAct a (Fa (target_of c))))

-- the steps of one number and of two, by their words' places
abbrev pub one_of : ℕ → ℕ → Step
one_of k a = pick (eqb k 0) (Wait a) (pick (eqb k 1) (OfTask a St) (pick (eqb k 4) (OfAct a Ia) (pick (eqb k 6) (OfAct a Cx) (OfTask a Fm))))

abbrev pub two_of : ℕ → ℕ → ℕ → Step
two_of k a b = pick (eqb k 3) (OfAct b (Lm a)) (OfAct a (Ea (Codel b)))

-- the step of a word with its fields
abbrev pub step_of : ℕ → ℕ → List (List ℕ) → Option Step
step_of d k ps =
    pick (eqb k 2) (manager_line d ps)
    (pick (eqb k 3) (two_numbers ps (two_of k))
    (pick (eqb k 5) (two_numbers ps (two_of k))
    (pick (eqb k 7) (leaving_line ps)
    (one_number ps (one_of k)))))

abbrev pub on_word : ℕ → Option ℕ → List (List ℕ) → Option Step
on_word d (Some k) ps = step_of d k ps
on_word d None ps = None

abbrev pub step_in : ℕ → List (List ℕ) → Option Step
step_in d [] = None
step_in d (w ∷ ps) = on_word d (word_in step_words w) ps

-- what a line says, without its newline, where sets have d digits
unfoldable pub read_step : ℕ → List ℕ → Option Step
read_step d s = pick (ltb longest_line (length s + 1)) None (step_in d (split_on 9 s))

-- what the bytes of one line say, its newline with them: "line over 63 bytes with its newline, line without newline, or not a step"
unfoldable pub read_line : ℕ → List ℕ → Option Step
read_line d s = pick (eqb (first_at s 0 10 + 1) (length s)) (read_step d (take (length s - 1) s)) None
