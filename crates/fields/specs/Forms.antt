-- What one field of a `state` row says, by its form, and how its value is written: "sets as in `sm`, yes as 1, managing as 1, `manager` or
-- `ether` where no number stands, numbers to 13 digits".
use Rattle.std.specs.Prelude.{ℕ, ◌^◌, Bool, List, [], ◌∷◌, ltb, leb, eqb, Option, Some, None, option_map}
use Rattle.text.specs.declared.Set.{Set}
use Rattle.text.specs.Parts.{pick}
use Rattle.text.specs.Number.{read_number, digits}
use Rattle.text.specs.Set.{read_set, set_text}
use Rattle.text.specs.Words.{same_list}
use Rattle.text.specs.Fields.{ether_word}
use Rattle.logs.specs.Lines.{set_digits}

-- the forms: a number, yes or no, who holds, a set, where an activity is
abbrev pub a_number : ℕ
a_number = 0

abbrev pub a_yes : ℕ
a_yes = 1

abbrev pub a_holder : ℕ
a_holder = 2

abbrev pub a_set : ℕ
a_set = 3

abbrev pub a_place : ℕ
a_place = 4

-- "numbers to 13 digits"; and what stands for `manager` and `ether`, above each of them
abbrev pub most_digits : ℕ
most_digits = 13

abbrev pub no_number : ℕ
no_number = 10000000000000

-- `manager`
unfoldable pub manager_word : List ℕ
manager_word = 109 ∷ 97 ∷ 110 ∷ 97 ∷ 103 ∷ 101 ∷ 114 ∷ []

-- "`manager` or `ether` where no number stands"
unfoldable pub word_or : List ℕ → List ℕ → Option ℕ
word_or word p = pick (same_list p word) (Some no_number) (read_number most_digits p)

-- "yes as 1", and no as 0
abbrev pub yes_of : Option ℕ → Option ℕ
yes_of (Some v) = pick (ltb v 2) (Some v) None
yes_of None = None

-- "sets as in `sm`", as a number whose bits are the members
abbrev pub set_of : Option Set → Option ℕ
set_of f = option_map (λ n. n.low) f

-- what a field of a form says
unfoldable pub read_form : ℕ → List ℕ → Option ℕ
read_form form p =
    pick (eqb form a_holder) (word_or manager_word p)
    (pick (eqb form a_place) (word_or ether_word p)
    (pick (eqb form a_set) (set_of (read_set set_digits p))
    (pick (eqb form a_yes) (yes_of (read_number 1 p)) (read_number most_digits p))))

-- how a value of a form is written
unfoldable pub word_text : List ℕ → ℕ → List ℕ
word_text word v = pick (eqb v no_number) word (digits v)

unfoldable pub form_text : ℕ → ℕ → List ℕ
form_text form v =
    pick (eqb form a_holder) (word_text manager_word v)
    (pick (eqb form a_place) (word_text ether_word v)
    (pick (eqb form a_set) (set_text set_digits (record { low = v; high = 0 })) (digits v)))

-- a value that a field of a form can say
unfoldable pub form_ok : ℕ → ℕ → Bool
form_ok form v =
    pick (eqb form a_holder) (leb v no_number)
    (pick (eqb form a_place) (leb v no_number)
    (pick (eqb form a_set) (ltb v (2 ^ 64))
    (pick (eqb form a_yes) (ltb v 2) (ltb v no_number))))
