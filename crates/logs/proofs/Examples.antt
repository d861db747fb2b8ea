-- Lines of a log and what they say, by computation: those of document 01's page, and some that are no step.
use Prim.Native.Nat.{ℕ}
use mathlib.Core.Path.{◌≡◌, refl}
use mathlib.Core.List.{List, [], ◌∷◌, map}
use Rattle.std.specs.Prelude.{Option, Some, None}
use Rattle.text.specs.Digits.{value_of}
use Rattle.text.specs.Number.{read_number}
use Rattle.text.specs.Set.{read_set, empty_set}
use Rattle.text.specs.Words.{word_in}
use Rattle.text.specs.Fields.{ether_word}
use Rattle.model.specs.declared.Step.{Step}
use Rattle.model.specs.declared.Place.TheVariants.{Ether, Codel}
use Rattle.model.specs.declared.TaskStep.TheVariants.{St, Fm}
use Rattle.model.specs.declared.ActStep.TheVariants.{Lm, Ia, Ea, Cx, Fa}
use Rattle.model.specs.declared.Step.TheVariants.{Wait, Sm, OfTask, OfAct}
use Rattle.logs.specs.Lines.{step_words, set_digits, read_step, read_line}

-- a line's bytes, and what it says
abbrev pub examples : List (List ℕ × Option Step)
examples =
    -- wait 10
    (119 ∷ 97 ∷ 105 ∷ 116 ∷ 9 ∷ 49 ∷ 48 ∷ 10 ∷ [], Some (Wait 10)) ∷
    -- st 0
    (115 ∷ 116 ∷ 9 ∷ 48 ∷ 10 ∷ [], Some (OfTask 0 St)) ∷
    -- sm 0 0000000000000001 0000000000000000
    (115 ∷ 109 ∷ 9 ∷ 48 ∷ 9 ∷ 48 ∷ 48 ∷ 48 ∷ 48 ∷ 48 ∷ 48 ∷ 48 ∷ 48 ∷ 48 ∷ 48 ∷ 48 ∷ 48 ∷ 48 ∷ 48 ∷ 48 ∷ 49 ∷ 9 ∷ 48 ∷ 48 ∷ 48 ∷ 48 ∷ 48 ∷ 48 ∷ 48 ∷ 48 ∷ 48 ∷ 48 ∷ 48 ∷ 48 ∷ 48 ∷ 48 ∷ 48 ∷ 48 ∷ 10 ∷ [], Some (Sm 0 (record { low = 1; high = 0 }) empty_set)) ∷
    -- lm 0 0
    (108 ∷ 109 ∷ 9 ∷ 48 ∷ 9 ∷ 48 ∷ 10 ∷ [], Some (OfAct 0 (Lm 0))) ∷
    -- ea 0 0
    (101 ∷ 97 ∷ 9 ∷ 48 ∷ 9 ∷ 48 ∷ 10 ∷ [], Some (OfAct 0 (Ea (Codel 0)))) ∷
    -- fa 0 ether
    (102 ∷ 97 ∷ 9 ∷ 48 ∷ 9 ∷ 101 ∷ 116 ∷ 104 ∷ 101 ∷ 114 ∷ 10 ∷ [], Some (OfAct 0 (Fa Ether))) ∷
    -- fa 0 7
    (102 ∷ 97 ∷ 9 ∷ 48 ∷ 9 ∷ 55 ∷ 10 ∷ [], Some (OfAct 0 (Fa (Codel 7)))) ∷
    -- ia 0
    (105 ∷ 97 ∷ 9 ∷ 48 ∷ 10 ∷ [], Some (OfAct 0 Ia)) ∷
    -- cx 0
    (99 ∷ 120 ∷ 9 ∷ 48 ∷ 10 ∷ [], Some (OfAct 0 Cx)) ∷
    -- fm 0
    (102 ∷ 109 ∷ 9 ∷ 48 ∷ 10 ∷ [], Some (OfTask 0 Fm)) ∷
    -- ea 0 ether
    (101 ∷ 97 ∷ 9 ∷ 48 ∷ 9 ∷ 101 ∷ 116 ∷ 104 ∷ 101 ∷ 114 ∷ 10 ∷ [], None) ∷
    -- wait 010
    (119 ∷ 97 ∷ 105 ∷ 116 ∷ 9 ∷ 48 ∷ 49 ∷ 48 ∷ 10 ∷ [], None) ∷
    -- wait 12345678901
    (119 ∷ 97 ∷ 105 ∷ 116 ∷ 9 ∷ 49 ∷ 50 ∷ 51 ∷ 52 ∷ 53 ∷ 54 ∷ 55 ∷ 56 ∷ 57 ∷ 48 ∷ 49 ∷ 10 ∷ [], None) ∷
    -- fa 0 : nothing behind the last tab
    (102 ∷ 97 ∷ 9 ∷ 48 ∷ 9 ∷ 10 ∷ [], None) ∷
    -- nothing at all
    (10 ∷ [], None) ∷
    -- st 0 : a tab at the end
    (115 ∷ 116 ∷ 9 ∷ 48 ∷ 9 ∷ 10 ∷ [], None) ∷
    -- sm 0 000000000000000A 0000000000000000
    (115 ∷ 109 ∷ 9 ∷ 48 ∷ 9 ∷ 48 ∷ 48 ∷ 48 ∷ 48 ∷ 48 ∷ 48 ∷ 48 ∷ 48 ∷ 48 ∷ 48 ∷ 48 ∷ 48 ∷ 48 ∷ 48 ∷ 48 ∷ 65 ∷ 9 ∷ 48 ∷ 48 ∷ 48 ∷ 48 ∷ 48 ∷ 48 ∷ 48 ∷ 48 ∷ 48 ∷ 48 ∷ 48 ∷ 48 ∷ 48 ∷ 48 ∷ 48 ∷ 48 ∷ 10 ∷ [], None) ∷
    -- st 0: no newline
    (115 ∷ 116 ∷ 9 ∷ 48 ∷ [], None) ∷
    -- st 0 fm 0: two lines
    (115 ∷ 116 ∷ 9 ∷ 48 ∷ 10 ∷ 102 ∷ 109 ∷ 9 ∷ 48 ∷ 10 ∷ [], None) ∷
    []

-- each line reads so
pub examples_read : map (λ (e : List ℕ × Option Step). read_line set_digits e.0) examples ≡ map (λ (e : List ℕ × Option Step). e.1) examples
unfolding read_line read_step step_words ether_word word_in read_number read_set value_of
examples_read = refl
