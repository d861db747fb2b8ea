-- `read_short` meets its contract.
use mathlib.Core.Path.{◌≡◌, refl, sym}
use native.Mathlib.Omega.{arith}
use borrow.Author.Tests.{ne_eqb}
use Rattle.std.specs.Prelude.{option_map}
use Rattle.std.proofs.Common.{rules}
use Rattle.text.specs.Words.{word_in}
use Rattle.model.specs.declared.Place.TheVariants.{Codel}
use Rattle.model.specs.declared.TaskStep.TheVariants.{St, Fm}
use Rattle.model.specs.declared.ActStep.TheVariants.{Lm, Ia, Ea, Cx}
use Rattle.model.specs.declared.Step.TheVariants.{OfTask, OfAct}
use Rattle.logs.specs.Lines.{step_words}
use Rattle.logs.proofs.Words.{word_place, letterless}
use Rattle.logs.proofs.Fielding.{one_said, two_said}
use Rattle.logs.proofs.Reading.{says, says_none}
use Rattle.logs.proofs.read_short.Goals as goal

pub returns-in-115-eq116 : goal.returns-in-115-eq116
returns-in-115-eq116 c =
    let e : c.map.result ≡ option_map (λ t. OfTask t St) c.only_field.result = search rules in
    says _ _ c.requires _ _ c.in-115-eq116.is-0 c.in-115-eq116.is-1 _ 1 (sym (word_place 1 (omega arith))) _ (one_said _ _ _ (rw c.only_field.ensures at e))

pub returns-in-115-eq109 : goal.returns-in-115-eq109
returns-in-115-eq109 c =
    says _ _ c.requires _ _ c.in-115-eq109.is-0 c.in-115-eq109.is-1 _ 2 (sym (word_place 2 (omega arith))) _ c.read_manager.ensures

pub returns-in-108-eq109 : goal.returns-in-108-eq109
returns-in-108-eq109 c =
    let e : c.map-in-108-eq109.result ≡ option_map (λ n. OfAct n.1 (Lm n.0)) c.two_fields.result = search rules in
    says _ _ c.requires _ _ c.in-108-eq109.is-0 c.in-108-eq109.is-1 _ 3 (sym (word_place 3 (omega arith))) _ (two_said _ _ _ (rw c.two_fields.ensures at e))

pub returns-in-105-eq97 : goal.returns-in-105-eq97
returns-in-105-eq97 c =
    let e : c.map-in-105-eq97.result ≡ option_map (λ a. OfAct a Ia) c.only_field-in-105-eq97.result = search rules in
    says _ _ c.requires _ _ c.in-105-eq97.is-0 c.in-105-eq97.is-1 _ 4 (sym (word_place 4 (omega arith))) _ (one_said _ _ _ (rw c.only_field-in-105-eq97.ensures at e))

pub returns-in-101-eq97 : goal.returns-in-101-eq97
returns-in-101-eq97 c =
    let e : c.map-in-101-eq97.result ≡ option_map (λ n. OfAct n.0 (Ea (Codel n.1))) c.two_fields-in-101-eq97.result = search rules in
    says _ _ c.requires _ _ c.in-101-eq97.is-0 c.in-101-eq97.is-1 _ 5 (sym (word_place 5 (omega arith))) _ (two_said _ _ _ (rw c.two_fields-in-101-eq97.ensures at e))

pub returns-in-99-eq120 : goal.returns-in-99-eq120
returns-in-99-eq120 c =
    let e : c.map-in-99-eq120.result ≡ option_map (λ a. OfAct a Cx) c.only_field-in-99-eq120.result = search rules in
    says _ _ c.requires _ _ c.in-99-eq120.is-0 c.in-99-eq120.is-1 _ 6 (sym (word_place 6 (omega arith))) _ (one_said _ _ _ (rw c.only_field-in-99-eq120.ensures at e))

pub returns-in-102-eq97 : goal.returns-in-102-eq97
returns-in-102-eq97 c =
    says _ _ c.requires _ _ c.in-102-eq97.is-0 c.in-102-eq97.is-1 _ 7 (sym (word_place 7 (omega arith))) _ c.read_leaving.ensures

pub returns-in-102-eq109 : goal.returns-in-102-eq109
returns-in-102-eq109 c =
    let e : c.map-in-102-eq109.result ≡ option_map (λ t. OfTask t Fm) c.only_field-in-102-eq109.result = search rules in
    says _ _ c.requires _ _ c.in-102-eq109.is-0 c.in-102-eq109.is-1 _ 8 (sym (word_place 8 (omega arith))) _ (one_said _ _ _ (rw c.only_field-in-102-eq109.ensures at e))

pub returns-in_default : goal.returns-in_default
unfolding word_in step_words
returns-in_default c = says_none _ _ c.requires _ _ c.in_default.is-0 refl _ (rw (ne_eqb _ _ c.in_default.is-1.0.1, ne_eqb _ _ c.in_default.is-1.1))

pub returns-in_default-2 : goal.returns-in_default-2
unfolding word_in step_words
returns-in_default-2 c = says_none _ _ c.requires _ _ c.in_default.is-0 refl _ (rw (ne_eqb _ _ c.in_default.is-1.1))

pub returns-in_default-3 : goal.returns-in_default-3
unfolding word_in step_words
returns-in_default-3 c = says_none _ _ c.requires _ _ c.in_default.is-0 refl _ (rw (ne_eqb _ _ c.in_default.is-1.1))

pub returns-in_default-4 : goal.returns-in_default-4
unfolding word_in step_words
returns-in_default-4 c = says_none _ _ c.requires _ _ c.in_default.is-0 refl _ (rw (ne_eqb _ _ c.in_default.is-1.1))

pub returns-in_default-5 : goal.returns-in_default-5
unfolding word_in step_words
returns-in_default-5 c = says_none _ _ c.requires _ _ c.in_default.is-0 refl _ (rw (ne_eqb _ _ c.in_default.is-1.1))

pub returns-in_default-6 : goal.returns-in_default-6
unfolding word_in step_words
returns-in_default-6 c = says_none _ _ c.requires _ _ c.in_default.is-0 refl _ (rw (ne_eqb _ _ c.in_default.is-1.0.1, ne_eqb _ _ c.in_default.is-1.1))

pub returns-in_default-7 : goal.returns-in_default-7
returns-in_default-7 c = says_none _ _ c.requires _ _ refl refl _ (search (letterless))
