-- How long a line that reads as a step is, and how large the step's numbers and sets are.
use Prim.Native.Nat.{ℕ, ◌+◌, ◌-◌, ◌^◌, ◌≤◌, ◌<◌}
use mathlib.Core.Path.{◌≡◌}
use mathlib.Core.List.{List}
use native.Mathlib.Omega.{arith}
use lib.ListN.{length, take}
use lib.Seq.{length-take-le}
use lib.Dec.{ltb, eqb}
use borrow.Author.Tests.{ltb-false, eqb-false}
use Rattle.std.specs.Prelude.{Some}
use Rattle.text.specs.Parts.{first_at}
use Rattle.text.specs.Words.{same_list}
use Rattle.text.specs.Fields.{most_digits, ether_value, ether_word}
use Rattle.text.proofs.Picks.{cases, order, picked, passed}
use Rattle.text.proofs.Numbers.{number_below}
use Rattle.text.proofs.Sets.{Held, set_text_read}
use Rattle.model.specs.Tables.{target_of}
use Rattle.model.specs.declared.Place.{Place}
use Rattle.model.specs.declared.Place.TheVariants.{Ether, Codel}
use Rattle.model.specs.declared.ActStep.{ActStep}
use Rattle.model.specs.declared.ActStep.TheVariants.{Lm, Ia, Ea, Cx, Fa}
use Rattle.model.specs.declared.Step.{Step}
use Rattle.model.specs.declared.Step.TheVariants.{Wait, Sm, OfTask, OfAct}
use Rattle.logs.specs.Lines.{longest_line, a_place, read_step, read_line}
use Rattle.logs.proofs.Shapes.{no_step_lem, either, Shapes, shaped}

-- the numbers of a step are below 10 ^ 10, d digits hold its sets, and no line says `ea` to ether: of a target, of what an activity's step
-- does, of any step
abbrev pub TargetWithin : Place → Type 0
TargetWithin Ether = Unit {0}
TargetWithin (Codel c) = c < 10 ^ 10

abbrev pub ActWithin : ActStep → Type 0
ActWithin (Lm t) = t < 10 ^ 10
ActWithin Ia = Unit {0}
ActWithin (Ea Ether) = ⊥
ActWithin (Ea (Codel c)) = c < 10 ^ 10
ActWithin Cx = Unit {0}
ActWithin (Fa p) = TargetWithin p

abbrev pub Within : ℕ → Step → Type 0
Within d (Wait v) = v < 10 ^ 10
Within d (Sm t n r) = (t < 10 ^ 10) × Held d n × Held d r
Within d (OfTask t k) = t < 10 ^ 10
Within d (OfAct a k) = (a < 10 ^ 10) × ActWithin k

place_most : (p : List ℕ) (v : ℕ) → a_place p ≡ Some v → v ≤ ether_value
place_most p v u =
    cases (same_list p ether_word)
    (λ e. let q : Some ether_value ≡ Some v = rw e at u in let z : ether_value ≡ v = cc in omega arith)
    (λ e. omega (arith, number_below most_digits p v (rw e at u)))

target_within : (c : ℕ) → c ≤ ether_value → TargetWithin (target_of c)
target_within c m =
    cases (eqb c ether_value)
    (λ g. rw g tt)
    (λ g. let o = eqb-false c ether_value g in rw g (order c ether_value (λ l. l) (λ l. absurd (o (omega arith)))))

within : (d : ℕ) → Shapes d (λ s x. Within d x)
within d = record {
  one = λ w p k a i e.
      let h = number_below most_digits p a e in
      either (Within d) (eqb k 0) _ _ h (either (Within d) (eqb k 1) _ _ h (either (Within d) (eqb k 4) _ _ (h, tt) (either (Within d) (eqb k 6) _ _ (h, tt) h)));
  two = λ w p q k a b i e f.
      let h = number_below most_digits p a e in
      let g = number_below most_digits q b f in
      either (Within d) (eqb k 3) _ _ (g, h) (h, g);
  manager = λ w p q s k t n r i e f g. (number_below most_digits p t e, (set_text_read d q n f).1, (set_text_read d s r g).1);
  leaving = λ w p q k a c i e f. (number_below most_digits p a e, target_within c (place_most q c f));
}

-- a line that reads as a step, without its newline
pub read_step_bounds : (d : ℕ) (s : List ℕ) (x : Step) → read_step d s ≡ Some x → (length s < 63) × Within d x
unfolding read_step
read_step_bounds d s x u =
    let t = passed (ltb longest_line (length s + 1)) no_step_lem u in
    (omega (arith, ltb-false longest_line (length s + 1) t.0), shaped (within d) x s u)

-- and with it
pub read_line_bounds : (d : ℕ) (s : List ℕ) (x : Step) → read_line d s ≡ Some x → (length s ≤ 63) × Within d x
unfolding read_line
read_line_bounds d s x u =
    let t = picked (eqb (first_at s 0 10 + 1) (length s)) no_step_lem u in
    let h = read_step_bounds d (take (length s - 1) s) x t.1 in
    let l = length-take-le (length s - 1) s (omega arith) in
    (omega arith, h.1)
