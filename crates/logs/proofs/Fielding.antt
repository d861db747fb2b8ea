-- What a line says by its fields, one law for each exit over what the calls ensure.
use Prim.Native.Nat.{ℕ, ◌+◌, ◌-◌, ◌≤◌, ◌<◌}
use mathlib.Core.Path.{◌≡◌, refl, sym, ◌∙◌}
use mathlib.Core.List.{List, [], ◌∷◌}
use native.Mathlib.Omega.{arith}
use lib.ListN.{length, take, drop}
use borrow.Author.Tests.{le-ltb}
use Rattle.std.specs.Prelude.{Option, Some, None, option_map}
use Rattle.text.specs.Parts.{parts_from}
use Rattle.text.specs.Fields.{behind}
use Rattle.text.proofs.Parts.{parts_none}
use Rattle.text.proofs.Seeking.{part_rest}
use Rattle.text.proofs.Fields.{behind_parts}
use Rattle.model.specs.declared.Step.{Step}
use Rattle.model.specs.Tables.{target_of}
use Rattle.model.specs.declared.Place.{Place}
use Rattle.model.specs.declared.ActStep.TheVariants.{Fa}
use Rattle.model.specs.declared.Step.TheVariants.{OfAct}
use Rattle.logs.specs.Lines.{a_number, only, headed, given, number_pair, one_number, two_numbers}
use Rattle.logs.proofs.Forms.{on_number_lem, Tabless, only_whole}

-- the field behind the tab at a place: where it is the only one
module _ (form : List ℕ → Option ℕ) (s : List ℕ) (at : ℕ) where
  pub only_gone : length s ≤ at → None ≡ only form (parts_from 9 s (at + 1))
  only_gone h = let k : length s < at + 1 = omega arith in rw (parts_none 9 s (at + 1) k)

  pub only_rest : Tabless form → (n : Option ℕ) → n ≡ form (take (length s - (at + 1)) (drop (at + 1) s)) → at < length s → n ≡ only form (parts_from 9 s (at + 1))
  only_rest t n e h =
      let k : at + 1 ≤ length s = omega arith in
      rw (le-ltb _ _ k) (rw (part_rest s (at + 1)) at e ∙ sym (only_whole form t (drop (at + 1) s)))

-- what a line says by its first field and the others
abbrev on_got : {B : Type 0} → List ℕ → Option (ℕ × ℕ) → (ℕ → List (List ℕ) → Option B) → Option B
on_got s (Some (v, p)) go = go v (parts_from 9 s (p + 1))
on_got s None go = None

headed_got : {B : Type 0} (form : List ℕ → Option ℕ) (s : List ℕ) (at : ℕ) (go : ℕ → List (List ℕ) → Option B) → headed form (parts_from 9 s (at + 1)) go ≡ on_got s (behind form s at) go
headed_got form s at go = behind_parts form s at (λ p b. rw (p, b)) (λ p e l q b. rw (q, b) (on_number_lem (form p) (λ v u. rw u) (λ u. rw u)))

module _ {B : Type 0} (form : List ℕ → Option ℕ) (s : List ℕ) (at : ℕ) (g : Option (ℕ × ℕ)) (e : g ≡ behind form s at) where
  pub headed_bad : g ≡ None → (go : ℕ → List (List ℕ) → Option B) → None ≡ headed form (parts_from 9 s (at + 1)) go
  headed_bad u go = rw (headed_got form s at go, ← e, u)

  pub headed_is : (v p : ℕ) → g ≡ Some (v, p) → (r : Option B) (go : ℕ → List (List ℕ) → Option B) → r ≡ go v (parts_from 9 s (p + 1)) → r ≡ headed form (parts_from 9 s (at + 1)) go
  headed_is v p u r go q = rw (headed_got form s at go, ← e, u) q

-- what it says by its last
module _ {B : Type 0} (n w : Option ℕ) (e : n ≡ w) where
  pub given_bad : n ≡ None → (go : ℕ → Option B) → None ≡ given w go
  given_bad u go = rw (← e, u)

  pub given_is : (v : ℕ) → n ≡ Some v → (r : Option B) (go : ℕ → Option B) → r ≡ go v → r ≡ given w go
  given_is v u r go q = rw (← e, u) q

-- where there is none
pub given_gone : (form : List ℕ → Option ℕ) (s : List ℕ) (at : ℕ) → length s ≤ at → (go : ℕ → Option Step) → None ≡ given (only form (parts_from 9 s (at + 1))) go
given_gone form s at h = given_bad _ _ (only_gone form s at h) refl

-- the step of the only field, and of just two
pub one_said : (ps : List (List ℕ)) (go : ℕ → Step) (r : Option Step) → r ≡ option_map go (only a_number ps) → r ≡ one_number ps go
one_said ps go r e = e ∙ on_number_lem (only a_number ps) (λ v u. rw u) (λ u. rw u)

pub two_said : (ps : List (List ℕ)) (go : ℕ → ℕ → Step) (r : Option Step) → r ≡ option_map (λ n. go n.0 n.1) (number_pair ps) → r ≡ two_numbers ps go
two_said [] go r e = e
two_said (p ∷ ps) go r e =
    e ∙ on_number_lem (a_number p) (λ v u. on_number_lem (only a_number ps) (λ w z. rw (u, z)) (λ z. rw (u, z))) (λ u. rw u)

-- the step of a place
pub leaving : (a c : ℕ) (p : Place) → p ≡ target_of c → Some (OfAct a (Fa p)) ≡ Some (OfAct a (Fa (target_of c)))
leaving a c p e = rw e
