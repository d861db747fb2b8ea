-- Fields taken from a line one after another, from the tab at a place on: what is taken is what the parts behind the tab are read as.
use Prim.Native.Nat.{ℕ, suc, ◌+◌, ◌≤◌}
use mathlib.Core.Path.{◌≡◌, refl, sym, ap, ◌∙◌}
use mathlib.Core.List.{List, [], ◌∷◌, ◌++◌}
use native.Mathlib.Omega.{arith}
use native.Mathlib.Nat.{add-zero}
use lib.ListN.{length, set, length-set}
use lib.Seq.{sets}
use Rattle.std.specs.Prelude.{Option, Some, None}
use Rattle.std.proofs.lemmas.Option.{none-some}
use Rattle.text.specs.Parts.{parts_from}
use Rattle.text.specs.Fields.{got_at, behind}
use Rattle.text.proofs.Fields.{behind_parts}
use Rattle.fields.specs.Forms.{read_form}
use Rattle.fields.specs.Fields.{part, none, read_fields, Taken, on_field, took}

-- bad form is no place
bad_at : {e : ℕ} → None ≡ Some e → ⊥
bad_at u = none-some _ u

-- what is taken behind what was taken
abbrev on_end : Option ℕ → List ℕ → (ℕ → Taken) → Taken
on_end (Some e) b go = go e
on_end None b go = record { end = None; values = b }

-- the fields of two descriptions are taken one after the other
took_both : (fs gs line : List ℕ) (at i : ℕ) (b : List ℕ)
    → took (fs ++ gs) line at i b ≡ on_end (took fs line at i b).end (took fs line at i b).values (λ e. took gs line e (i + length fs) (took fs line at i b).values)
unfolding took
took_both [] gs line at i b = rw (add-zero i)
took_both (f ∷ fs) gs line at i b = go (λ v e. took_both fs gs line e (suc i) (set b i v)) (behind (read_form f) line at)
  where
    go : ((v e : ℕ) → took (fs ++ gs) line e (suc i) (set b i v)
        ≡ on_end (took fs line e (suc i) (set b i v)).end (took fs line e (suc i) (set b i v)).values (λ x. took gs line x (suc i + length fs) (took fs line e (suc i) (set b i v)).values))
        → (g : Option (ℕ × ℕ)) → on_field g (λ v e. took (fs ++ gs) line e (suc i) (set b i v)) b
        ≡ on_end (on_field g (λ v e. took fs line e (suc i) (set b i v)) b).end (on_field g (λ v e. took fs line e (suc i) (set b i v)) b).values
        (λ x. took gs line x (i + suc (length fs)) (on_field g (λ v e. took fs line e (suc i) (set b i v)) b).values)
    go others (Some (v, e)) = let q : suc i + length fs ≡ i + suc (length fs) = omega arith in rw (← q) (others v e)
    go others None = refl

module _ (fs gs line : List ℕ) (at i : ℕ) (b : List ℕ) where
  -- where the first are there, the others are taken from where they end on, and stored behind their values
  pub took_append : (e : ℕ) (b' : List ℕ) → took fs line at i b ≡ record { end = Some e; values = b' } → took (fs ++ gs) line at i b ≡ took gs line e (i + length fs) b'
  took_append e b' u = took_both fs gs line at i b ∙ rw u

  -- where one of the first has bad form, no other is taken
  pub took_append_bad : (took fs line at i b).end ≡ None → took (fs ++ gs) line at i b ≡ took fs line at i b
  took_append_bad u = took_both fs gs line at i b ∙ rw u

-- as many values are stored as before
pub took_length : (fs line : List ℕ) (at i : ℕ) (b : List ℕ) → length (took fs line at i b).values ≡ length b
unfolding took
took_length [] line at i b = refl
took_length (f ∷ fs) line at i b = go (λ v e. took_length fs line e (suc i) (set b i v)) (behind (read_form f) line at)
  where
    go : ((v e : ℕ) → length (took fs line e (suc i) (set b i v)).values ≡ length (set b i v))
        → (g : Option (ℕ × ℕ)) → length (on_field g (λ v e. took fs line e (suc i) (set b i v)) b).values ≡ length b
    go others (Some (v, e)) = others v e ∙ length-set b i v
    go others None = refl

-- the values that were taken: the parts behind the tab are read as them, they are stored from the place on, one for each form, and the last
-- ends within the line
pub record Values (fs line : List ℕ) (at i : ℕ) (b : List ℕ) (e : ℕ) (b' : List ℕ) : Type 0 where
  pub vs : List ℕ
  pub reads : read_fields fs (parts_from 9 line (at + 1)) ≡ part vs (parts_from 9 line (e + 1))
  pub stored : b' ≡ sets b i vs
  pub long : length vs ≡ length fs
  pub ends : e ≤ length line

-- where every field is there
pub took_is : (fs line : List ℕ) (at i : ℕ) (b : List ℕ) (e : ℕ) (b' : List ℕ) → at ≤ length line
    → took fs line at i b ≡ record { end = Some e; values = b' } → Values fs line at i b e b'
unfolding took read_fields
took_is [] line at i b e b' h u =
    let p : Some at ≡ Some e = ap (λ x. x.end) u in
    let q : b ≡ b' = ap (λ x. x.values) u in
    let z : at ≡ e = cc in
    record { vs = []; reads = rw z; stored = sym q; long = refl; ends = rw z at h }
took_is (f ∷ fs) line at i b e b' h u =
    behind_parts (read_form f) line at
    (λ p q. absurd (bad_at (ap (λ x. x.end) (rw q at u))))
    (λ p x l c q. go p x c (λ v. took_is fs line x (suc i) (set b i v) e b' l) (read_form f p) refl (rw q at u))
  where
    go : (p : List ℕ) (x : ℕ) → parts_from 9 line (at + 1) ≡ p ∷ parts_from 9 line (x + 1)
        → ((v : ℕ) → took fs line x (suc i) (set b i v) ≡ record { end = Some e; values = b' } → Values fs line x (suc i) (set b i v) e b')
        → (n : Option ℕ) → read_form f p ≡ n → on_field (got_at n x) (λ v y. took fs line y (suc i) (set b i v)) b ≡ record { end = Some e; values = b' }
        → Values (f ∷ fs) line at i b e b'
    go p x c others (Some v) q u =
        let r = others v u in
        record { vs = v ∷ r.vs; reads = rw (c, q, r.reads); stored = r.stored; long = ap suc r.long; ends = r.ends }
    go p x c others None q u = absurd (bad_at (ap (λ y. y.end) u))

-- where one has bad form or is missing, the parts are read as none
pub took_bad : (fs line : List ℕ) (at i : ℕ) (b : List ℕ) → (took fs line at i b).end ≡ None → read_fields fs (parts_from 9 line (at + 1)) ≡ none
unfolding took read_fields
took_bad [] line at i b u = absurd (bad_at (sym u))
took_bad (f ∷ fs) line at i b u =
    behind_parts (read_form f) line at
    (λ p q. rw p)
    (λ p x l c q. go p x c (λ v. took_bad fs line x (suc i) (set b i v)) (read_form f p) refl (rw q at u))
  where
    go : (p : List ℕ) (x : ℕ) → parts_from 9 line (at + 1) ≡ p ∷ parts_from 9 line (x + 1)
        → ((v : ℕ) → (took fs line x (suc i) (set b i v)).end ≡ None → read_fields fs (parts_from 9 line (x + 1)) ≡ none)
        → (n : Option ℕ) → read_form f p ≡ n → (on_field (got_at n x) (λ v y. took fs line y (suc i) (set b i v)) b).end ≡ None
        → read_fields (f ∷ fs) (parts_from 9 line (at + 1)) ≡ none
    go p x c others (Some v) q u = rw (c, q, others v u)
    go p x c others None q u = rw (c, q)

-- the last field ends within the line
pub took_ends : (fs line : List ℕ) (at i : ℕ) (b : List ℕ) (e : ℕ) → at ≤ length line → (took fs line at i b).end ≡ Some e → e ≤ length line
took_ends fs line at i b e h u =
    (took_is fs line at i b e (took fs line at i b).values h (ap (λ x. record { end = x; values = (took fs line at i b).values }) u)).ends
