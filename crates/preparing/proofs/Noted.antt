-- Each activity's start and stop: what the codels of these kinds, each alone of its kind, leave in the index.
use Prim.Native.Nat.{ℕ, zero, suc, ◌+◌, ◌*◌, ◌≤◌, ◌<◌}
use mathlib.Core.Bool.{Bool}
use mathlib.Core.List.{List}
use mathlib.Core.Logic.{⊎_elim}
use mathlib.Core.Path.{◌≡◌, refl, sym, ◌∙◌}
use native.Mathlib.Omega.{arith}
use lib.ListN.{length, get_or}
use lib.Dec.{T, eqb}
use borrow.Author.Tests.{eqb-true, eq-eqb, ne_eqb}
use Rattle.text.proofs.Picks.{cases, order, false_true}
use Rattle.model.specs.Limits.{most_acts}
use Rattle.model.specs.Tables.{Table, is_start, is_stop}
use Rattle.model.specs.Rules.{first, stop_of}
use Rattle.model.specs.declared.Place.TheVariants.{Ether, Codel}
use Rattle.model.proofs.Tests.{T_true, true_T, same_test, last_or}
use Rattle.prepared.specs.Prepared.{nowhere, starts_at, stops_at, index_length, no_stop, stop_in}
use Rattle.preparing.specs.Filling.{kind_place, kinds_noted}
use Rattle.preparing.proofs.Stages.{Off, kind_at, kinds_off, kinds_last}
use Rattle.preparing.proofs.Ordered.{Is, is_kind_lem, kind_is}

-- a kind past `main` is noted as `main` is
pub place_past : (z a : ℕ) → 2 ≤ z → kind_place z a ≡ nowhere
place_past z a h = rw (ne_eqb z 0 (λ e. omega arith), ne_eqb z 1 (λ e. omega arith))

-- every place is among the starts and stops, or the one that nothing asks for
pub place_in : (z a p : ℕ) → a < most_acts → Off starts_at (2 * most_acts) p → (p ≡ nowhere → ⊥) → p ≡ kind_place z a → ⊥
place_in z a p h off ne q =
    cases (eqb z 0)
    (λ e. off a (omega arith) (rw e at q))
    (λ e. let r = rw e at q in cases (eqb z 1) (λ f. let s = rw f at r in off (most_acts + a) (omega arith) (omega arith)) (λ f. ne (rw f at r)))

-- so it is in the index
pub place_low : (z a : ℕ) → a < most_acts → kind_place z a < index_length
place_low z a h = order (kind_place z a) index_length (λ l. l) (λ l. absurd (place_in z a (kind_place z a) h (λ k b e. omega arith) (λ e. omega arith) refl))

-- the places of two codels are the same only where their kinds and activities are
place_is : (z a y b : ℕ) → z < 2 → a < most_acts → b < most_acts → kind_place z a ≡ kind_place y b → (b ≡ a) × (y ≡ z)
place_is zero a y b h i j q =
    cases (eqb y 0)
    (λ e. let r = rw e at q in (omega arith, eqb-true y 0 e))
    (λ e. let r = rw e at q in cases (eqb y 1) (λ f. let s = rw f at r in absurd (omega arith)) (λ f. let s = rw f at r in absurd (omega arith)))
place_is (suc zero) a y b h i j q =
    cases (eqb y 0)
    (λ e. let r = rw e at q in absurd (omega arith))
    (λ e. let r = rw e at q in cases (eqb y 1) (λ f. let s = rw f at r in (omega arith, eqb-true y 1 f)) (λ f. let s = rw f at r in absurd (omega arith)))
place_is (suc (suc z)) a y b h i j q = absurd (omega arith)

-- the first number that passes a test, or none does
first_cases : {P : Type 0} (n : ℕ) (p : ℕ → Bool) → (first n p ≡ Ether → ((c : ℕ) → c < n → T (p c) → ⊥) → P) → ((c : ℕ) → first n p ≡ Codel c → c < n → T (p c) → P) → P
unfolding first
first_cases zero p f g = f refl (λ c h t. omega arith)
first_cases (suc n) p f g =
    first_cases n p
    (λ e none. cases (p n)
    (λ q. g n (rw (e, q)) (omega arith) (true_T _ q))
    (λ q. f (rw (e, q)) (λ c h t. ⊎_elim (λ r. false_true (sym q ∙ T_true _ (rw r at t))) (λ l. none c l t) (last_or c n h))))
    (λ c e h t. g c (rw e) (omega arith) t)

module _ (K : Table) (l : List ℕ) (n a z : ℕ) (kind : z < 2) (act : a < most_acts) (few : (c : ℕ) → c < n → K.owner c < most_acts) where
  -- the one codel of a kind is noted
  noted : (s : ℕ) → kind_place z a < length l → s < n → Is K a z s → ((c : ℕ) → c < n → Is K a z c → c ≡ s) → get_or (kinds_noted K l n) (kind_place z a) 0 ≡ s
  noted s room h p alone =
      let e : kind_at K s ≡ kind_place z a = rw (p.0, p.1) in
      rw e at (kinds_last K l s n h (rw e room) (λ c b g q. let r = alone c g (place_is z a (K.kind c) (K.owner c) kind act (few c g) (sym e ∙ q)) in omega arith))

  -- where there is none, the place is as it was
  unnoted : ((c : ℕ) → c < n → Is K a z c → ⊥) → get_or (kinds_noted K l n) (kind_place z a) 0 ≡ get_or l (kind_place z a) 0
  unnoted none = kinds_off K l n (kind_place z a) (λ c g q. none c g (place_is z a (K.kind c) (K.owner c) kind act (few c g) q))

-- where each codel is alone of its kind, the index has each activity's start and stop
module _ (K : Table) (l : List ℕ) (a : ℕ) (act : a < most_acts) (few : (c : ℕ) → c < K.ncodels → K.owner c < most_acts) (room : length l ≡ index_length) where
  abbrev after : List ℕ
  after = kinds_noted K l K.ncodels

  -- the start is the one codel of its kind
  pub start_noted : (s c : ℕ) → s < K.ncodels → T (is_start K a s) → c < K.ncodels → ((d e : ℕ) → d < K.ncodels → e < K.ncodels → Is K a 0 d → Is K a 0 e → d ≡ e) → is_start K a c ≡ eqb c (get_or after (starts_at + a) 0)
  start_noted s c h t b alone =
      let p = kind_is K a 0 s t in
      rw (noted K l K.ncodels a 0 (omega arith) act few s (omega arith) h p (λ d g q. alone d s g h q p))
      (same_test _ _ (λ u. true_T _ (eq-eqb c s (alone c s b h (kind_is K a 0 c u) p))) (λ u. rw (eqb-true c s (T_true _ u)) t))

  -- the stop is the one codel of its kind, if there is one
  pub stop_noted : K.ncodels ≤ no_stop → get_or l (stops_at + a) 0 ≡ no_stop → ((c d : ℕ) → c < K.ncodels → d < K.ncodels → Is K a 1 c → Is K a 1 d → c ≡ d) → stop_in (get_or after (stops_at + a) 0) ≡ stop_of K a
  stop_noted most none alone =
      first_cases K.ncodels (is_stop K a)
      (λ e no. rw (unnoted K l K.ncodels a 1 (omega arith) act few (λ c h p. no c h (is_kind_lem K a 1 c p)), none, e))
      (λ s e h t.
      let p = kind_is K a 1 s t in
      rw (noted K l K.ncodels a 1 (omega arith) act few s (omega arith) h p (λ c g q. alone c s g h q p), e, ne_eqb s no_stop (λ q. omega arith)))
