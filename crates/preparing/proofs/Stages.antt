-- What each filling leaves: as many numbers as before, every place as it was where it writes nothing, and else what it wrote there last.
use Prim.Native.Nat.{ℕ, zero, suc, ◌+◌, ◌*◌, ◌≤◌, ◌<◌}
use mathlib.Core.List.{List}
use mathlib.Core.Path.{◌≡◌, refl, ap, ◌∙◌}
use native.Mathlib.Omega.{arith}
use lib.ListN.{length, get_or, set, length-set}
use lib.Seq.{get_or-set_same, get_or-set_other}
use Rattle.text.proofs.Picks.{order}
use Rattle.model.specs.Limits.{most_codels}
use Rattle.model.specs.Tables.{Table}
use Rattle.prepared.specs.Prepared.{safe_at, pairs_from_at, pairs_end_at}
use Rattle.preparing.specs.Filling.{filled, counted, ended, kind_place, kinds_noted, pair_noted, pairs_noted}

-- what every step from j up to n leaves as it was
still : {A : Type 0} (f : ℕ → A) (j n : ℕ) → j ≤ n → ((i : ℕ) → j ≤ i → i < n → f (suc i) ≡ f i) → f n ≡ f j
still f j zero h same = let e : zero ≡ j = omega arith in ap f e
still f j (suc n) h same =
    order j (suc n)
    (λ l. same n (omega arith) (omega arith) ∙ still f j n (omega arith) (λ i a b. same i a (omega arith)))
    (λ l. let e : suc n ≡ j = omega arith in ap f e)

-- a list filled step by step, one place each
module _ (s : ℕ → List ℕ) (to what : ℕ → ℕ) (step : (i : ℕ) → s (suc i) ≡ set (s i) (to i) (what i)) where
  step_length : (n : ℕ) → length (s n) ≡ length (s 0)
  step_length n = still (λ i. length (s i)) 0 n (omega arith) (λ i a b. rw (step i, length-set))

  step_off : (j n p : ℕ) → j ≤ n → ((i : ℕ) → j ≤ i → i < n → p ≡ to i → ⊥) → get_or (s n) p 0 ≡ get_or (s j) p 0
  step_off j n p h off = still (λ i. get_or (s i) p 0) j n h (λ i a b. rw (step i) (get_or-set_other (s i) (to i) p (what i) 0 (off i a b)))

  step_last : (j n : ℕ) → j < n → to j < length (s 0) → ((i : ℕ) → j < i → i < n → to j ≡ to i → ⊥) → get_or (s n) (to j) 0 ≡ what j
  step_last j n h room off =
      step_off (suc j) n (to j) h off ∙ rw (step j) (get_or-set_same (s j) (to j) (what j) 0 (rw (step_length j) room))

-- place p is none of the n from a place on
abbrev pub Off : ℕ → ℕ → ℕ → Type 0
Off at n p = (k : ℕ) → k < n → p ≡ at + k → ⊥

-- the counts of the kinds
module _ (of : ℕ → ℕ) (l : List ℕ) where
  pub counted_length : (n : ℕ) → length (counted of l n) ≡ length l
  unfolding counted
  counted_length = step_length (counted of l) (λ k. k) of (λ k. refl)

  pub counted_off : (n p : ℕ) → n ≤ p → get_or (counted of l n) p 0 ≡ get_or l p 0
  unfolding counted
  counted_off n p h = step_off (counted of l) (λ k. k) of (λ k. refl) 0 n p (omega arith) (λ k a b e. omega arith)

  pub counted_at : (n k : ℕ) → k < n → k < length l → get_or (counted of l n) k 0 ≡ of k
  unfolding counted
  counted_at n k h room = step_last (counted of l) (λ j. j) of (λ j. refl) k n h room (λ j a b e. omega arith)

-- counts that agree
pub counted_same : (f g : ℕ → ℕ) (l : List ℕ) (n : ℕ) → ((k : ℕ) → k < n → f k ≡ g k) → counted f l n ≡ counted g l n
unfolding counted
counted_same f g l zero h = refl
counted_same f g l (suc n) h = rw (counted_same f g l n (λ k b. h k (omega arith)), h n (omega arith))

-- numbers made v
module _ (l : List ℕ) (at v : ℕ) where
  pub filled_length : (n : ℕ) → length (filled l at v n) ≡ length l
  unfolding filled
  filled_length = step_length (filled l at v) (λ i. at + i) (λ i. v) (λ i. refl)

  pub filled_off : (n p : ℕ) → Off at n p → get_or (filled l at v n) p 0 ≡ get_or l p 0
  unfolding filled
  filled_off n p off = step_off (filled l at v) (λ i. at + i) (λ i. v) (λ i. refl) 0 n p (omega arith) (λ i a b. off i b)

  pub filled_at : (n i : ℕ) → i < n → at + i < length l → get_or (filled l at v n) (at + i) 0 ≡ v
  unfolding filled
  filled_at n i h room = step_last (filled l at v) (λ j. at + j) (λ j. v) (λ j. refl) i n h room (λ j a b e. omega arith)

-- rows noted where the row that each belongs to has its end
module _ (of : ℕ → ℕ) (at : ℕ) (l : List ℕ) where
  pub ended_length : (n : ℕ) → length (ended of at l n) ≡ length l
  unfolding ended
  ended_length = step_length (ended of at l) (λ i. at + of i) (λ i. i + 1) (λ i. refl)

  pub ended_off : (n m p : ℕ) → ((e : ℕ) → e < n → of e < m) → Off at m p → get_or (ended of at l n) p 0 ≡ get_or l p 0
  unfolding ended
  ended_off n m p few off = step_off (ended of at l) (λ i. at + of i) (λ i. i + 1) (λ i. refl) 0 n p (omega arith) (λ i a b. off (of i) (few i b))

-- where a codel is noted
abbrev pub kind_at : Table → ℕ → ℕ
kind_at K c = kind_place (K.kind c) (K.owner c)

-- codels noted, of which the last at a place stays there; mutex rows noted
module _ (K : Table) (l : List ℕ) where
  pub kinds_length : (n : ℕ) → length (kinds_noted K l n) ≡ length l
  unfolding kinds_noted
  kinds_length = step_length (kinds_noted K l) (kind_at K) (λ c. c) (λ c. refl)

  pub kinds_off : (n p : ℕ) → ((c : ℕ) → c < n → p ≡ kind_at K c → ⊥) → get_or (kinds_noted K l n) p 0 ≡ get_or l p 0
  unfolding kinds_noted
  kinds_off n p off = step_off (kinds_noted K l) (kind_at K) (λ c. c) (λ c. refl) 0 n p (omega arith) (λ c a b. off c b)

  pub kinds_last : (c n : ℕ) → c < n → kind_at K c < length l → ((d : ℕ) → c < d → d < n → kind_at K c ≡ kind_at K d → ⊥) → get_or (kinds_noted K l n) (kind_at K c) 0 ≡ c
  unfolding kinds_noted
  kinds_last = step_last (kinds_noted K l) (kind_at K) (λ c. c) (λ c. refl)

  pub pairs_length : (n : ℕ) → length (pairs_noted K l n) ≡ length l
  unfolding pairs_noted
  pairs_length n = still (λ i. length (pairs_noted K l i)) 0 n (omega arith) (λ i a b. simp length-set)

-- both codels of each of the first n mutex rows have their places
abbrev pub Few : Table → ℕ → Type 0
Few K n = (m : ℕ) → m < n → ((K.mutex m).lo < most_codels) × ((K.mutex m).hi < most_codels)

-- a mutex row leaves every place but four
pub pair_off : (m lo hi p : ℕ) (l : List ℕ) → (p ≡ safe_at + hi → ⊥) → (p ≡ safe_at + lo → ⊥) → (p ≡ pairs_end_at + lo → ⊥) → (p ≡ pairs_from_at + lo → ⊥) → get_or (pair_noted m lo hi l) p 0 ≡ get_or l p 0
pair_off m lo hi p l u v w x = simp get_or-set_other

-- so what is no codel's place stays
pub pairs_off : (K : Table) (l : List ℕ) (n p : ℕ) → Few K n → Off safe_at most_codels p → Off pairs_from_at (2 * most_codels) p → get_or (pairs_noted K l n) p 0 ≡ get_or l p 0
unfolding pairs_noted
pairs_off K l n p few safe pair =
    still (λ i. get_or (pairs_noted K l i) p 0) 0 n (omega arith) (λ i a b.
    let lo = (K.mutex i).lo in
    let hi = (K.mutex i).hi in
    let f = few i b in
    pair_off i lo hi p (pairs_noted K l i) (safe hi f.1) (safe lo f.0) (λ e. pair (most_codels + lo) (omega (arith, f.0)) (omega arith)) (pair lo (omega (arith, f.0))))
