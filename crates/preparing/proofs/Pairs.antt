-- The mutex rows of each smaller codel, which stand together, and the codels that are in none.
use Prim.Native.Nat.{ℕ, zero, suc, ◌+◌, ◌≤◌, ◌<◌}
use mathlib.Core.Bool.{Bool, true, false, not}
use mathlib.Core.List.{List}
use mathlib.Core.Path.{◌≡◌, refl, sym, ◌∙◌}
use native.Mathlib.Omega.{arith}
use lib.ListN.{length, get_or, set, length-set}
use lib.Seq.{get_or-set_same, get_or-set_other}
use lib.Dec.{eqb}
use borrow.Author.Tests.{eq-eqb, ne_eqb, eqb-true, eqb-false}
use Rattle.text.specs.Parts.{pick}
use Rattle.text.proofs.Picks.{cases, order}
use Rattle.model.specs.Tests.{◌and◌, each}
use Rattle.model.specs.Limits.{most_codels}
use Rattle.model.specs.Tables.{Table, row_clear, safe}
use Rattle.model.proofs.Rows.{set_cases}
use Rattle.prepared.specs.Prepared.{safe_at, pairs_from_at, pairs_end_at, index_length, Paired}
use Rattle.preparing.specs.Filling.{pair_noted, pairs_noted}
use Rattle.preparing.proofs.Stages.{Few, pairs_length, pair_off}
use Rattle.preparing.proofs.Ordered.{Rising}

-- of n rows, those from one place up to another are those of codel c
record Stand (lo : ℕ → ℕ) (c n from end : ℕ) : Type 0 where
  pub most : end ≤ n
  pub inside : (m : ℕ) → from ≤ m → m < end → lo m ≡ c
  pub outside : (m : ℕ) → m < n → lo m ≡ c → (from ≤ m) × (m < end)
  pub some : (end ≡ 0 → ⊥) → from < end

module _ (lo : ℕ → ℕ) (c n from end : ℕ) (s : Stand lo c n from end) where
  -- one more row, of another codel
  stand_other : (lo n ≡ c → ⊥) → Stand lo c (suc n) from end
  stand_other ne = record {
    most = omega (arith, s.most);
    inside = s.inside;
    outside = λ m h q. order m n (λ l. s.outside m l q) (λ l. let e : m ≡ n = omega arith in absurd (ne (rw e at q)));
    some = s.some;
  }

  -- or of the codel
  stand_same : Rising lo (suc n) → lo n ≡ c → Stand lo c (suc n) (pick (eqb end 0) n from) (n + 1)
  stand_same rise own =
      cases (eqb end 0)
      (λ e. let z = eqb-true end 0 e in rw e (record {
        most = omega arith;
        inside = λ m a b. let q : m ≡ n = omega arith in rw q own;
        outside = λ m h q. order m n (λ l. absurd (omega (arith, (s.outside m l q).1))) (λ l. (omega arith, omega arith));
        some = λ ne. omega arith;
      }))
      (λ e. let f = s.some (eqb-false end 0 e) in rw e (record {
        most = omega arith;
        inside = λ m a b. order m end (s.inside m a) (λ l. omega (arith, s.inside from (omega arith) f, rise from m (omega arith) (omega arith), rise m n (omega arith) (omega arith)));
        outside = λ m h q. order m n (λ l. ((s.outside m l q).0, omega arith)) (λ l. (omega (arith, s.most), omega arith));
        some = λ ne. omega (arith, s.most);
      }))

module _ (K : Table) (l : List ℕ) (c : ℕ) (h : c < most_codels) (room : length l ≡ index_length) where
  abbrev after : ℕ → List ℕ
  after n = pairs_noted K l n

  -- what one mutex row more leaves at the codel's places
  module _ (m lo hi : ℕ) (k : List ℕ) (size : length k ≡ length l) (a : lo < most_codels) (b : hi < most_codels) where
    abbrev begun : List ℕ
    begun = set k (pairs_from_at + lo) (pick (eqb (get_or k (pairs_end_at + lo) 0) 0) m (get_or k (pairs_from_at + lo) 0))

    abbrev ranged : List ℕ
    ranged = set begun (pairs_end_at + lo) (m + 1)

    abbrev more : List ℕ
    more = pair_noted m lo hi k

    from_same : lo ≡ c → get_or more (pairs_from_at + c) 0 ≡ pick (eqb (get_or k (pairs_end_at + c) 0) 0) m (get_or k (pairs_from_at + c) 0)
    from_same e =
        let u : pairs_from_at + c ≡ safe_at + hi → ⊥ = λ q. omega arith in
        let v : pairs_from_at + c ≡ safe_at + c → ⊥ = λ q. omega arith in
        let w : pairs_from_at + c ≡ pairs_end_at + c → ⊥ = λ q. omega arith in
        rw e (simp get_or-set_other (get_or-set_same k (pairs_from_at + c) (pick (eqb (get_or k (pairs_end_at + c) 0) 0) m (get_or k (pairs_from_at + c) 0)) 0 (omega arith)))

    end_same : lo ≡ c → get_or more (pairs_end_at + c) 0 ≡ m + 1
    end_same e =
        let u : pairs_end_at + c ≡ safe_at + hi → ⊥ = λ q. omega arith in
        let v : pairs_end_at + c ≡ safe_at + c → ⊥ = λ q. omega arith in
        let r : pairs_end_at + c < length k = omega arith in
        rw e (simp get_or-set_other (get_or-set_same (set k (pairs_from_at + c) (pick (eqb (get_or k (pairs_end_at + c) 0) 0) m (get_or k (pairs_from_at + c) 0))) (pairs_end_at + c) (m + 1) 0 (rw length-set r)))

    stand_more : (own : ℕ → ℕ) → Rising own (suc m) → own m ≡ lo → Stand own c m (get_or k (pairs_from_at + c) 0) (get_or k (pairs_end_at + c) 0) → Stand own c (suc m) (get_or more (pairs_from_at + c) 0) (get_or more (pairs_end_at + c) 0)
    stand_more own rise is s =
        cases (eqb lo c)
        (λ e. let q = eqb-true lo c e in rw (from_same q, end_same q) (stand_same own c m _ _ s rise (is ∙ q)))
        (λ e.
        let q = eqb-false lo c e in
        rw (pair_off m lo hi (pairs_from_at + c) k (λ x. omega arith) (λ x. omega arith) (λ x. omega arith) (λ x. q (omega arith)), pair_off m lo hi (pairs_end_at + c) k (λ x. omega arith) (λ x. omega arith) (λ x. q (omega arith)) (λ x. omega arith))
        (stand_other own c m _ _ s (λ x. q (sym is ∙ x))))

    -- a codel of the row is no longer marked as thread safe
    abbrev Mark : Bool → ℕ → Type 0
    Mark x w = eqb w 1 ≡ (x and not (eqb lo c) and not (eqb hi c))

    mark_more : (x : Bool) → eqb (get_or k (safe_at + c) 0) 1 ≡ x → Mark x (get_or more (safe_at + c) 0)
    mark_more x p =
        set_cases (Mark x) (set ranged (safe_at + lo) 0) (safe_at + hi) 0 0 (safe_at + c) (simp length-set (omega arith))
        (λ e. rw (eq-eqb hi c (omega arith)) (out x (eqb lo c)))
        (λ n. set_cases (Mark x) ranged (safe_at + lo) 0 0 (safe_at + c) (simp length-set (omega arith))
        (λ e. rw (eq-eqb lo c (omega arith)) (gone x))
        (λ o.
        let u : safe_at + c ≡ pairs_end_at + lo → ⊥ = λ q. omega arith in
        let v : safe_at + c ≡ pairs_from_at + lo → ⊥ = λ q. omega arith in
        rw (get_or-set_other, get_or-set_other, ne_eqb hi c (λ q. n (omega arith)), ne_eqb lo c (λ q. o (omega arith))) (p ∙ kept x)))
      where
        gone : (x : Bool) → false ≡ x and false
        gone true = refl
        gone false = refl

        out : (x y : Bool) → false ≡ x and not y and false
        out true true = refl
        out true false = refl
        out false y = refl

        kept : (x : Bool) → x ≡ x and true
        kept true = refl
        kept false = refl

  -- the mutex rows up to n
  stands : (n : ℕ) → Few K n → Rising (λ m. (K.mutex m).lo) n → get_or l (pairs_end_at + c) 0 ≡ 0 → Stand (λ m. (K.mutex m).lo) c n (get_or (after n) (pairs_from_at + c) 0) (get_or (after n) (pairs_end_at + c) 0)
  unfolding pairs_noted
  stands zero few rise none = record { most = omega arith; inside = λ m a b. absurd (omega arith); outside = λ m b q. absurd (omega arith); some = λ ne. absurd (ne none) }
  stands (suc n) few rise none =
      stand_more n (K.mutex n).lo (K.mutex n).hi (after n) (pairs_length K l n) (few n (omega arith)).0 (few n (omega arith)).1 (λ m. (K.mutex m).lo) rise refl
      (stands n (λ m b. few m (omega arith)) (λ i j a b. rise i j a (omega arith)) none)

  -- a codel is in no mutex row exactly where it is still marked
  marks : (n : ℕ) → Few K n → get_or l (safe_at + c) 0 ≡ 1 → eqb (get_or (after n) (safe_at + c) 0) 1 ≡ each n (row_clear K c)
  unfolding pairs_noted each
  marks zero few one = eq-eqb _ _ one
  marks (suc n) few one =
      mark_more n (K.mutex n).lo (K.mutex n).hi (after n) (pairs_length K l n) (few n (omega arith)).0 (few n (omega arith)).1 (each n (row_clear K c)) (marks n (λ m b. few m (omega arith)) one)

-- after the last mutex row
module _ (K : Table) (l : List ℕ) (room : length l ≡ index_length) (few : Few K K.nmutex) (most : K.ncodels ≤ most_codels) where
  -- the mutex rows of each smaller codel stand between its places
  pub paired : Rising (λ m. (K.mutex m).lo) K.nmutex → ((c : ℕ) → c < most_codels → get_or l (pairs_end_at + c) 0 ≡ 0) → Paired (pairs_noted K l K.nmutex) K
  paired rise none =
      let at : (c : ℕ) → c < K.ncodels → Stand (λ m. (K.mutex m).lo) c K.nmutex (get_or (pairs_noted K l K.nmutex) (pairs_from_at + c) 0) (get_or (pairs_noted K l K.nmutex) (pairs_end_at + c) 0) = λ c h. stands K l c (omega arith) room K.nmutex few rise (none c (omega arith)) in
      record { ends = λ c h. (at c h).most; inside = λ c m h. (at c h).inside m; outside = λ c m h. (at c h).outside m }

  -- a codel is thread safe where it is still marked
  pub safe_marked : (c : ℕ) → c < K.ncodels → get_or l (safe_at + c) 0 ≡ 1 → eqb (get_or (pairs_noted K l K.nmutex) (safe_at + c) 0) 1 ≡ safe K c
  unfolding safe
  safe_marked c h = marks K l c (omega arith) room K.nmutex few
