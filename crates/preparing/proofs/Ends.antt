-- The rows that belong to each row, noted where it ends: where no row falls and each has some, the index marks exactly its own.
use Prim.Native.Nat.{ℕ, zero, suc, ◌+◌, ◌≤◌, ◌<◌}
use mathlib.Core.List.{List}
use mathlib.Core.Path.{◌≡◌, refl}
use native.Mathlib.Omega.{arith}
use lib.ListN.{length, get_or}
use Rattle.text.proofs.Picks.{order}
use Rattle.model.proofs.Rows.{set_cases}
use Rattle.prepared.specs.Prepared.{begin_of, end_of, Together}
use Rattle.preparing.specs.Filling.{ended}
use Rattle.preparing.proofs.Stages.{ended_length}
use Rattle.preparing.proofs.Ordered.{Rising}

-- rows that name the same are noted alike
pub ended_same : (of by : ℕ → ℕ) (at : ℕ) (l : List ℕ) (n : ℕ) → ((e : ℕ) → e < n → of e ≡ by e) → ended of at l n ≡ ended by at l n
unfolding ended
ended_same of by at l zero same = refl
ended_same of by at l (suc n) same = rw (same n (omega arith), ended_same of by at l n (λ e h. same e (omega arith)))

-- of n rows, those below x are those that belong to row i or an earlier one
record Cut (of : ℕ → ℕ) (i n x : ℕ) : Type 0 where
  pub most : x ≤ n
  pub below : (e : ℕ) → e < n → of e ≤ i → e < x
  pub above : (e : ℕ) → e < x → of e ≤ i

module _ (of : ℕ → ℕ) (at m : ℕ) (l : List ℕ) (room : at + m ≤ length l) where
  -- after n rows the number at a row's place cuts them so
  cut : (i n : ℕ) → Rising of n → ((e : ℕ) → e < n → of e < m) → (w : ℕ) → w < n → of w ≡ i → Cut of i n (get_or (ended of at l n) (at + i) 0)
  unfolding ended
  cut i zero rise few w b q = absurd (omega arith)
  cut i (suc n) rise few w b q =
      set_cases (Cut of i (suc n)) (ended of at l n) (at + of n) (n + 1) 0 (at + i) (omega (arith, ended_length of at l n, few n (omega arith)))
      (λ e. record { most = omega arith; below = λ d a c. omega arith; above = λ d a. omega (arith, rise d n (omega arith) (omega arith)) })
      (λ ne.
      let other : w < n = order w n (λ a. a) (λ a. let s : w ≡ n = omega arith in absurd (ne (rw (← q, s)))) in
      let r = cut i n (λ d e a c. rise d e a (omega arith)) (λ e a. few e (omega arith)) w other q in
      record {
        most = omega (arith, r.most);
        below = λ d a c. order d n (λ k. r.below d k c) (λ k. let s : d ≡ n = omega arith in absurd (ne (omega (arith, rise w n (omega arith) (omega arith), rw s at c))));
        above = r.above;
      })

  -- so the rows that belong to each stand together
  pub together : (index : List ℕ) (n : ℕ) → Rising of n → ((e : ℕ) → e < n → of e < m) → ((i : ℕ) → i < m → (e : ℕ) × (e < n) × (of e ≡ i)) → ((i : ℕ) → i < m → get_or index (at + i) 0 ≡ get_or (ended of at l n) (at + i) 0) → Together index at n m of
  together index n rise few some kept = record {
    ends = λ i h. (cuts i h).most;
    inside = inside;
    outside = outside;
  }
    where
      cuts : (i : ℕ) → i < m → Cut of i n (end_of index at i)
      cuts i h = let w = some i h in rw (kept i h) (cut i n rise few w.0 w.1 w.2)

      inside : (i e : ℕ) → i < m → begin_of index at i ≤ e → e < end_of index at i → of e ≡ i
      inside zero e h a b = omega (arith, (cuts zero h).above e b)
      inside (suc i) e h a b =
          let r = cuts (suc i) h in
          order i (of e)
          (λ k. omega (arith, r.above e b))
          (λ k. absurd (omega (arith, (cuts i (omega arith)).below e (omega (arith, r.most)) k)))

      outside : (i e : ℕ) → i < m → e < n → of e ≡ i → (begin_of index at i ≤ e) × (e < end_of index at i)
      outside zero e h a q = (omega arith, (cuts zero h).below e a (omega arith))
      outside (suc i) e h a q =
          (order e (end_of index at i) (λ k. absurd (omega (arith, (cuts i (omega arith)).above e k))) (λ k. k), (cuts (suc i) h).below e a (omega arith))
