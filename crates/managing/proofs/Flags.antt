-- `sm` puts the activities of its task, which stand together, into N and R: one after another, that is the rules' next state.
use Prim.Native.Nat.{ℕ, zero, suc, ◌+◌, ◌-◌, ◌≤◌, ◌<◌}
use mathlib.Core.Bool.{true}
use mathlib.Core.List.{List, map}
use mathlib.Core.Path.{◌≡◌, refl, ap, sym, ◌∙◌}
use native.Mathlib.Omega.{arith}
use lib.Dec.{eqb}
use lib.ListN.{length, get_or, set, length-set}
use lib.Seq.{get_or-set_same, get_or-set_other, map-set_same, ext_get_or}
use borrow.Author.Tests.{eq-eqb, eqb-true}
use Rattle.text.proofs.Picks.{cases, order, false_true}
use Rattle.text.specs.declared.Set.{Set}
use Rattle.model.specs.States.{no_act}
use Rattle.model.specs.Rules.{anew, listed}
use Rattle.model.specs.declared.Act.{Act}
use Rattle.model.proofs.Rows.{anew_length, anew_past, anew_at}
use Rattle.prepared.specs.Prepared.{table_in, begin_of, end_of, acts_at, Prepared}
use Rattle.managing.specs.Managing.{flagged_from}

module _ (n r : Set) (first : ℕ) (l : List Act) where
  flagged_length : (m : ℕ) → length (flagged_from n r first m l) ≡ length l
  unfolding flagged_from
  flagged_length zero = refl
  flagged_length (suc m) = length-set (flagged_from n r first m l) (first + m) _ ∙ flagged_length m

  -- an activity that is not among them
  flagged_out : (m j : ℕ) → (first ≤ j → j < first + m → ⊥) → get_or (flagged_from n r first m l) j no_act ≡ get_or l j no_act
  unfolding flagged_from
  flagged_out zero j o = refl
  flagged_out (suc m) j o =
      get_or-set_other (flagged_from n r first m l) (first + m) j _ no_act (λ e. o (omega arith) (omega arith))
      ∙ flagged_out m j (λ a b. o a (omega arith))

  -- and one that is
  flagged_in : (m j : ℕ) → first ≤ j → j < first + m → j < length l → get_or (flagged_from n r first m l) j no_act ≡ listed true n r j (get_or l j no_act)
  unfolding flagged_from
  flagged_in zero j a b h = absurd (omega arith)
  flagged_in (suc m) j a b h =
      order j (first + m)
      (λ k. get_or-set_other (flagged_from n r first m l) (first + m) j _ no_act (λ e. omega arith) ∙ flagged_in m j a k h)
      (λ k.
      let e : j ≡ first + m = omega arith in
      let i : first + m < length (flagged_from n r first m l) = rw (flagged_length m) (omega arith) in
      rw e (get_or-set_same (flagged_from n r first m l) (first + m) _ no_act i))

  pub flagged_none : l ≡ flagged_from n r first (first - first) l
  unfolding flagged_from
  flagged_none = let e : first - first ≡ 0 = omega arith in rw e

  -- one more
  module _ (a : ℕ) (u : List Act) (h : first ≤ a) (e : u ≡ flagged_from n r first (a - first) l) where
    pub flagged_more : (v : Act) → v ≡ listed true n r a (get_or u a no_act) → set u a v ≡ flagged_from n r first (a + 1 - first) l
    unfolding flagged_from
    flagged_more v q =
        let w : a + 1 - first ≡ suc (a - first) = omega arith in
        let p : first + (a - first) ≡ a = omega arith in
        rw (w, p, q, e, flagged_out (a - first) a (λ i j. omega arith))

-- what `sm` does not change of an activity stays as it is
pub flagged_same : {B : Type 0} (f : Act → B) (n r : Set) (first : ℕ) (l : List Act) → ((a : ℕ) (y : Act) → f (listed true n r a y) ≡ f y) → (m : ℕ) → map f (flagged_from n r first m l) ≡ map f l
unfolding flagged_from
flagged_same f n r first l e zero = refl
flagged_same f n r first l e (suc m) =
    map-set_same f (flagged_from n r first m l) (first + m) _ no_act (e (first + m) (get_or l (first + m) no_act) ∙ ap f (sym (flagged_out n r first l m (first + m) (λ i j. omega arith))))
    ∙ flagged_same f n r first l e m

-- the activities of the task t stand from the first up to the end
module _ {rows index : List ℕ} (P : Prepared rows index) (t first end : ℕ) (h : t < (table_in rows index).ntasks) (b : first ≡ begin_of index acts_at t) (e : end ≡ end_of index acts_at t) (l : first ≤ end) where
  pub flagged_next : (n r : Set) (u : List Act) → (table_in rows index).nacts ≤ length u → flagged_from n r first (end - first) u ≡ anew (table_in rows index).nacts (λ a. listed (eqb ((table_in rows index).task a) t) n r a) no_act u
  flagged_next n r u long = ext_get_or no_act _ _ (flagged_length n r first u (end - first) ∙ sym (anew_length f no_act u (table_in rows index).nacts)) (λ j k.
      order j (table_in rows index).nacts
      (λ i. at j i ∙ sym (anew_at f no_act u (table_in rows index).nacts j i (omega arith)))
      (λ i. flagged_out n r first u (end - first) j (λ a z. omega (arith, P.acts.ends t h)) ∙ sym (anew_past f no_act u (table_in rows index).nacts j i)))
    where
      f : ℕ → Act → Act
      f a = listed (eqb ((table_in rows index).task a) t) n r a

      at : (j : ℕ) → j < (table_in rows index).nacts → get_or (flagged_from n r first (end - first) u) j no_act ≡ f j (get_or u j no_act)
      at j i =
          cases (eqb ((table_in rows index).task j) t)
          (λ q.
          let o = P.acts.outside t j h i (eqb-true _ _ q) in
          flagged_in n r first u (end - first) j (omega (arith, o.0)) (omega (arith, o.1)) (omega arith) ∙ rw q)
          (λ q.
          flagged_out n r first u (end - first) j (λ a z. false_true (sym q ∙ eq-eqb _ _ (P.acts.inside t j h (omega arith) (omega arith))))
          ∙ rw q)
