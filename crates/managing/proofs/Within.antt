-- A set by the places between which its task's activities stand.
use mathlib.Core.Bool.{Bool}
use mathlib.Core.List.{List}
use mathlib.Core.Path.{◌≡◌, sym, ◌∙◌}
use Prim.Native.Nat.{ℕ, ◌<◌}
use native.Mathlib.Omega.{arith}
use lib.Dec.{ltb, eqb}
use borrow.Author.Tests.{lt-ltb, eq-eqb, ltb-true, eqb-true}
use Rattle.text.specs.Set.{set_room, member, is_between, between}
use Rattle.text.specs.declared.Set.{Set}
use Rattle.text.proofs.Picks.{cases, false_true}
use Rattle.text.proofs.Members.{between_at, between_mk, each_of_same}
use Rattle.model.specs.Tests.{◌and◌}
use Rattle.model.specs.Rules.{within}
use Rattle.prepared.specs.Prepared.{table_in, begin_of, end_of, acts_at, Prepared}

-- a set by the places between which a task's activities stand
module _ {rows index : List ℕ} (P : Prepared rows index) (t from end : ℕ) (h : t < (table_in rows index).ntasks) (b : from ≡ begin_of index acts_at t) (e : end ≡ end_of index acts_at t) where
  spans : (i : ℕ) → (ltb i (table_in rows index).nacts and eqb ((table_in rows index).task i) t) ≡ is_between from end i
  spans i =
      let K = table_in rows index in
      cases (is_between from end i)
      (λ q.
      let m = between_at from end i q in
      rw (q, lt-ltb i K.nacts (omega (arith, m.1, P.acts.ends t h)), eq-eqb (K.task i) t (P.acts.inside t i h (rw b at m.0) (rw e at m.1))))
      (λ q.
      cases (ltb i K.nacts)
      (λ u.
      cases (eqb (K.task i) t)
      (λ v. let o = P.acts.outside t i h (ltb-true i K.nacts u) (eqb-true (K.task i) t v) in absurd (false_true (sym q ∙ between_mk from end i (rw b o.0) (rw e o.1))))
      (λ v. rw (u, v, q)))
      (λ u. rw (u, q)))

  pub set_within : (n : Set) (r : Bool) → r ≡ between n from end → r ≡ within (table_in rows index) t n
  unfolding within
  set_within n r q = q ∙ sym (each_of_same set_room (member n) _ _ spans)
