-- The marks of the codels that a pause leads to.
use Prim.Native.Nat.{ℕ, zero, suc, ◌+◌, ◌≤◌, ◌<◌}
use mathlib.Core.Bool.{Bool, true, false}
use mathlib.Core.List.{List}
use mathlib.Core.Path.{◌≡◌, refl, sym, ◌∙◌}
use native.Mathlib.Omega.{arith}
use native.Mathlib.Numerals.{add-one}
use lib.ListN.{length, get_or, replicate, length-set, length-replicate, get_or-replicate}
use lib.Seq.{get_or-set_same, get_or-set_other}
use lib.Dec.{T, eqb, ltb, ltb→lt}
use borrow.Author.Tests.{eq-eqb, eqb-true, eqb-false}
use Rattle.text.proofs.Picks.{cases, picked}
use Rattle.model.specs.Limits.{most_codels}
use Rattle.model.specs.Tests.{◌and◌, ◌or◌, some}
use Rattle.model.specs.Tables.{Table, EdgeRow, is_codel, known, edge_is, has_edge, pausable}
use Rattle.model.specs.Sound.{may_rest}
use Rattle.model.specs.declared.Place.{Place}
use Rattle.model.specs.declared.Place.TheVariants.{Ether, Codel}
use Rattle.model.proofs.Tests.{and_l, some_mk}
use Rattle.model.proofs.Formed.{Formed}
use Rattle.table.proofs.Marks.{or_false}
use Rattle.prepared.specs.Prepared.{pause_of}
use Rattle.model.proofs.Asked.{known_codel}
use Rattle.soundness.specs.Marks.{mark_at, pause_marks}

or_true : (b : Bool) → (b or true) ≡ true
or_true true = refl
or_true false = refl

module _ (K : Table) where
  -- no edge is marked at first, and one more after another
  pub marks_none : replicate most_codels false ≡ pause_marks K 0
  unfolding pause_marks
  marks_none = refl

  pub marks_more : (l m : List Bool) (e : ℕ) (p : Place) → l ≡ pause_marks K e → p ≡ pause_of (K.edge e) → m ≡ mark_at p l → m ≡ pause_marks K (e + 1)
  unfolding pause_marks
  marks_more l m e p h q i = rw (add-one e, ← q, ← h) i

  -- the codel of a pause has a row
  pub pause_codel : Formed K → (e : ℕ) (p : Place) (c : ℕ) → e < K.nedges → p ≡ pause_of (K.edge e) → p ≡ Codel c → c < K.ncodels
  unfolding has_edge edge_is
  pause_codel F e p c h q f = ltb→lt c _ (and_l (ltb c K.ncodels) _ (F.stays (K.edge e).source (Codel c) true (some_mk _ K.nedges e h (found (K.edge e) (sym q ∙ f)))))
    where
      found : (r : EdgeRow) → pause_of r ≡ Codel c → T (edge_is r r.source (Codel c) true)
      found r g =
          let w = picked r.pause (λ n. let z : ◌≡◌ {A = ℕ} 0 1 = cc in omega arith) g in
          rw (w.0, w.1, eq-eqb r.source r.source refl, eq-eqb c c refl) tt

  -- there is a mark for each codel that there may be
  marks_long : (n : ℕ) → length (pause_marks K n) ≡ most_codels
  unfolding pause_marks
  marks_long zero = length-replicate {A = Bool} most_codels false
  marks_long (suc n) = more (pause_of (K.edge n)) (pause_marks K n) (marks_long n)
    where
      more : (p : Place) (l : List Bool) → length l ≡ most_codels → length (mark_at p l) ≡ most_codels
      more Ether l h = h
      more (Codel c) l h = length-set l c true ∙ h

  -- a codel is marked where a pause leads to it
  module _ (c : ℕ) (h : c < most_codels) where
    mark_at_lem : (p : Place) (l : List Bool) → length l ≡ most_codels → get_or (mark_at p l) c false ≡ (get_or l c false or is_codel p c)
    mark_at_lem Ether l k = sym (or_false (get_or l c false))
    mark_at_lem (Codel d) l k =
        cases (eqb d c)
        (λ e. rw (eqb-true d c e, get_or-set_same l c true false (omega arith), eq-eqb c c refl) (sym (or_true (get_or l c false))))
        (λ e. rw (get_or-set_other l d c true false (λ q. eqb-false d c e (sym q)), e) (sym (or_false (get_or l c false))))

    mark_row : (r : EdgeRow) (l : List Bool) → length l ≡ most_codels → get_or (mark_at (pause_of r) l) c false ≡ (get_or l c false or (r.pause and is_codel r.target c))
    mark_row r l k = cases r.pause (λ e. rw e (mark_at_lem r.target l k)) (λ e. rw e (mark_at_lem Ether l k))

    marks_some : (n : ℕ) → get_or (pause_marks K n) c false ≡ some n (λ e. (K.edge e).pause and is_codel (K.edge e).target c)
    unfolding pause_marks some
    marks_some zero = get_or-replicate {A = Bool} most_codels c false false h
    marks_some (suc n) = mark_row (K.edge n) (pause_marks K n) (marks_long n) ∙ rw (marks_some n)

  -- so at a place that has a row the marks tell where an activity may rest
  module _ (l : List Bool) (p : Place) (c : ℕ) (m : K.ncodels ≤ most_codels) (k : T (known K p)) (e : l ≡ pause_marks K K.nedges) (f : p ≡ Codel c) where
    pub mark_room : c < most_codels
    mark_room = omega (arith, known_codel K p c k f)

    pub marked : get_or l c false ≡ may_rest K p
    unfolding pausable
    marked = rw (e, f) (marks_some c mark_room K.nedges)
