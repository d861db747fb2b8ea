-- The edges of a codel, told by the stored target and mode of each.
use Prim.Native.Nat.{ℕ, zero, suc, ◌≤◌, ◌<◌, min}
use mathlib.Core.Bool.{Bool, true, false, not, beq}
use mathlib.Core.List.{List}
use mathlib.Core.Path.{◌≡◌, refl, sym}
use native.Mathlib.Omega.{arith}
use lib.ListN.{get_or}
use lib.Dec.{T, eqb, ltb→lt, lt→ltb}
use borrow.Author.Tests.{eq-eqb, ne_eqb, eqb-true, eqb-false}
use mir.Syntax.{w32}
use mir.Val.{Fits}
use Rattle.text.specs.Fields.{ether_value}
use Rattle.text.proofs.Picks.{cases}
use Rattle.row.specs.Kinds.{most_of, form_of}
use Rattle.table.specs.Tables.{ether_slot, widened, shown, table_of}
use Rattle.model.specs.Tests.{◌and◌, same_bool}
use Rattle.model.specs.Limits.{most_codels, most_edges}
use Rattle.model.specs.Tables.{same_place, known, edge_is, has_edge, target_of}
use Rattle.model.specs.declared.Place.{Place}
use Rattle.model.specs.declared.Place.TheVariants.{Ether, Codel}
use Rattle.prepared.specs.Prepared.{number_place, table_in, begin_of, end_of, edges_at, small, slot_in, Prepared}
use Rattle.prepared.proofs.Stored.{rows_at, cell, field_at, most_codels_lem, most_edges_lem}
use Rattle.prepared.proofs.Walks.{Passed, found, absent}

-- the stored mode
agree : (a b : Bool) → beq a b ≡ same_bool a b
agree true true = refl
agree true false = refl
agree false true = refl
agree false false = refl

mode_is : (x : ℕ) → eqb (min x 1) 1 ≡ not (eqb x 0)
mode_is zero = refl
mode_is (suc x) = let l : min (suc x) 1 ≡ 1 = omega arith in rw (l, ne_eqb (suc x) 0 (omega arith))

-- the stored target
turned : (a b : ℕ) → eqb a b ≡ eqb b a
turned a b = cases (eqb b a) (λ e. rw e (eq-eqb a b (sym (eqb-true b a e)))) (λ e. rw e (ne_eqb a b (λ q. eqb-false b a e (sym q))))

target_is : (x : ℕ) (p : Place) → x < 4294967296 → T (small p) → same_place (target_of (widened x)) p ≡ eqb x (slot_in p)
unfolding widened
target_is x Ether h s =
    cases (eqb x ether_slot)
    (λ e. rw e)
    (λ e. let n = ne_eqb x ether_value (omega arith) in rw (e, n))
target_is x (Codel d) h s =
    cases (eqb x ether_slot)
    (λ e. let n = ne_eqb x d (omega (arith, eqb-true x ether_slot e, ltb→lt d most_codels s)) in rw (e, n))
    (λ e. let n = ne_eqb x ether_value (omega arith) in rw (e, n) (turned d x))

-- a stored edge has that target and mode
abbrev pub edge_hit : List ℕ → ℕ → Bool → ℕ → Bool
edge_hit rows target z e = eqb (cell rows 3 e 1) target and beq (not (eqb (cell rows 3 e 2) 0)) z

module _ (rows : List ℕ) (target : ℕ) (z : Bool) (e : ℕ) where
  module _ (x : ℕ) (p : x ≡ cell rows 3 e 1) where
    pub edge_other : (x ≡ target → ⊥) → edge_hit rows target z e ≡ false
    edge_other n = rw (← p, ne_eqb _ _ n)

    pub edge_same : x ≡ target → (y : ℕ) → y ≡ cell rows 3 e 2 → (b : Bool) → beq (not (eqb y 0)) z ≡ b → edge_hit rows target z e ≡ b
    edge_same t y o b q = rw (← p, eq-eqb _ _ t, ← o) q

module _ {rows index : List ℕ} (P : Prepared rows index) (p : Place) (s : T (known (table_in rows index) p)) where
  -- a codel that has a row is small
  pub small_known : T (small p)
  small_known = go p s
    where
      go : (p : Place) → T (known (table_in rows index) p) → T (small p)
      go Ether t = tt
      go (Codel c) t = lt→ltb c most_codels (omega (arith, most_codels_lem P, ltb→lt c _ t))

  -- the rows hold numbers of 32 bits
  module _ (bits : (i : ℕ) → Fits w32 (get_or rows i 0)) (c : ℕ) (z : Bool) (target : ℕ) (t : target ≡ slot_in p) where
    edge_row : (e : ℕ) → e < (table_in rows index).nedges → edge_is ((table_in rows index).edge e) c p z ≡ (eqb ((table_in rows index).edge e).source c and edge_hit rows target z e)
    unfolding edge_is table_of most_of form_of shown
    edge_row e h =
        let l : e < most_edges = omega (arith, most_edges_lem P) in
        rw (t, field_at rows 3 e 1 l, field_at rows 3 e 2 l, target_is _ p (bits (number_place (rows_at 3) e 1)).fits small_known, mode_is (cell rows 3 e 2), agree (not (eqb (cell rows 3 e 2) 0)) z)

    -- the walk over a codel's edges
    module _ (h : c < (table_in rows index).ncodels) (from end : ℕ) (b : from ≡ begin_of index edges_at c) (n : end ≡ end_of index edges_at c) where
      pub edge_found : (e : ℕ) → from ≤ e → e < end → edge_hit rows target z e ≡ true → true ≡ has_edge (table_in rows index) c p z
      unfolding has_edge
      edge_found = found (table_in rows index).nedges c from end (λ e. ((table_in rows index).edge e).source) _ (edge_hit rows target z) edge_row (rw n (P.edges.ends c h)) (λ e k l. P.edges.inside c e h (rw b at k) (rw n at l))

      pub edge_absent : (e : ℕ) → end ≤ e → Passed (edge_hit rows target z) from e → false ≡ has_edge (table_in rows index) c p z
      unfolding has_edge
      edge_absent = absent (table_in rows index).nedges c from end (λ e. ((table_in rows index).edge e).source) _ (edge_hit rows target z) edge_row (λ e l q. rw (b, n) (P.edges.outside c e h l q))
