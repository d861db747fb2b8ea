-- The whole index of a well-formed table agrees with its rows.
use Prim.Native.Nat.{ℕ, ◌+◌, ◌*◌, ◌≤◌, ◌<◌}
use mathlib.Core.List.{List}
use mathlib.Core.Path.{◌≡◌, refl, sym, ap, ◌∙◌}
use native.Mathlib.Omega.{arith}
use lib.ListN.{length, get_or, take, replicate, length-replicate, get_or-replicate}
use lib.Seq.{get_or-take, ext_get_or, length-take-le}
use lib.Dec.{eqb}
use Rattle.row.specs.Kinds.{stored_kinds, most_of, form_of}
use Rattle.table.specs.Tables.{slots, made, table_of}
use Rattle.table.specs.Checks.{Passes}
use Rattle.table.specs.declared.Table as table
use Rattle.table.proofs.Fields.{at_kind}
use Rattle.table.proofs.WellFormed.{accepted_wellformed}
use Rattle.model.specs.Limits.{most_tasks, most_acts, most_codels}
use Rattle.model.specs.Tables.{Table, is_start, safe}
use Rattle.model.specs.Rules.{stop_of}
use Rattle.model.proofs.Tests.{true_T}
use Rattle.model.proofs.Formed.{Formed, formed}
use Rattle.prepared.specs.Prepared.{nowhere, safe_at, edges_at, pairs_from_at, pairs_end_at, starts_at, stops_at, acts_at, index_length, table_in, no_stop, stop_in, Together, Paired, Prepared}
use Rattle.prepared.proofs.Stored.{cell, number_at}
use Rattle.preparing.specs.Filling.{filled, counted, count_in, with_counts, ended, kinds_noted, pairs_noted, index_of, Laid}
use Rattle.preparing.proofs.Stages.{Off, Few, counted_length, counted_off, counted_at, counted_same, filled_length, filled_off, filled_at, ended_length, ended_off, kinds_length, kinds_off, pairs_length, pairs_off}
use Rattle.preparing.proofs.Ordered.{Ordered, ordered}
use Rattle.preparing.proofs.Ends.{ended_same, together}
use Rattle.preparing.proofs.Noted.{place_in, start_noted, stop_noted}
use Rattle.preparing.proofs.Pairs.{paired, safe_marked}
use Rattle.preparing.proofs.Cells.{shape, source_cell}

module _ (K : Table) (F : Formed K) (O : Ordered K) (base : List ℕ) (size : length base ≡ index_length) where
  -- what stands after each filling
  abbrev counts : List ℕ
  counts = with_counts K base

  abbrev marked : List ℕ
  marked = filled counts safe_at 1 most_codels

  abbrev stopped : List ℕ
  stopped = filled marked stops_at no_stop most_acts

  abbrev edged : List ℕ
  edged = ended (λ e. (K.edge e).source) edges_at stopped K.nedges

  abbrev acted : List ℕ
  acted = ended K.task acts_at edged K.nacts

  abbrev kinded : List ℕ
  kinded = kinds_noted K acted K.ncodels

  abbrev index : List ℕ
  index = pairs_noted K kinded K.nmutex

  counts_length : length counts ≡ index_length
  counts_length = counted_length (count_in K) base stored_kinds ∙ size

  marked_length : length marked ≡ index_length
  marked_length = filled_length counts safe_at 1 most_codels ∙ counts_length

  stopped_length : length stopped ≡ index_length
  stopped_length = filled_length marked stops_at no_stop most_acts ∙ marked_length

  edged_length : length edged ≡ index_length
  edged_length = ended_length (λ e. (K.edge e).source) edges_at stopped K.nedges ∙ stopped_length

  acted_length : length acted ≡ index_length
  acted_length = ended_length K.task acts_at edged K.nacts ∙ edged_length

  kinded_length : length kinded ≡ index_length
  kinded_length = kinds_length K acted K.ncodels ∙ acted_length

  index_length_lem : length index ≡ index_length
  index_length_lem = pairs_length K kinded K.nmutex ∙ kinded_length

  -- the rows that a row names are few enough
  owners : (c : ℕ) → c < K.ncodels → K.owner c < most_acts
  owners c h = omega (arith, F.owner c h, F.fits.1)

  codels : Few K K.nmutex
  codels m h = (omega (arith, (F.mutex m h).0, F.fits.2), omega (arith, (F.mutex m h).1, F.fits.2))

  -- what each filling leaves
  past_pairs : (p : ℕ) → Off safe_at most_codels p → Off pairs_from_at (2 * most_codels) p → get_or index p 0 ≡ get_or kinded p 0
  past_pairs p = pairs_off K kinded K.nmutex p codels

  past_kinds : (p : ℕ) → Off starts_at (2 * most_acts) p → (p ≡ nowhere → ⊥) → get_or kinded p 0 ≡ get_or acted p 0
  past_kinds p off ne = kinds_off K acted K.ncodels p (λ c b. place_in (K.kind c) (K.owner c) p (owners c b) off ne)

  past_acts : (p : ℕ) → Off acts_at most_tasks p → get_or acted p 0 ≡ get_or edged p 0
  past_acts p = ended_off K.task acts_at edged K.nacts most_tasks p (λ a h. omega (arith, F.task a h, F.fits.0))

  past_edges : (p : ℕ) → Off edges_at most_codels p → get_or edged p 0 ≡ get_or stopped p 0
  past_edges p = ended_off (λ e. (K.edge e).source) edges_at stopped K.nedges most_codels p (λ e h. omega (arith, O.source e h, F.fits.2))

  -- what the fillings between the marks and the mutex rows leave
  between : (p : ℕ) → Off edges_at most_codels p → Off starts_at (2 * most_acts + most_tasks) p → (p ≡ nowhere → ⊥) → get_or kinded p 0 ≡ get_or marked p 0
  between p edge off ne =
      past_kinds p (λ i b. off i (omega arith)) ne
      ∙ past_acts p (λ i b e. off (2 * most_acts + i) (omega arith) (omega arith))
      ∙ past_edges p edge
      ∙ filled_off marked stops_at no_stop most_acts p (λ i b e. off (most_acts + i) (omega arith) (omega arith))

  index_counts : (k : ℕ) → k < stored_kinds → get_or index k 0 ≡ count_in K k
  index_counts k h =
      past_pairs k (λ i b e. omega arith) (λ i b e. omega arith)
      ∙ between k (λ i b e. omega arith) (λ i b e. omega arith) (λ e. omega arith)
      ∙ filled_off counts safe_at 1 most_codels k (λ i b e. omega arith)
      ∙ counted_at (count_in K) base stored_kinds k h (omega arith)

  -- the edges of each codel, and the activities of each task
  index_edges : Together index edges_at K.nedges K.ncodels (λ e. (K.edge e).source)
  index_edges =
      together (λ e. (K.edge e).source) edges_at K.ncodels stopped (omega (arith, stopped_length, F.fits.2)) index K.nedges O.edges O.source O.leaving
      (λ c h.
      let l : c < most_codels = omega (arith, F.fits.2) in
      past_pairs (edges_at + c) (λ i b e. omega arith) (λ i b e. omega arith)
      ∙ past_kinds (edges_at + c) (λ i b e. omega arith) (λ e. omega arith)
      ∙ past_acts (edges_at + c) (λ i b e. omega arith))

  index_acts : Together index acts_at K.nacts K.ntasks K.task
  index_acts =
      together K.task acts_at K.ntasks edged (omega (arith, edged_length, F.fits.0)) index K.nacts O.acts F.task O.acting
      (λ t h.
      past_pairs (acts_at + t) (λ i b e. omega arith) (λ i b e. omega arith)
      ∙ past_kinds (acts_at + t) (λ i b e. omega arith) (λ e. omega arith))

  -- the mutex rows of each codel, and the codels that are in none
  index_pairs : ((p : ℕ) → p < index_length → get_or base p 0 ≡ 0) → Paired index K
  index_pairs none =
      paired K kinded kinded_length codels F.fits.2 O.pairs
      (λ c h.
      between (pairs_end_at + c) (λ i b e. omega arith) (λ i b e. omega arith) (λ e. omega arith)
      ∙ filled_off counts safe_at 1 most_codels (pairs_end_at + c) (λ i b e. omega arith)
      ∙ counted_off (count_in K) base stored_kinds (pairs_end_at + c) (omega arith)
      ∙ none (pairs_end_at + c) (omega arith))

  index_safes : (c : ℕ) → c < K.ncodels → eqb (get_or index (safe_at + c) 0) 1 ≡ safe K c
  index_safes c h =
      let l : c < most_codels = omega (arith, F.fits.2) in
      safe_marked K kinded kinded_length codels F.fits.2 c h
      (between (safe_at + c) (λ i b e. omega arith) (λ i b e. omega arith) (λ e. omega arith)
      ∙ filled_at counts safe_at 1 most_codels c l (omega (arith, counts_length)))

  -- each activity's start and stop
  module _ (a : ℕ) (h : a < K.nacts) where
    act : a < most_acts
    act = omega (arith, F.fits.1)

    index_starts : (c : ℕ) → c < K.ncodels → is_start K a c ≡ eqb c (get_or index (starts_at + a) 0)
    index_starts c b =
        let s = F.starts a h in
        let l = act in
        rw (past_pairs (starts_at + a) (λ i b e. omega arith) (λ i b e. omega arith))
        (start_noted K acted a act owners acted_length s.0 c s.1 s.2 b (λ d e. O.alone a 0 d e (omega arith)))

    index_stops : stop_in (get_or index (stops_at + a) 0) ≡ stop_of K a
    index_stops =
        let l = act in
        rw (past_pairs (stops_at + a) (λ i b e. omega arith) (λ i b e. omega arith))
        (stop_noted K acted a act owners acted_length F.fits.2
        (past_acts (stops_at + a) (λ i b e. omega arith)
        ∙ past_edges (stops_at + a) (λ i b e. omega arith)
        ∙ filled_at marked stops_at no_stop most_acts a act (omega (arith, marked_length)))
        (λ d e. O.alone a 1 d e (omega arith)))

-- an accepted table is laid out
pub laid : (t : table.Table) → Passes t → length t.counts ≡ stored_kinds → length t.rows ≡ slots → Laid t
unfolding table_of most_of
laid t e c r =
    let w = accepted_wellformed t e in
    let most = (formed (table_of t) (true_T _ w)).fits in
    record { size = r; counted = record { kinds = c; most = at_kind (λ k. get_or t.counts k 0 ≤ most_of k) most.0 most.1 most.2 most.3 most.4 }; formed = w }

module _ {t : table.Table} (L : Laid t) where
  abbrev K : Table
  K = table_of t

  abbrev none : List ℕ
  none = replicate index_length 0

  none_length : length none ≡ index_length
  none_length = length-replicate {A = ℕ} index_length 0

  O : Ordered K
  O = ordered K L.formed

  counts_in : (k : ℕ) → k < stored_kinds → count_in K k ≡ get_or t.counts k 0
  unfolding table_of count_in
  counts_in = at_kind (λ k. count_in K k ≡ get_or t.counts k 0) refl refl refl refl refl

  -- the counts of the index are the table's
  pub table_in_lem : table_in t.rows (index_of K) ≡ K
  unfolding index_of
  table_in_lem =
      let n = index_length_lem K (shape L) O none none_length in
      let e : take stored_kinds (index_of K) ≡ t.counts = ext_get_or 0 (take stored_kinds (index_of K)) t.counts (length-take-le stored_kinds (index_of K) (omega arith) ∙ sym L.counted.kinds)
      (λ k h.
      let l : k < stored_kinds = omega (arith, length-take-le stored_kinds (index_of K) (omega arith)) in
      get_or-take stored_kinds (index_of K) k 0 l ∙ index_counts K (shape L) O none none_length k l ∙ counts_in k l) in
      ap (λ (x : List ℕ). table_of (made x t.rows)) e

  -- the index agrees with the rows
  pub prepared : Prepared t.rows (index_of K)
  unfolding index_of
  prepared = record {
    size = L.size;
    indexed = index_length_lem K (shape L) O none none_length;
    formed = rw table_in_lem L.formed;
    safes = rw table_in_lem (index_safes K (shape L) O none none_length);
    edges = rw table_in_lem (index_edges K (shape L) O none none_length);
    acts = rw table_in_lem (index_acts K (shape L) O none none_length);
    pairs = rw table_in_lem (index_pairs K (shape L) O none none_length (λ p. get_or-replicate {A = ℕ} index_length p 0 0));
    starts = rw table_in_lem (λ a c h. index_starts K (shape L) O none none_length a h c);
    stops = rw table_in_lem (index_stops K (shape L) O none none_length);
  }

  -- the fillings one after the other make it
  pub all_filled : (a b c d e f g : List ℕ) → a ≡ counted (λ k. get_or t.counts k 0) none stored_kinds → b ≡ filled a safe_at 1 most_codels → c ≡ filled b stops_at no_stop most_acts → d ≡ ended (λ i. cell t.rows 3 i 0) edges_at c (get_or t.counts 3 0) → e ≡ ended (λ i. cell t.rows 1 i 0) acts_at d (get_or t.counts 1 0) → f ≡ kinds_noted K e K.ncodels → g ≡ pairs_noted K f K.nmutex → g ≡ index_of K
  unfolding index_of table_of form_of
  all_filled a b c d e f g p q r s w u v =
      rw (v, u, w, ended_same (λ i. cell t.rows 1 i 0) K.task acts_at d (get_or t.counts 1 0) (λ a h. number_at t.counts t.rows L.formed 1 a 0 (omega arith) h (omega arith) _ refl refl), s, ended_same (λ i. cell t.rows 3 i 0) (λ i. (K.edge i).source) edges_at c (get_or t.counts 3 0) (source_cell L), r, q, p, counted_same (λ k. get_or t.counts k 0) (count_in K) none stored_kinds (λ k h. sym (counts_in k h)))
