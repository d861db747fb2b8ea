-- One turn of each loop notes one row more.
use Prim.Native.Nat.{ℕ, zero, suc, ◌+◌, ◌-◌, ◌≤◌, ◌<◌}
use mathlib.Core.List.{List, []}
use mathlib.Core.Path.{◌≡◌, refl, sym, ap, ◌∙◌}
use native.Mathlib.Omega.{arith}
use native.Mathlib.Numerals.{add-one}
use lib.ListN.{length, get_or, set, take, drop, replicate, length-replicate}
use borrow.Rule.Slice.PartMut.{put_mid}
use Rattle.std.proofs.Math.Seq.{paste}
use Rattle.std.proofs.lemmas.List.Edits.{paste_none, fill_from_more}
use Rattle.std.proofs.lemmas.Slice.{put_mid-paste}
use Rattle.std.proofs.lemmas.Grind.{common_steps}
use Rattle.row.specs.Kinds.{form_of}
use Rattle.table.specs.Tables.{table_of}
use Rattle.table.specs.declared.Table.{Table}
use Rattle.prepared.proofs.Stored.{cell, number_at}
use Rattle.preparing.specs.Filling.{filled, counted, ended, kind_place, kinds_noted, pair_noted, pairs_noted, Laid}
use Rattle.preparing.proofs.Cells.{kind_cell}

-- one count more
pub counted_more : (of : ℕ → ℕ) (l x : List ℕ) (k : ℕ) → x ≡ counted of l k → set x k (of k) ≡ counted of l (k + 1)
unfolding counted
counted_more of l x k e = rw (e, add-one)

-- a part of which each number is v
part_length : (l : List ℕ) (at n : ℕ) → at + n ≤ length l → length (take (at + n - at) (drop at l)) ≡ n
part_length l at n h = grind (arith, common_steps)

pasted : (l : List ℕ) (at v n : ℕ) → at + n ≤ length l → paste l at (replicate n v) n ≡ filled l at v n
unfolding filled
pasted l at v zero h = sym (paste_none l at [])
pasted l at v (suc n) h = sym (rw add-one at (fill_from_more l at n v (omega arith))) ∙ ap (λ x. set x (at + n) v) (pasted l at v n (omega arith))

pub part_filled : (l part : List ℕ) (at v n : ℕ) → at + n ≤ length l → part ≡ replicate (length (take (at + n - at) (drop at l))) v → put_mid at (at + n - at) l part ≡ filled l at v n
part_filled l part at v n h e =
    put_mid-paste at (at + n - at) l part (replicate n v) n (e ∙ rw (part_length l at n h)) (omega arith) (sym (length-replicate {A = ℕ} n v)) ∙ pasted l at v n h

-- one row more noted where it ends
module _ (l x : List ℕ) (at : ℕ) where
  pub ended_more : (of : ℕ → ℕ) (e i : ℕ) → i ≡ of e → x ≡ ended of at l e → set x (at + i) (e + 1) ≡ ended of at l (e + 1)
  unfolding ended
  ended_more of e i p q = rw (p, q) (sym (ap (ended of at l) (add-one e)))

-- one codel more, one mutex row more, as they are stored
module _ {t : Table} (L : Laid t) (l x : List ℕ) where
  pub kinds_more : (c a z p : ℕ) → c < get_or t.counts 2 0 → a ≡ cell t.rows 2 c 0 → z ≡ cell t.rows 2 c 1 → p ≡ kind_place z a → x ≡ kinds_noted (table_of t) l c → set x p c ≡ kinds_noted (table_of t) l (c + 1)
  unfolding kinds_noted table_of form_of
  kinds_more c a z p h e d f q = rw (f, d, kind_cell L c a h, number_at t.counts t.rows L.formed 2 c 0 (omega arith) h (omega arith) a refl e, q, add-one)

  pub pairs_more : (m lo hi : ℕ) → m < get_or t.counts 4 0 → lo ≡ cell t.rows 4 m 0 → hi ≡ cell t.rows 4 m 1 → x ≡ pairs_noted (table_of t) l m → pair_noted m lo hi x ≡ pairs_noted (table_of t) l (m + 1)
  unfolding pairs_noted table_of form_of
  pairs_more m lo hi h e f q = rw (number_at t.counts t.rows L.formed 4 m 0 (omega arith) h (omega arith) lo refl e, number_at t.counts t.rows L.formed 4 m 1 (omega arith) h (omega arith) hi refl f, q) (sym (ap (pairs_noted (table_of t) l) (add-one m)))
