-- One row: what is written of a row reads back as it, and what reads as a row is what is written of it; its line and its text.
use Prim.Native.Nat.{ℕ, ◌+◌, ◌≤◌, ◌<◌}
use mathlib.Core.Path.{◌≡◌, refl, sym, ap, ◌∙◌}
use mathlib.Core.List.{List, [], ◌∷◌, ◌++◌, append-nil, append_assoc}
use mathlib.Core.Bool.{true, false}
use native.Mathlib.Omega.{arith}
use lib.ListN.{length, length-append}
use lib.Dec.{leb, eqb}
use borrow.Author.Tests.{le-leb, leb-true, eqb-true}
use Rattle.text.specs.Parts.{split_on, join_on, free, all_free}
use Rattle.text.specs.Words.{word_in, word_at}
use Rattle.text.specs.Fields.{ether_value}
use Rattle.text.proofs.Digits.{free_append}
use Rattle.text.proofs.Picks.{picked, false_true}
use Rattle.text.proofs.Parts.{split_join, split_cut, join_split}
use Rattle.text.proofs.Words.{word_read, word_written}
use Rattle.row.specs.Kinds.{words_in, kinds, end_kind, word_of, form_of, kind_in}
use Rattle.row.specs.Row.{read_form, with_field, at_end, fields_in, row_in, read_row, field_text, row_parts, row_line, row_text, tabbed, form_ok, row_ok}
use Rattle.row.specs.declared.Row.{Row}
use Rattle.row.specs.declared.Form.{Form}
use Rattle.row.proofs.Tables.{free_high, words_at, word_high}
use Rattle.row.proofs.Fields.{value_reads, value_read, value_free, value_most}
use Rattle.std.specs.Prelude.{Option, Some, None, option_and_then}
use Rattle.std.proofs.lemmas.Option.{none-some}

-- the row words: each is read as its place, and what is read as a place is that word
abbrev row_words : List ℕ
row_words = join_on 9 (words_in kinds)

word_there : (k : ℕ) → word_at row_words k ≡ word_of k
unfolding word_at word_of
word_there k = words_at kinds k

kind_reads : (k : ℕ) → k ≤ end_kind → kind_in (word_of k) ≡ Some k
unfolding kind_in word_in
kind_reads k h = rw (← word_there k) (word_written row_words k refl (omega arith))

kind_read : (w : List ℕ) (k : ℕ) → kind_in w ≡ Some k → (word_of k ≡ w) × (k ≤ end_kind)
unfolding kind_in word_in
kind_read w k u = let r = word_read row_words w k u in rw (← word_there k) (r.0, omega arith)

kind_free : (c k : ℕ) → c < 48 → free c (word_of k) ≡ true
kind_free c k h = free_high c (word_of k) h (word_high k)

-- what a row keeps to that a line can say
pub record Bounds (r : Row) : Type 0 where
  pub kind : r.kind ≤ end_kind
  pub first : form_ok (form_of r.kind 0) r.a ≡ true
  pub second : form_ok (form_of r.kind 1) r.b ≡ true
  pub third : form_ok (form_of r.kind 2) r.c ≡ true
  pub a : r.a ≤ ether_value
  pub b : r.b ≤ ether_value
  pub c : r.c ≤ ether_value

-- a row that a line can say keeps to it
pub row_bounds : (r : Row) → row_ok r ≡ true → Bounds r
unfolding row_ok
row_bounds r h =
    let k = picked (leb r.kind end_kind) false_true h in
    let x = picked (form_ok (form_of r.kind 0) r.a) false_true k.1 in
    let y = picked (form_ok (form_of r.kind 1) r.b) false_true x.1 in
    record {
      kind = leb-true _ _ k.0;
      first = x.0;
      second = y.0;
      third = y.1;
      a = value_most _ _ x.0;
      b = value_most _ _ y.0;
      c = value_most _ _ y.1;
    }

-- what is written of a value is taken as it
with_reads : (f : Option Form) (v : ℕ) (ps : List (List ℕ)) (k : ℕ → List (List ℕ) → Option Row) → form_ok f v ≡ true → with_field f (field_text f v ++ ps) k ≡ k v ps
unfolding form_ok
with_reads None v ps k h = let z : 0 ≡ v = sym (eqb-true v 0 h) in rw z
with_reads (Some f) v ps k h = rw (value_reads f v h)

-- what is taken is what is written of a value
record Taken (f : Option Form) (ps : List (List ℕ)) (k : ℕ → List (List ℕ) → Option Row) (r : Row) : Type 0 where
  value : ℕ
  rest : List (List ℕ)
  cut : ps ≡ field_text f value ++ rest
  then : k value rest ≡ Some r
  ok : form_ok f value ≡ true

with_read : (f : Option Form) (ps : List (List ℕ)) (k : ℕ → List (List ℕ) → Option Row) (r : Row) → with_field f ps k ≡ Some r → Taken f ps k r
unfolding form_ok
with_read None ps k r h = record { value = 0; rest = ps; cut = refl; then = h; ok = refl }
with_read (Some f) [] k r h = absurd (none-some _ h)
with_read (Some f) (p ∷ ps) k r h = value (read_form f p) refl h
  where
    value : (n : Option ℕ) → read_form f p ≡ n → option_and_then (λ v. k v ps) n ≡ Some r → Taken (Some f) (p ∷ ps) k r
    value (Some v) u e = let t = value_read f v p u in record { value = v; rest = ps; cut = rw t.0; then = e; ok = t.1 }
    value None u e = absurd (none-some _ e)

-- the parts of a row, field after field
parts_are : (r : Row) → row_parts r ≡ word_of r.kind ∷ (field_text (form_of r.kind 0) r.a ++ (field_text (form_of r.kind 1) r.b ++ (field_text (form_of r.kind 2) r.c ++ [])))
parts_are r = simp (append_assoc, append-nil)

-- neither tab nor newline stands in them
text_free : (c : ℕ) (f : Option Form) (v : ℕ) (ps : List (List ℕ)) → c < 48 → all_free c (field_text f v ++ ps) ≡ all_free c ps
text_free c None v ps h = refl
text_free c (Some f) v ps h = rw (value_free c f v h)

parts_free : (c : ℕ) (r : Row) → c < 48 → all_free c (row_parts r) ≡ true
parts_free c r h = ap (all_free c) (parts_are r) ∙ rw (kind_free c r.kind h)
    (text_free c (form_of r.kind 0) r.a _ h ∙ (text_free c (form_of r.kind 1) r.b _ h ∙ text_free c (form_of r.kind 2) r.c [] h))

join_free : (c : ℕ) (ps : List (List ℕ)) → eqb 9 c ≡ false → all_free c ps ≡ true → free c (join_on 9 ps) ≡ true
join_free c [] n h = refl
join_free c (p ∷ []) n h = (picked (free c p) false_true h).0
join_free c (p ∷ q ∷ ps) n h =
    let t = picked (free c p) false_true h in
    free_append c p (9 ∷ join_on 9 (q ∷ ps)) t.0 (rw n (join_free c (q ∷ ps) n t.1))

-- no newline stands in a row's line
pub row_free : (r : Row) → free 10 (row_line r) ≡ true
unfolding row_line
row_free r = join_free 10 (row_parts r) refl (parts_free 10 r (omega arith))

-- so a row's text is cut at its newline, and gives its line
pub row_split : (r : Row) (rest : List ℕ) → split_on 10 (row_text r ++ rest) ≡ row_line r ∷ split_on 10 rest
row_split r rest = rw append_assoc (split_cut 10 (row_line r) rest (row_free r))

-- the line of a row that a line can say is read as that row
pub row_reads : (r : Row) → row_ok r ≡ true → read_row (row_line r) ≡ Some r
unfolding read_row row_line
row_reads r h =
    let b = row_bounds r h in
    let k = r.kind in
    ap row_in (split_join 9 (word_of k) _ (parts_free 9 r (omega arith)) ∙ parts_are r)
    ∙ rw (kind_reads k b.kind)
    (with_reads (form_of k 0) r.a _ _ b.first ∙ with_reads (form_of k 1) r.b _ _ b.second ∙ with_reads (form_of k 2) r.c [] _ b.third)

-- a line that is read as a row is that row's line, and a line can say the row
pub row_read : (s : List ℕ) (r : Row) → read_row s ≡ Some r → (row_line r ≡ s) × (row_ok r ≡ true)
unfolding read_row row_line row_ok
row_read s r h = line (split_on 9 s) refl h
  where
    last : (ps : List (List ℕ)) (x : Row) → at_end ps x ≡ Some r → (ps ≡ []) × (x ≡ r)
    last [] x e = (refl, cc)
    last (p ∷ ps) x e = absurd (none-some _ e)

    fields : (w : List ℕ) (ps : List (List ℕ)) (k : ℕ) → split_on 9 s ≡ w ∷ ps → kind_in w ≡ Some k → fields_in ps k ≡ Some r → (row_line r ≡ s) × (row_ok r ≡ true)
    fields w ps k q u h =
        let t = kind_read w k u in
        let a = with_read (form_of k 0) ps _ r h in
        let b = with_read (form_of k 1) a.rest _ r a.then in
        let c = with_read (form_of k 2) b.rest _ r b.then in
        let x : Row = record { kind = k; a = a.value; b = b.value; c = c.value } in
        let e = last c.rest x c.then in
        let p : row_parts x ≡ split_on 9 s = parts_are x ∙ cc (t.0, a.cut, b.cut, c.cut, e.0) in
        rw (← e.1) (ap (join_on 9) p ∙ join_split 9 s, rw (le-leb k end_kind t.1, a.ok, b.ok, c.ok))

    line : (ps : List (List ℕ)) → split_on 9 s ≡ ps → row_in ps ≡ Some r → (row_line r ≡ s) × (row_ok r ≡ true)
    line [] q h = absurd (none-some _ h)
    line (w ∷ ps) q h = kind (kind_in w) refl h
      where
        kind : (x : Option ℕ) → kind_in w ≡ x → option_and_then (fields_in ps) x ≡ Some r → (row_line r ≡ s) × (row_ok r ≡ true)
        kind (Some k) u h = fields w ps k q u h
        kind None u h = absurd (none-some _ h)

-- a text with the tab before each part
abbrev tabs : List (List ℕ) → List ℕ
tabs [] = []
tabs (p ∷ ps) = 9 ∷ p ++ tabs ps

join_tabs : (w : List ℕ) (ps : List (List ℕ)) → join_on 9 (w ∷ ps) ≡ w ++ tabs ps
join_tabs w [] = sym (append-nil w)
join_tabs w (p ∷ ps) = rw (join_tabs p ps)

tabs_text : (f : Option Form) (v : ℕ) (ps : List (List ℕ)) → tabs (field_text f v ++ ps) ≡ tabbed f v ++ tabs ps
unfolding tabbed
tabs_text None v ps = refl
tabs_text (Some f) v ps = refl

-- the line of a row: its word, and each field with its tab
pub row_line_lem : (r : Row) → row_line r ≡ word_of r.kind ++ (tabbed (form_of r.kind 0) r.a ++ (tabbed (form_of r.kind 1) r.b ++ (tabbed (form_of r.kind 2) r.c ++ [])))
unfolding row_line
row_line_lem r = rw (parts_are r, join_tabs, tabs_text, tabs_text, tabs_text)

-- and how long its text is
pub row_length : (r : Row) → length (row_text r) ≡ length (word_of r.kind) + length (tabbed (form_of r.kind 0) r.a) + length (tabbed (form_of r.kind 1) r.b) + length (tabbed (form_of r.kind 2) r.c) + 1
row_length r = rw (row_line_lem r) (simp length-append (omega arith))
