-- Fields one after another: what is written of values reads back as them, and what reads as values is what is written of them; how it is
-- parted by tabs, and how long it is.
use Prim.Native.Nat.{ℕ, zero, suc, ◌+◌, ◌*◌, ◌≤◌, ◌<◌}
use mathlib.Core.Path.{◌≡◌, refl, sym, ap, ◌∙◌}
use mathlib.Core.List.{List, [], ◌∷◌, ◌++◌, append-nil, append_assoc}
use mathlib.Core.Bool.{true, false}
use native.Mathlib.Omega.{arith}
use native.Mathlib.Numerals.{add-one}
use native.Mathlib.Nat.{suc-mul}
use lib.ListN.{length, length-append}
use lib.Dec.{eqb}
use Rattle.std.specs.Prelude.{Option, Some, None}
use Rattle.text.specs.Parts.{split_on, join_on, free}
use Rattle.text.proofs.Picks.{picked, false_true}
use Rattle.text.proofs.Parts.{split_cut, split_join}
use Rattle.text.proofs.Digits.{free_append}
use Rattle.fields.specs.Forms.{read_form, form_text, form_ok}
use Rattle.fields.specs.Fields.{repeated, Part, part, none, with_value, read_fields, field_parts, fields_text, values_ok}
use Rattle.fields.proofs.Forms.{form_reads, form_read, form_free, form_width, form_short}

-- none is no part
none_part : {vs : List ℕ} {ps : List (List ℕ)} → none ≡ part vs ps → ⊥
none_part e = let z : ◌≡◌ {A = ℕ} 0 1 = cc in omega arith

-- the fields that values are written as are read as these values, and what stands behind them is left
pub fields_reads : (fs vs : List ℕ) (ps : List (List ℕ)) → values_ok fs vs ≡ true → read_fields fs (field_parts fs vs ++ ps) ≡ part vs ps
unfolding values_ok read_fields field_parts
fields_reads [] [] ps h = refl
fields_reads [] (v ∷ vs) ps h = absurd (false_true h)
fields_reads (f ∷ fs) [] ps h = absurd (false_true h)
fields_reads (f ∷ fs) (v ∷ vs) ps h =
    let t = picked (form_ok f v) false_true h in
    rw (form_reads f v t.0, fields_reads fs vs ps t.1)

-- fields that are read as values are what these are written as, and the forms can say them
pub fields_read : (fs vs : List ℕ) (ps rest : List (List ℕ)) → read_fields fs ps ≡ part vs rest → (ps ≡ field_parts fs vs ++ rest) × (values_ok fs vs ≡ true)
unfolding values_ok read_fields field_parts
fields_read [] vs ps rest u =
    let a : [] ≡ vs = cc in
    let b : ps ≡ rest = cc in
    rw (← a) (b, refl)
fields_read (f ∷ fs) vs [] rest u = absurd (none_part u)
fields_read (f ∷ fs) vs (p ∷ ps) rest u = go (λ ws qs. fields_read fs ws ps qs) (read_form f p) refl (read_fields fs ps) refl u
  where
    go : ((ws : List ℕ) (qs : List (List ℕ)) → read_fields fs ps ≡ part ws qs → (ps ≡ field_parts fs ws ++ qs) × (values_ok fs ws ≡ true))
        → (n : Option ℕ) → read_form f p ≡ n → (x : Part) → read_fields fs ps ≡ x → with_value n x ≡ part vs rest
        → (p ∷ ps ≡ field_parts (f ∷ fs) vs ++ rest) × (values_ok (f ∷ fs) vs ≡ true)
    go others (Some v) e (part ws qs) q u =
        let a : v ∷ ws ≡ vs = cc in
        let b : qs ≡ rest = cc in
        let h = others ws qs q in
        let w = form_read f v p e in
        rw (← a, ← b, w.0, w.1, h.0) (refl, h.1)
    go others (Some v) e none q u = absurd (none_part u)
    go others None e x q u = absurd (none_part u)

-- a line of a word and fields is cut at its tabs into the word and the fields
pub fields_split : (fs vs w : List ℕ) → free 9 w ≡ true → split_on 9 (w ++ fields_text fs vs) ≡ w ∷ field_parts fs vs
unfolding fields_text field_parts
fields_split [] vs w h = rw (append-nil w) (split_join 9 w [] (rw h))
fields_split (f ∷ fs) [] w h = rw (append-nil w) (split_join 9 w [] (rw h))
fields_split (f ∷ fs) (v ∷ vs) w h =
    split_cut 9 w (form_text f v ++ fields_text fs vs) h ∙ ap (w ∷◌) (fields_split fs vs (form_text f v) (form_free 9 f v (omega arith)))

-- the word and the fields, put together again
pub fields_join : (fs vs w : List ℕ) → join_on 9 (w ∷ field_parts fs vs) ≡ w ++ fields_text fs vs
unfolding fields_text field_parts
fields_join [] vs w = sym (append-nil w)
fields_join (f ∷ fs) [] w = sym (append-nil w)
fields_join (f ∷ fs) (v ∷ vs) w = rw (fields_join fs vs (form_text f v))

-- no byte below the digits' but the tab stands in the fields: no newline
pub fields_free : (c : ℕ) (fs vs : List ℕ) → c < 48 → eqb 9 c ≡ false → free c (fields_text fs vs) ≡ true
unfolding fields_text
fields_free c [] vs h e = refl
fields_free c (f ∷ fs) [] h e = refl
fields_free c (f ∷ fs) (v ∷ vs) h e = rw e (free_append c (form_text f v) (fields_text fs vs) (form_free c f v h) (fields_free c fs vs h e))

-- values that forms can say, behind values that others can
pub ok_append : (fs vs gs ws : List ℕ) → values_ok fs vs ≡ true → values_ok gs ws ≡ true → values_ok (fs ++ gs) (vs ++ ws) ≡ true
unfolding values_ok
ok_append [] [] gs ws h k = k
ok_append [] (v ∷ vs) gs ws h k = absurd (false_true h)
ok_append (f ∷ fs) [] gs ws h k = absurd (false_true h)
ok_append (f ∷ fs) (v ∷ vs) gs ws h k =
    let t = picked (form_ok f v) false_true h in
    rw t.0 (ok_append fs vs gs ws t.1 k)

-- there is one value for each form
pub ok_length : (fs vs : List ℕ) → values_ok fs vs ≡ true → length vs ≡ length fs
unfolding values_ok
ok_length [] [] h = refl
ok_length [] (v ∷ vs) h = absurd (false_true h)
ok_length (f ∷ fs) [] h = absurd (false_true h)
ok_length (f ∷ fs) (v ∷ vs) h = ap suc (ok_length fs vs (picked (form_ok f v) false_true h).1)

-- the fields of two descriptions are those of the first and then those of the second
pub text_append : (fs vs gs ws : List ℕ) → length fs ≡ length vs → fields_text (fs ++ gs) (vs ++ ws) ≡ fields_text fs vs ++ fields_text gs ws
unfolding fields_text
text_append [] [] gs ws h = refl
text_append [] (v ∷ vs) gs ws h = absurd (omega arith)
text_append (f ∷ fs) [] gs ws h = absurd (omega arith)
text_append (f ∷ fs) (v ∷ vs) gs ws h = rw (text_append fs vs gs ws (omega arith), append_assoc)

-- a description once more is the description behind the others
pub repeated_more : (k : ℕ) (fs : List ℕ) → repeated (k + 1) fs ≡ repeated k fs ++ fs
unfolding repeated
repeated_more k fs = rw (add-one k) (more k)
  where
    more : (k : ℕ) → repeated (suc k) fs ≡ repeated k fs ++ fs
    more zero = append-nil fs
    more (suc k) = ap (fs ++◌) (more k) ∙ sym (append_assoc fs (repeated k fs) fs)

-- how many forms that are
pub length_repeated : (k : ℕ) (fs : List ℕ) → length (repeated k fs) ≡ k * length fs
unfolding repeated
length_repeated zero fs = omega arith
length_repeated (suc k) fs = rw (length-append, length_repeated k fs, suc-mul) (omega arith)

-- how long the fields of a description are at most, each with the tab before it
abbrev pub widths_of : List ℕ → ℕ
widths_of [] = 0
widths_of (f ∷ fs) = 1 + form_width f + widths_of fs

-- values that the forms can say are written no longer
pub text_short : (fs vs : List ℕ) → values_ok fs vs ≡ true → length (fields_text fs vs) ≤ widths_of fs
unfolding values_ok fields_text
text_short [] vs h = omega arith
text_short (f ∷ fs) [] h = absurd (false_true h)
text_short (f ∷ fs) (v ∷ vs) h =
    let t = picked (form_ok f v) false_true h in
    omega (arith, length-append (form_text f v) (fields_text fs vs), form_short f v t.0, text_short fs vs t.1)

-- of two descriptions
pub widths_append : (fs gs : List ℕ) → widths_of (fs ++ gs) ≡ widths_of fs + widths_of gs
widths_append [] gs = omega arith
widths_append (f ∷ fs) gs = omega (arith, widths_append fs gs)

-- of a description so many times over
pub widths_repeated : (k : ℕ) (fs : List ℕ) → widths_of (repeated k fs) ≡ k * widths_of fs
unfolding repeated
widths_repeated zero fs = omega arith
widths_repeated (suc k) fs = rw (widths_append, widths_repeated k fs, suc-mul) (omega arith)
