-- The lines of a report: how wide they are, and a text written piece by piece into a buffer that holds it.
use Prim.Native.Nat.{ℕ, suc, ◌+◌, ◌*◌, ◌≤◌, ◌<◌}
use mathlib.Core.Path.{◌≡◌, refl, sym, ap, ◌∙◌}
use mathlib.Core.List.{List, [], ◌∷◌, ◌++◌, append-nil}
use mathlib.Core.Bool.{Bool, true, false, not}
use native.Mathlib.Omega.{arith}
use native.Mathlib.Numerals.{add-one}
use lib.ListN.{length, get_or, drop, set, drop_of_length-le, length-append, length-set}
use lib.Seq.{drop-cons, sets, length-sets}
use lib.Dec.{leb}
use borrow.Author.Tests.{le-leb}
use Rattle.text.specs.Number.{width_of, digits}
use Rattle.text.specs.Put.{Put}
use Rattle.text.proofs.Numbers.{length_digits, width_within}
use Rattle.text.proofs.Laying.{put_none, put_room}
use Rattle.text.proofs.Puts.{put_fits, laid_length, sets_append}
use Rattle.report.specs.Rows.{numbers_text, line_text, kept_word, head_text, cycle_numbers, cycle_text}
use Rattle.report.specs.declared.Cycle.{Cycle}

-- the numbers of a line from one on
module _ (ns : List ℕ) (i : ℕ) where
  numbers_more : i < length ns → numbers_text (drop i ns) ≡ 9 ∷ (digits (get_or ns i 0) ++ numbers_text (drop (i + 1) ns))
  unfolding numbers_text
  numbers_more h = rw (drop-cons ns i 0 h, add-one i)

  numbers_none : length ns ≤ i → numbers_text (drop i ns) ≡ 10 ∷ []
  unfolding numbers_text
  numbers_none h = rw (drop_of_length-le ns h)

-- a line is never empty
numbers_some : (ns : List ℕ) → 0 < length (numbers_text ns)
unfolding numbers_text
numbers_some [] = omega arith
numbers_some (n ∷ ns) = omega arith

-- a writer keeps the buffer's length
pub put_length : {buf text after : List ℕ} {at r : ℕ} → Put buf at text r after → length after ≡ length buf
put_length {buf} {text} {at = at} p = ap length p.bytes ∙ laid_length buf at text

-- the width of a line
pub line_length : (word ns : List ℕ) → length (line_text word ns) ≡ length word + length (numbers_text ns)
unfolding line_text
line_length word ns = length-append word (numbers_text ns)

-- the row of a kept cycle is never empty
pub row_some : (k : Cycle) → 0 < length (cycle_text k)
row_some k = omega (arith, line_length kept_word (cycle_numbers k), numbers_some (cycle_numbers k))

-- the header's width
pub head_length : length head_text ≡ 9
unfolding line_text numbers_text digits width_of
head_length = refl

-- twenty digits a number at most
pub numbers_most : (ns : List ℕ) → length (numbers_text ns) ≤ 1 + 21 * length ns
unfolding numbers_text
numbers_most [] = omega arith
numbers_most (n ∷ ns) = let h = numbers_most ns in omega (arith, length-append (digits n) (numbers_text ns), length_digits n, (width_within n).1)

-- so is the row of a kept cycle no wider than this
pub row_most : (k : Cycle) → length (cycle_text k) ≤ 131
row_most k = omega (arith, line_length kept_word (cycle_numbers k), numbers_most (cycle_numbers k))

-- a number is at most twenty digits wide
pub width_small : (n w : ℕ) → w ≡ width_of n → w ≤ 20
width_small n w e = rw e (width_within n).1

-- the width so far, with the newline, and that of the numbers left
module _ (ns : List ℕ) (w i r : ℕ) (now : w + length (numbers_text (drop i ns)) ≡ r + 1) where
  pub width_more : i < length ns → (x : ℕ) → x ≡ width_of (get_or ns i 0) → w + (1 + x) + length (numbers_text (drop (i + 1) ns)) ≡ r + 1
  width_more h x e =
      let l : length (numbers_text (drop i ns)) ≡ suc (x + length (numbers_text (drop (i + 1) ns))) =
      rw (numbers_more ns i h, length-append (digits (get_or ns i 0)) (numbers_text (drop (i + 1) ns)), length_digits (get_or ns i 0), e) in
      omega arith

  pub width_all : length ns ≤ i → w ≡ r
  width_all h = let l : length (numbers_text (drop i ns)) ≡ 1 = rw (numbers_none ns i h) in omega arith

-- a text that a buffer holds from a place on, written up to what is left of it
pub record Writing (buf₀ : List ℕ) (at : ℕ) (text : List ℕ) (buf : List ℕ) (place : ℕ) (left : List ℕ) : Type 0 where
  pub kept : length buf ≡ length buf₀
  pub wide : place + length left ≡ at + length text
  pub room : at + length text ≤ length buf₀
  pub same : sets buf place left ≡ sets buf₀ at text

-- nothing is written yet
pub writing_start : (buf : List ℕ) (at : ℕ) (text : List ℕ) → at + length text ≤ length buf → Writing buf at text buf at text
writing_start buf at text h = record { kept = refl; wide = refl; room = h; same = refl }

module _ {buf₀ : List ℕ} {at : ℕ} {text : List ℕ} {buf : List ℕ} {place : ℕ} where
  -- a piece is written
  pub writing_put : {p q : List ℕ} → Writing buf₀ at text buf place (p ++ q) → {r : ℕ} {after : List ℕ} → Put buf place p r after → Writing buf₀ at text after r q
  writing_put {p} {q} w {r} {after} z =
      let l = length-append p q in
      let f = put_fits (omega (arith, w.kept, w.wide, w.room)) z in
      record {
        kept = ap length f.1 ∙ length-sets buf place p ∙ w.kept;
        wide = omega (arith, f.0, w.wide);
        room = w.room;
        same = rw (f.0, f.1) (sym (sets_append buf place p q) ∙ w.same);
      }

  -- a byte is written
  writing_byte : {b : ℕ} {q : List ℕ} → Writing buf₀ at text buf place (b ∷ q) → Writing buf₀ at text (set buf place b) (place + 1) q
  writing_byte {b} w = record {
    kept = length-set buf place b ∙ w.kept;
    wide = omega (arith, w.wide);
    room = w.room;
    same = rw (add-one place) w.same;
  }

  -- nothing is left
  writing_end : Writing buf₀ at text buf place [] → Put buf₀ at text place buf
  writing_end w = record { place = rw (le-leb _ _ w.room) (omega (arith, w.wide)); bytes = rw (le-leb _ _ w.room) w.same }

-- the last piece is written
pub writing_last : {b₀ b₁ b₂ text p : List ℕ} {at place r : ℕ} → Writing b₀ at text b₁ place p → Put b₁ place p r b₂ → Put b₀ at text r b₂
writing_last {p = p} w z = writing_end (writing_put (rw (append-nil p) w) z)

-- what is left is written in its turn
writing_on : {b₀ b₁ b₂ text left rest : List ℕ} {at p q : ℕ} → Writing b₀ at text b₁ p left → Writing b₁ p left b₂ q rest → Writing b₀ at text b₂ q rest
writing_on v w = record { kept = w.kept ∙ v.kept; wide = w.wide ∙ v.wide; room = v.room; same = w.same ∙ v.same }

-- the numbers of a line written, and its newline
module _ (buf₀ : List ℕ) (at : ℕ) (ns : List ℕ) (buf : List ℕ) (place i : ℕ) (w : Writing buf₀ at (numbers_text ns) buf place (numbers_text (drop i ns))) where
  -- a byte of what is left has room
  pub line_room : place < length buf
  line_room = omega (arith, w.kept, w.wide, w.room, numbers_some (drop i ns))

  -- a tab and a number
  pub line_more : i < length ns → (r : ℕ) (after : List ℕ) → Put (set buf place 9) (place + 1) (digits (get_or ns i 0)) r after
      → Writing buf₀ at (numbers_text ns) after r (numbers_text (drop (i + 1) ns))
  line_more h r after z =
      let v : Writing buf₀ at (numbers_text ns) buf place (9 ∷ (digits (get_or ns i 0) ++ numbers_text (drop (i + 1) ns))) = rw (numbers_more ns i h) at w in
      writing_put (writing_byte v) z

  -- the newline
  newline : length ns ≤ i → Writing buf₀ at (numbers_text ns) (set buf place 10) (place + 1) []
  newline h = writing_byte (rw (numbers_none ns i h) at w)

-- a line, where its room was tested
module _ (buf₀ : List ℕ) (at : ℕ) (word ns : List ℕ) (w : ℕ) (l : w ≡ length word + length (numbers_text ns)) (fit : Bool) (e : fit ≡ leb (at + w) (length buf₀)) where
  wide : length (line_text word ns) ≡ w
  wide = line_length word ns ∙ sym l

  -- there is no room
  pub line_none : not fit ≡ true → Put buf₀ at (line_text word ns) at buf₀
  line_none n = put_none buf₀ at w (line_text word ns) fit e wide n

  module _ (y : not fit ≡ false) (r : ℕ) (after : List ℕ) (z : Put buf₀ at word r after) where
    behind : Writing buf₀ at (line_text word ns) after r (numbers_text ns)
    unfolding line_text
    behind = writing_put (writing_start buf₀ at (line_text word ns) (rw wide (put_room buf₀ at w fit e y))) z

    -- its word is written, and the numbers are left
    pub line_start : Writing after r (numbers_text ns) after r (numbers_text (drop 0 ns))
    line_start = writing_start after r (numbers_text ns) (omega (arith, behind.wide, behind.room, behind.kept))

    module _ (buf : List ℕ) (place i : ℕ) (v : Writing after r (numbers_text ns) buf place (numbers_text (drop i ns))) where
      -- and it is whole with the newline
      pub line_kept : (x : ℕ) → length (set buf place x) ≡ length buf₀
      line_kept x = length-set buf place x ∙ v.kept ∙ behind.kept

      pub line_end : length ns ≤ i → Put buf₀ at (line_text word ns) (place + 1) (set buf place 10)
      line_end h = writing_end (writing_on behind (newline after r ns buf place i v h))

-- a line whose numbers are known
pub known_put : (word ns known : List ℕ) → ns ≡ known → (buf : List ℕ) (at r : ℕ) (after : List ℕ) → Put buf at (line_text word ns) r after → Put buf at (line_text word known) r after
known_put word ns known e buf at r after p = rw e at p
