-- A text laid into a buffer: whether there is room for it, and its bytes copied.
use Prim.Native.Nat.{ℕ, suc, ◌+◌, ◌≤◌, ◌<◌}
use mathlib.Core.Path.{◌≡◌, sym, ◌∙◌}
use mathlib.Core.List.{List}
use mathlib.Core.Bool.{Bool, true, false, not}
use native.Mathlib.Omega.{arith}
use native.Mathlib.Numerals.{add-one}
use native.Mathlib.Nat.{add-zero}
use lib.ListN.{length, get_or, drop, set, drop_of_length-le}
use lib.Seq.{drop-cons, sets}
use lib.Dec.{leb}
use borrow.Author.Tests.{leb-true, not-true, not-false}
use Rattle.text.specs.Put.{Put}

-- a text that does not fit, and one that does
module _ (buf : List ℕ) (at many : ℕ) (text : List ℕ) (fit : Bool) (e : fit ≡ leb (at + many) (length buf)) (l : length text ≡ many) where
  -- no room: nothing is written
  pub put_none : not fit ≡ true → Put buf at text at buf
  put_none n = let t = sym e ∙ not-true fit n in record { place = rw (l, t); bytes = rw (l, t) }

  -- room, and the text written
  pub put_whole : not fit ≡ false → (r : ℕ) (after : List ℕ) → r ≡ at + many → after ≡ sets buf at text → Put buf at text r after
  put_whole y r after p q = let t = sym e ∙ not-false fit y in record { place = rw (l, t) p; bytes = rw (l, t) q }

-- and the room that the test found
module _ (buf : List ℕ) (at many : ℕ) (fit : Bool) (e : fit ≡ leb (at + many) (length buf)) (y : not fit ≡ false) where
  -- the test that passed
  pub put_room : at + many ≤ length buf
  put_room = leb-true _ _ (sym e ∙ not-false fit y)

-- before the first byte of a text is copied
pub copy_start : (buf s : List ℕ) (at : ℕ) → sets buf (at + 0) s ≡ sets buf at s
copy_start buf s at = rw add-zero

-- the bytes of a text, one after the other
module _ (buf : List ℕ) (at i : ℕ) (s r : List ℕ) (now : sets buf (at + i) (drop i s) ≡ r) where
  -- a byte is stored
  pub copy_more : i < length s → sets (set buf (at + i) (get_or s i 0)) (at + (i + 1)) (drop (i + 1) s) ≡ r
  copy_more h = let e : at + suc i ≡ suc (at + i) = omega arith in rw (add-one i, e) (rw (drop-cons s i 0 h) at now)

  -- no byte is left
  pub copy_end : length s ≤ i → buf ≡ r
  copy_end h = rw (drop_of_length-le s h) at now
