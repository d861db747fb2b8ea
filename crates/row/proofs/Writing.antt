-- A row written: its word, its fields and its newline.
use Prim.Native.Nat.{ℕ, ◌+◌, ◌≤◌}
use mathlib.Core.Path.{◌≡◌, refl, sym, ap, ◌∙◌}
use mathlib.Core.List.{List, [], ◌∷◌, ◌++◌}
use mathlib.Core.Bool.{Bool, false, not}
use native.Mathlib.Omega.{arith}
use native.Mathlib.Numerals.{add-one}
use lib.ListN.{length, set, length-set, length-append}
use lib.Seq.{sets, length-sets}
use lib.Dec.{leb}
use Rattle.text.specs.Put.{Put}
use Rattle.text.proofs.Puts.{put_fits, sets_append}
use Rattle.text.proofs.Laying.{put_whole}
use Rattle.row.specs.Kinds.{RowKind, said, kind_at, word_of, form_of}
use Rattle.row.specs.declared.Kind.{Kind}
use Rattle.row.specs.Row.{value_text, tabbed, row_line, row_text}
use Rattle.row.specs.declared.Form.{Form}
use Rattle.row.specs.declared.Row.{Row}
use Rattle.std.specs.Prelude.{Option, Some}
use Rattle.row.proofs.Rows.{row_line_lem, row_length}

-- a field written: the tab, then the value
module _ (f : Form) (v : ℕ) (b : List ℕ) (at r : ℕ) (after : List ℕ) (p : Put (set b at 9) (at + 1) (value_text f v) r after) where
  pub field_put : at + length (tabbed (Some f) v) ≤ length b → (r ≡ at + length (tabbed (Some f) v)) × (after ≡ sets b at (tabbed (Some f) v))
  unfolding tabbed
  field_put h =
      let room : at + 1 + length (value_text f v) ≤ length (set b at 9) = rw length-set (omega arith) in
      let e = put_fits room p in
      (omega (arith, e.0), e.1 ∙ rw add-one)

-- the word of a kind, as the code's entry says it
pub word_said : (x : Kind) (k : ℕ) → said x ≡ kind_at k → x.word.now ≡ word_of k
unfolding word_of
word_said x k e = ap (λ (y : RowKind). y.word) e

pub word_put : (x : Kind) (k : ℕ) (b : List ℕ) (at r : ℕ) (after : List ℕ) → said x ≡ kind_at k → Put b at x.word.now r after → Put b at (word_of k) r after
word_put x k b at r after e p = rw (word_said x k e) at p

-- how long a row's text is
pub width_whole : (r : Row) (w a b c : ℕ) (f₀ f₁ f₂ : Option Form) → w ≡ length (word_of r.kind)
    → f₀ ≡ form_of r.kind 0 → a ≡ length (tabbed f₀ r.a)
    → f₁ ≡ form_of r.kind 1 → b ≡ length (tabbed f₁ r.b)
    → f₂ ≡ form_of r.kind 2 → c ≡ length (tabbed f₂ r.c)
    → w + a + b + c + 1 ≡ length (row_text r)
width_whole r w a b c f₀ f₁ f₂ e p₀ q₀ p₁ q₁ p₂ q₂ = rw (row_length r, ← p₀, ← p₁, ← p₂, ← e, ← q₀, ← q₁, ← q₂)

-- a text half written: from here the rest is to be written, and gives what writing all gives
record Left (b : List ℕ) (at : ℕ) (text : List ℕ) (p : ℕ) (now rest : List ℕ) : Type 0 where
  same : sets now p rest ≡ sets b at text
  ends : p + length rest ≡ at + length text
  kept : length now ≡ length b

left_start : (b : List ℕ) (at : ℕ) (text rest : List ℕ) → text ≡ rest → Left b at text at b rest
left_start b at text rest e = record { same = rw e; ends = rw e; kept = refl }

module _ (b : List ℕ) (at : ℕ) (text : List ℕ) (p : ℕ) (now x rest : List ℕ) (l : Left b at text p now (x ++ rest)) where
  left_more : (q : ℕ) (after : List ℕ) → (q ≡ p + length x) × (after ≡ sets now p x) → Left b at text q after rest
  left_more q after h =
      record {
        same = rw (h.0, h.1) (sym (sets_append now p x rest) ∙ l.same);
        ends = omega (arith, l.ends, h.0, length-append x rest);
        kept = ap length h.1 ∙ length-sets now p x ∙ l.kept;
      }

  left_room : at + length text ≤ length b → p + length x ≤ length now
  left_room h = omega (arith, l.ends, l.kept, length-append x rest)

-- a line written: its word and its three fields
module _ (r : Row) (b : List ℕ) (at : ℕ) (room : at + length (row_line r) ≤ length b) (w : ℕ) (b₁ : List ℕ) (h₁ : Put b at (word_of r.kind) w b₁) (f₀ : Option Form) (e₀ : f₀ ≡ form_of r.kind 0) where
  left₀ : Left b at (row_line r) w b₁ (tabbed f₀ r.a ++ (tabbed (form_of r.kind 1) r.b ++ (tabbed (form_of r.kind 2) r.c ++ [])))
  left₀ =
      let whole = left_start b at (row_line r) _ (row_line_lem r) in
      rw e₀ (left_more b at (row_line r) at b (word_of r.kind) _ whole w b₁ (put_fits (left_room b at (row_line r) at b (word_of r.kind) _ whole room) h₁))

  pub first_room : w + length (tabbed f₀ r.a) ≤ length b₁
  first_room = left_room b at (row_line r) w b₁ (tabbed f₀ r.a) _ left₀ room

  module _ (p : ℕ) (b₂ : List ℕ) (h₂ : (p ≡ w + length (tabbed f₀ r.a)) × (b₂ ≡ sets b₁ w (tabbed f₀ r.a))) (f₁ : Option Form) (e₁ : f₁ ≡ form_of r.kind 1) where
    left₁ : Left b at (row_line r) p b₂ (tabbed f₁ r.b ++ (tabbed (form_of r.kind 2) r.c ++ []))
    left₁ = rw e₁ (left_more b at (row_line r) w b₁ (tabbed f₀ r.a) _ left₀ p b₂ h₂)

    pub second_room : p + length (tabbed f₁ r.b) ≤ length b₂
    second_room = left_room b at (row_line r) p b₂ (tabbed f₁ r.b) _ left₁ room

    module _ (q : ℕ) (b₃ : List ℕ) (h₃ : (q ≡ p + length (tabbed f₁ r.b)) × (b₃ ≡ sets b₂ p (tabbed f₁ r.b))) (f₂ : Option Form) (e₂ : f₂ ≡ form_of r.kind 2) where
      left₂ : Left b at (row_line r) q b₃ (tabbed f₂ r.c ++ [])
      left₂ = rw e₂ (left_more b at (row_line r) p b₂ (tabbed f₁ r.b) _ left₁ q b₃ h₃)

      pub third_room : q + length (tabbed f₂ r.c) ≤ length b₃
      third_room = left_room b at (row_line r) q b₃ (tabbed f₂ r.c) [] left₂ room

      pub line_put : (e : ℕ) (b₄ : List ℕ) → (e ≡ q + length (tabbed f₂ r.c)) × (b₄ ≡ sets b₃ q (tabbed f₂ r.c)) → (e ≡ at + length (row_line r)) × (b₄ ≡ sets b at (row_line r))
      line_put e b₄ h₄ =
          let l = left_more b at (row_line r) q b₃ (tabbed f₂ r.c) [] left₂ e b₄ h₄ in
          (omega (arith, l.ends), l.same)

-- a row written: its line, then the newline
module _ (r : Row) (b : List ℕ) (at n : ℕ) (m : n ≡ length (row_text r)) (fit : Bool) (q : fit ≡ leb (at + n) (length b)) (y : not fit ≡ false) where
  pub row_put : (e : ℕ) (after : List ℕ) → (e ≡ at + length (row_line r)) × (after ≡ sets b at (row_line r)) → Put b at (row_text r) (e + 1) (set after e 10)
  row_put e after h =
      put_whole b at n (row_text r) fit q (sym m) y (e + 1) (set after e 10)
      (omega (arith, h.0, m, length-append (row_line r) (10 ∷ [])))
      (rw (h.0, h.1) (sym (sets_append b at (row_line r) (10 ∷ []))))
