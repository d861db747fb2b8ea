-- Fields written by a loop into a buffer that holds them: what is still to write gives what writing all gives.
use Prim.Native.Nat.{ℕ, suc, ◌+◌, ◌≤◌, ◌<◌}
use mathlib.Core.Path.{◌≡◌, refl, sym, ap, ◌∙◌}
use mathlib.Core.List.{List, [], ◌∷◌}
use native.Mathlib.Omega.{arith}
use native.Mathlib.Numerals.{add-one}
use lib.ListN.{length, set, length-append, length-set}
use lib.Seq.{sets, length-sets}
use Rattle.text.specs.Put.{Put}
use Rattle.text.proofs.Puts.{put_fits, sets_append}
use Rattle.fields.specs.Forms.{form_text}
use Rattle.fields.specs.Fields.{fields_text}

-- of the fields of vs those of ws are still to write, the buffer before them all b₀ and now b, the next goes to p
pub record Writing (fs vs b₀ : List ℕ) (at : ℕ) (gs ws b : List ℕ) (p : ℕ) : Type 0 where
  pub enough : length gs ≤ length ws
  pub kept : length b ≡ length b₀
  pub wide : p + length (fields_text gs ws) ≡ at + length (fields_text fs vs)
  pub same : sets b p (fields_text gs ws) ≡ sets b₀ at (fields_text fs vs)

-- none is written yet
pub writing_start : (fs vs b : List ℕ) (at : ℕ) → length fs ≤ length vs → Writing fs vs b at fs vs b at
writing_start fs vs b at h = record { enough = h; kept = refl; wide = refl; same = refl }

-- all are written
pub writing_end : (fs vs b₀ : List ℕ) (at : ℕ) (gs ws b : List ℕ) (p : ℕ) → Writing fs vs b₀ at gs ws b p → length gs ≡ 0 → (p ≡ at + length (fields_text fs vs)) × (b ≡ sets b₀ at (fields_text fs vs))
unfolding fields_text
writing_end fs vs b₀ at [] ws b p w h = (omega (arith, w.wide), w.same)
writing_end fs vs b₀ at (g ∷ gs) ws b p w h = absurd (omega arith)

module _ (fs vs b₀ : List ℕ) (at f v : ℕ) (gs ws b : List ℕ) (p : ℕ) (w : Writing fs vs b₀ at (f ∷ gs) (v ∷ ws) b p) (room : at + length (fields_text fs vs) ≤ length b₀) where
  -- what is left is the next with its tab, and the others
  more : length (fields_text (f ∷ gs) (v ∷ ws)) ≡ suc (length (form_text f v) + length (fields_text gs ws))
  unfolding fields_text
  more = ap suc (length-append (form_text f v) (fields_text gs ws))

  -- there is room for the next with its tab
  fits : p + 1 + length (form_text f v) ≤ length b
  fits = omega (arith, w.wide, w.kept, more)

  -- so there is for the tab
  pub writing_room : p < length b
  writing_room = omega (arith, fits)

  -- the next is written
  pub writing_more : (r : ℕ) (after : List ℕ) → Put (set b p 9) (p + 1) (form_text f v) r after → Writing fs vs b₀ at gs ws after r
  unfolding fields_text
  writing_more r after z =
      let q = put_fits (rw (length-set b p 9) fits) z in
      record {
        enough = omega (arith, w.enough);
        kept = ap length q.1 ∙ length-sets (set b p 9) (p + 1) (form_text f v) ∙ length-set b p 9 ∙ w.kept;
        wide = omega (arith, w.wide, q.0, more);
        same = rw (q.0, q.1) (sym (sets_append (set b p 9) (p + 1) (form_text f v) (fields_text gs ws)) ∙ rw (add-one p) w.same);
      }
