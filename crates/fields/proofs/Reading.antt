-- Fields read from a line by a loop: what is still to take gives what taking all gives.
use Prim.Native.Nat.{ℕ, suc, ◌+◌, ◌-◌, ◌*◌, ◌≤◌, ◌<◌}
use mathlib.Core.Path.{◌≡◌, refl, sym, ap, ◌∙◌}
use mathlib.Core.List.{List}
use native.Mathlib.Omega.{arith}
use native.Mathlib.Numerals.{add-one}
use native.Mathlib.Nat.{add-zero, suc-mul}
use lib.ListN.{length, get_or, drop, set, drop_of_length-le, length-set}
use lib.Seq.{drop-cons}
use Rattle.std.specs.Prelude.{Option, Some, None}
use Rattle.text.specs.Fields.{behind}
use Rattle.text.proofs.Fields.{behind_ends}
use Rattle.fields.specs.Forms.{read_form}
use Rattle.fields.specs.Fields.{repeated, Taken, on_field, took, Took}
use Rattle.fields.proofs.Taking.{took_append, took_append_bad, took_length, took_ends}

-- the first i fields of a description are read, the values before them b₀ and now b, the last of them ends at p
pub record Reading (fs line : List ℕ) (from : ℕ) (b₀ : List ℕ) (x : Taken) (b : List ℕ) (p i : ℕ) : Type 0 where
  pub inside : i ≤ length fs
  pub ends : p ≤ length line
  pub kept : length b ≡ length b₀
  pub same : took (drop i fs) line p (from + i) b ≡ x

-- none is read yet
pub reading_start : (fs line : List ℕ) (at from : ℕ) (b : List ℕ) → at ≤ length line → Reading fs line from b (took fs line at from b) b at 0
reading_start fs line at from b h = record { inside = omega arith; ends = h; kept = refl; same = rw (add-zero from) }

module _ (fs line : List ℕ) (from : ℕ) (b₀ : List ℕ) (x : Taken) (b : List ℕ) (p i : ℕ) (w : Reading fs line from b₀ x b p i) where
  -- all are read
  pub reading_end : length fs ≤ i → Took x (Some p) b
  unfolding took
  reading_end h =
      let e : record { end = Some p; values = b } ≡ x = rw (drop_of_length-le fs h) at w.same in
      record { end = ap (λ y. y.end) e; values = ap (λ y. y.values) e }

  module _ (h : i < length fs) (g : Option (ℕ × ℕ)) (q : g ≡ behind (read_form (get_or fs i 0)) line p) where
    -- taking goes on with the next
    next : on_field g (λ v e. took (drop (suc i) fs) line e (suc (from + i)) (set b (from + i) v)) b ≡ x
    unfolding took
    next = rw q (rw (drop-cons fs i 0 h) at w.same)

    -- the next has bad form
    pub reading_bad : g ≡ None → Took x None b
    reading_bad u =
        let e : record { end = None; values = b } ≡ x = rw u at next in
        record { end = ap (λ y. y.end) e; values = ap (λ y. y.values) e }

    -- the next is read
    pub reading_more : (v e : ℕ) → g ≡ Some (v, e) → Reading fs line from b₀ x (set b (from + i) v) e (i + 1)
    reading_more v e u =
        let n : from + suc i ≡ suc (from + i) = omega arith in
        record {
          inside = omega arith;
          ends = behind_ends (read_form (get_or fs i 0)) line p g q v e u;
          kept = length-set b (from + i) v ∙ w.kept;
          same = rw (add-one i, n) (rw u at next);
        }

-- a description is read k times of many, the values before them b₀ and now b, the next goes to i, the last ends at p
pub record Repeating (fs line : List ℕ) (many : ℕ) (b₀ : List ℕ) (x : Taken) (b : List ℕ) (p i k : ℕ) : Type 0 where
  pub inside : k ≤ many
  pub ends : p ≤ length line
  pub kept : length b ≡ length b₀
  pub room : i + (many - k) * length fs ≤ length b
  pub same : took (repeated (many - k) fs) line p i b ≡ x

-- not once yet
pub repeating_start : (fs line : List ℕ) (many at from : ℕ) (b : List ℕ) → at ≤ length line → from + many * length fs ≤ length b
    → Repeating fs line many b (took (repeated many fs) line at from b) b at from 0
repeating_start fs line many at from b h l =
    let e : many - 0 ≡ many = omega arith in
    record { inside = omega arith; ends = h; kept = refl; room = rw e l; same = rw e }

module _ (fs line : List ℕ) (many : ℕ) (b₀ : List ℕ) (x : Taken) (b : List ℕ) (p i k : ℕ) (w : Repeating fs line many b₀ x b p i k) where
  -- as often as asked for
  pub repeating_end : many ≤ k → Took x (Some p) b
  unfolding took repeated
  repeating_end h =
      let n : many - k ≡ 0 = omega arith in
      let e : record { end = Some p; values = b } ≡ x = rw n at w.same in
      record { end = ap (λ y. y.end) e; values = ap (λ y. y.values) e }

  module _ (h : k < many) where
    -- one less is left
    left : many - k ≡ suc (many - (k + 1))
    left = omega arith

    -- there is room for once more and for those left then
    room_more : i + length fs + (many - (k + 1)) * length fs ≤ length b
    room_more = let l = rw (left, suc-mul (many - (k + 1)) (length fs)) at w.room in omega arith

    -- so there is for once more
    pub repeating_room : i + length fs ≤ length b
    repeating_room = omega (arith, room_more)

    module _ (r : Option ℕ) (after : List ℕ) (t : Took (took fs line p i b) r after) where
      -- it keeps how many values there are
      pub repeating_kept : length after ≡ length b₀
      repeating_kept = ap length t.values ∙ took_length fs line p i b ∙ w.kept

      -- once more has bad form
      pub repeating_bad : r ≡ None → Took x None after
      unfolding repeated
      repeating_bad u =
          let bad : (took fs line p i b).end ≡ None = sym t.end ∙ u in
          let e : took fs line p i b ≡ x = sym (took_append_bad fs (repeated (many - (k + 1)) fs) line p i b bad) ∙ rw left at w.same in
          record { end = sym bad ∙ ap (λ y. y.end) e; values = t.values ∙ ap (λ y. y.values) e }

      -- once more is read
      pub repeating_more : (e : ℕ) → r ≡ Some e → Repeating fs line many b₀ x after e (i + length fs) (k + 1)
      unfolding repeated
      repeating_more e u =
          let there : (took fs line p i b).end ≡ Some e = sym t.end ∙ u in
          let same : length after ≡ length b = ap length t.values ∙ took_length fs line p i b in
          let both : took fs line p i b ≡ record { end = Some e; values = after } = rw (t.values, ← there) in
          record {
            inside = omega arith;
            ends = took_ends fs line p i b e w.ends there;
            kept = repeating_kept;
            room = rw same room_more;
            same = sym (took_append fs (repeated (many - (k + 1)) fs) line p i b e after both) ∙ rw left at w.same;
          }
