-- The bytes at hand at the front of a block: the lines that are taken of them, the room that counts have for them, and what is written from a
-- buffer's start.
use Prim.Native.Nat.{ℕ, ◌+◌, ◌≤◌}
use mathlib.Core.Bool.{Bool}
use mathlib.Core.List.{List}
use mathlib.Core.Path.{◌≡◌, sym, ap, ◌∙◌}
use native.Mathlib.Omega.{arith}
use lib.ListN.{length, take, length-take}
use lib.Seq.{take-take, length-take-le}
use Rattle.text.specs.Put.{Put}
use Rattle.text.proofs.Picks.{order}
use Rattle.text.proofs.Puts.{put_fits, put_short}
use Rattle.report.proofs.Lines.{put_length}
use Rattle.tally.specs.Tallies.{Roomy}
use Rattle.tally.specs.declared.Tally.{Tally}
use Rattle.stream.specs.Chunk.{chunk_end}
use Rattle.stream.proofs.Lines.{chunk_within}

-- what was written from the start of a buffer ends within it
pub put_within : {buf text after : List ℕ} {r : ℕ} → Put buf 0 text r after → r ≤ length after
put_within {buf} {text} p =
    order (length buf) (0 + length text)
    (λ l. omega (arith, (put_short l p).0))
    (λ l. omega (arith, (put_fits l p).0, put_length p))

-- room for more is room for less
pub less_roomy : {c : Tally} {n m : ℕ} → Roomy c n → m ≤ n → Roomy c m
less_roomy h l = record {
  lines = omega (arith, h.lines);
  opened = omega (arith, h.opened);
  kept = omega (arith, h.kept);
  dropped = omega (arith, h.dropped);
  since = omega (arith, h.since);
}

-- the lines taken now
module _ (block : List ℕ) (have : ℕ) (h : have ≤ length block) (ended : Bool) (end : ℕ) (e : end ≡ chunk_end ended (take have block)) where
  -- they lie within the bytes at hand
  pub chunk_least : end ≤ have
  chunk_least = omega (arith, chunk_within ended (take have block) end e, length-take-le have block h)

  -- so within the block
  pub chunk_inside : end ≤ length block
  chunk_inside = omega (arith, chunk_least)

  -- they are those that the definition takes
  pub chunk_bytes : take end block ≡ take (chunk_end ended (take have block)) (take have block)
  chunk_bytes = sym (take-take end have block chunk_least) ∙ ap (λ n. take n (take have block)) e

  -- counts with room for the bytes at hand have room for them
  pub chunk_roomy : {c : Tally} → Roomy c have → {n : ℕ} → n ≤ length (take end block) → Roomy c n
  chunk_roomy r l = less_roomy r (omega (arith, chunk_least, length-take end block))
