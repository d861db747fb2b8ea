-- Writing a text into a buffer: what a promise `Put` says where the text fits and where it does not, and writing in two runs.
use Prim.Native.Nat.{ℕ, suc, ◌+◌, ◌≤◌, ◌<◌}
use mathlib.Core.Path.{◌≡◌, refl, sym, ◌∙◌}
use mathlib.Core.List.{List, [], ◌∷◌, ◌++◌}
use native.Mathlib.Omega.{arith}
use lib.ListN.{length, set}
use lib.Seq.{sets, length-sets, set_comm}
use lib.Dec.{leb}
use borrow.Author.Tests.{le-leb, lt-leb}
use Rattle.text.specs.Put.{Put, laid}
use Rattle.text.proofs.Picks.{cases}

-- where the text fits, the place goes past it and its bytes stand there
pub put_fits : {buf text after : List ℕ} {at r : ℕ} → at + length text ≤ length buf → Put buf at text r after
    → (r ≡ at + length text) × (after ≡ sets buf at text)
put_fits h p = (p.place ∙ rw (le-leb _ _ h), p.bytes ∙ rw (le-leb _ _ h))

-- where it does not, the place stays and no byte changes
pub put_short : {buf text after : List ℕ} {at r : ℕ} → length buf < at + length text → Put buf at text r after
    → (r ≡ at) × (after ≡ buf)
put_short h p = (p.place ∙ rw (lt-leb _ _ h), p.bytes ∙ rw (lt-leb _ _ h))

-- to write nothing is to leave the place and the bytes
pub put_nothing : (buf : List ℕ) (at : ℕ) → Put buf at [] at buf
put_nothing buf at =
    cases (leb (at + 0) (length buf))
    (λ e. record { place = rw e (omega arith); bytes = rw e })
    (λ e. record { place = rw e; bytes = rw e })

-- the promise leaves no choice
pub put_unique : {buf text after after' : List ℕ} {at r r' : ℕ} → Put buf at text r after → Put buf at text r' after'
    → (r ≡ r') × (after ≡ after')
put_unique p q = (p.place ∙ sym q.place, p.bytes ∙ sym q.bytes)

-- the buffer keeps its length
pub laid_length : (buf : List ℕ) (at : ℕ) (text : List ℕ) → length (laid buf at text) ≡ length buf
laid_length buf at text =
    cases (leb (at + length text) (length buf)) (λ e. rw (e, length-sets buf at text)) (λ e. rw e)

-- one text after another
pub sets_append : (buf : List ℕ) (at : ℕ) (p q : List ℕ) → sets buf at (p ++ q) ≡ sets (sets buf at p) (at + length p) q
sets_append buf at [] q = let e : at + 0 ≡ at = omega arith in rw e
sets_append buf at (x ∷ xs) q =
    let e : suc at + length xs ≡ at + suc (length xs) = omega arith in
    rw (← e) (sets_append (set buf at x) (suc at) xs q)

-- a store past the text may as well come first
pub sets_set : (buf : List ℕ) (at : ℕ) (p : List ℕ) (k v : ℕ) → at + length p ≤ k → sets (set buf k v) at p ≡ set (sets buf at p) k v
sets_set buf at [] k v h = refl
sets_set buf at (x ∷ xs) k v h =
    rw (set_comm buf k at v x (λ e. omega arith)) (sets_set (set buf at x) (suc at) xs k v (omega arith))
