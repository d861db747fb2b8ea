-- A run's start: what is kept beside a state, made row by row, and that a run may start there.
use mathlib.Core.List.{List, map, map-append}
use mathlib.Core.Path.{◌≡◌, refl, sym, subst⁻¹, ◌∙◌}
use Prim.Native.Nat.{ℕ, ◌+◌, ◌≤◌, ◌<◌}
use native.Mathlib.Numerals.{add-one}
use native.Mathlib.Omega.{arith}
use lib.Dec.{T}
use lib.ListN.{length, get_or, set, take, length-set}
use lib.Seq.{take_all, take-suc, take-suc-set}
use Rattle.model.specs.Limits.{most_acts}
use Rattle.model.specs.Tables.{Table}
use Rattle.model.specs.States.{no_act, fresh}
use Rattle.model.specs.Sound.{sound}
use Rattle.model.specs.declared.Act.{Act}
use Rattle.model.specs.declared.State.{State}
use Rattle.model.proofs.Soundness.{fresh_sound}
use Rattle.conflicts.specs.Busy.{busy_of}
use Rattle.managing.specs.Listed.{listed_of}
use Rattle.tally.specs.Tallies.{most_count, Roomy}
use Rattle.tally.specs.declared.Tally.{Tally}
use Rattle.engine.specs.Play.{Ready}
use Rattle.engine.specs.Starts.{going_at, going_from, fresh_going}
use Rattle.engine.specs.declared.Going.{Going}

-- the first a of the numbers l are those of the first a activities
pub record Noted (f : Act → ℕ) (acts : List Act) (l : List ℕ) (a : ℕ) : Type 0 where
  pub rows : length acts ≡ most_acts
  pub size : length l ≡ most_acts
  pub same : take a l ≡ map f (take a acts)

module _ {f : Act → ℕ} {acts : List Act} {l : List ℕ} where
  pub noted_none : length acts ≡ most_acts → length l ≡ most_acts → Noted f acts l 0
  noted_none h k = record { rows = h; size = k; same = refl }

  pub noted_more : {a : ℕ} (v : ℕ) → Noted f acts l a → a < most_acts → v ≡ f (get_or acts a no_act) → Noted f acts (set l a v) (a + 1)
  noted_more {a} v N h e =
      let i : a < length l = omega (arith, N.size) in
      let j : a < length acts = omega (arith, N.rows) in
      record {
        rows = N.rows;
        size = length-set l a v ∙ N.size;
        same = rw (add-one, take-suc-set l a v i, N.same, take-suc acts a no_act j, map-append f, e);
      }

  noted_all : {a : ℕ} → Noted f acts l a → most_acts ≤ a → l ≡ map f acts
  noted_all {a} N h = sym (take_all a l (omega (arith, N.size))) ∙ N.same ∙ rw (take_all a acts (omega (arith, N.rows)))

pub going_made : {busy listed : List ℕ} {a : ℕ} (s : State) (c : Tally) → Noted busy_of s.acts busy a → Noted listed_of s.acts listed a → most_acts ≤ a → record { state = s; busy = busy; listed = listed; tally = c } ≡ going_at s c
going_made s c B L h = rw (noted_all B h, noted_all L h)

-- a run may start at a sound state, whatever the tally, and at the fresh one
pub ready : (s : State) (c : Tally) (g : Going) → g ≡ going_at s c → (K : Table) → T (sound K s) → Ready K g
ready s c g e K h = subst⁻¹ (λ g. Ready K g) e (record { sound = h; busy = refl; listed = refl })

-- and with nothing counted there is room
module _ (s : State) (g : Going) (e : g ≡ going_from s) where
  pub roomy : (n : ℕ) → n ≤ most_count → Roomy g.tally n
  roomy n h = let k : 0 + n ≤ most_count = omega arith in subst⁻¹ (λ g. Roomy g.tally n) e (record { lines = k; opened = k; kept = k; dropped = k; since = k })

  pub going_fresh : s ≡ fresh → g ≡ fresh_going
  unfolding fresh_going
  going_fresh h = e ∙ rw h

pub fresh_ready : (K : Table) → Ready K fresh_going
unfolding fresh_going
fresh_ready K = record { sound = fresh_sound K; busy = refl; listed = refl }
