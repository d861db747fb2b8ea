-- The log gone through block after block: what the turns carry.
use Prim.Native.Nat.{ℕ, ◌+◌, ◌-◌, ◌*◌, ◌≤◌, ◌<◌}
use mathlib.Core.Bool.{Bool}
use mathlib.Core.List.{List}
use mathlib.Core.Path.{◌≡◌, refl, subst⁻¹, ◌∙◌}
use native.Mathlib.Omega.{arith}
use lib.Dec.{T}
use lib.ListN.{length, take, length-take}
use Rattle.model.specs.Rows.{wellformed}
use Rattle.model.specs.States.{fresh}
use Rattle.model.specs.Sound.{sound}
use Rattle.model.proofs.Tests.{true_T}
use Rattle.model.proofs.Soundness.{Sound, start_sound}
use Rattle.prepared.specs.Prepared.{table_in, Prepared}
use Rattle.report.proofs.Lines.{put_length}
use Rattle.stream.specs.Cut.{cut_of}
use Rattle.stream.proofs.Cuts.{cut_within}
use Rattle.tally.specs.Tallies.{most_count, lines_of, Roomy}
use Rattle.engine.specs.Play.{Ready}
use Rattle.engine.specs.Starts.{fresh_going}
use Rattle.engine.specs.declared.Going.{Going}
use Rattle.engine.proofs.Starting.{fresh_ready, roomy}
use Rattle.judging.proofs.Hands.{less_roomy}
use Rattle.reaching.specs.Passing.{Turned}
use Rattle.reaching.specs.declared.Turn.{Turn}
use Rattle.reaching.proofs.Program.{turn_sound, turn_roomy}

-- where the table ends lies within the bytes at hand
pub cut_inside : (block : List ℕ) (have cut : ℕ) → cut ≡ cut_of (take have block) → cut ≤ length block
cut_inside block have cut e = omega (arith, cut_within (take have block) cut e, length-take have block)

-- how many blocks are read at most, and how long one is at most
abbrev pub most_blocks : ℕ
most_blocks = 1099511627776

abbrev pub most_block : ℕ
most_block = 65536

-- behind so many blocks the counts have room for those to come
pub record Reading (rows index block₀ block : List ℕ) (g : Going) (have turns : ℕ) : Type 0 where
  pub sound : Sound (table_in rows index) g.state
  pub ready : Ready (table_in rows index) g
  pub roomy : Roomy g.tally ((most_blocks - turns) * most_block)
  pub within : have ≤ length block
  pub same : length block ≡ length block₀

pub reading_start : (rows index block : List ℕ) (have : ℕ) → have ≤ length block → (g : Going) → g ≡ fresh_going → Reading rows index block block g have 0
unfolding fresh_going
reading_start rows index block have h g e = record {
  sound = subst⁻¹ (λ g. Sound (table_in rows index) g.state) e (start_sound (table_in rows index));
  ready = subst⁻¹ (Ready (table_in rows index)) e (fresh_ready (table_in rows index));
  roomy = roomy fresh g e ((most_blocks - 0) * most_block) (omega arith);
  within = h;
  same = refl;
}

module _ {rows index block₀ block : List ℕ} {g : Going} {have turns : ℕ} (R : Reading rows index block₀ block g have turns) (l : length block₀ ≤ most_block) (b : turns < most_blocks) where
  pub reading_roomy : Roomy g.tally have
  reading_roomy = less_roomy R.roomy (omega (arith, R.within, R.same))

  module _ (P : Prepared rows index) (ended : Bool) {r : Turn} {rest : List ℕ} (J : Turned (table_in rows index) g ended block have r rest) where
    wf : T (wellformed (table_in rows index))
    wf = true_T _ P.formed

    -- the counts behind the turn
    turn_room : (n : ℕ) → have + n ≤ (most_blocks - turns) * most_block → Roomy r.going.tally n
    turn_room n h = turn_roomy J wf n (less_roomy R.roomy h)

    -- the answer may be told
    pub reading_ends : T (sound (table_in rows index) r.going.state) × (lines_of r.going.tally ≤ most_count)
    reading_ends = ((turn_sound J wf R.sound).1.sound, omega (arith, (turn_room 0 (omega (arith, R.within, R.same))).lines))

    -- the block keeps its length
    pub reading_small : length rest ≤ most_block
    reading_small = omega (arith, put_length J.held, R.same)

    -- the next block
    pub reading_more : (more : List ℕ) → length more ≡ length rest → (got : ℕ) → r.held + got ≤ length rest → Reading rows index block₀ more r.going (r.held + got) (turns + 1)
    reading_more more e got h =
        let s = turn_sound J wf R.sound in
        record {
          sound = s.0;
          ready = s.1;
          roomy = turn_room ((most_blocks - (turns + 1)) * most_block) (omega (arith, R.within, R.same));
          within = omega (arith, e);
          same = e ∙ put_length J.held ∙ R.same;
        }
