-- The log judged block after block: what the turns carry.
use Prim.Native.Nat.{ℕ, ◌+◌, ◌-◌, ◌*◌, ◌≤◌, ◌<◌}
use mathlib.Core.Bool.{Bool}
use mathlib.Core.Path.{◌≡◌, refl, ◌∙◌}
use mathlib.Core.List.{List}
use native.Mathlib.Omega.{arith}
use lib.ListN.{length}
use Rattle.model.specs.States.{fresh}
use Rattle.prepared.specs.Prepared.{table_in, Prepared}
use Rattle.report.proofs.Lines.{put_length}
use Rattle.tally.specs.Tallies.{Roomy}
use Rattle.engine.specs.Starts.{fresh_going}
use Rattle.engine.specs.declared.Going.{Going}
use Rattle.engine.proofs.Starting.{roomy}
use Rattle.judging.proofs.Hands.{less_roomy}
use Rattle.streaming.specs.Turns.{most_block}
use Rattle.streaming.specs.Lent.{Resumes, Judged}
use Rattle.streaming.specs.declared.Turn.{Turn}
use Rattle.streaming.proofs.Turning.{fresh_resumes, turn_resumes, turn_roomy}

-- how many blocks are read at most
abbrev pub most_blocks : ℕ
most_blocks = 1099511627776

-- the room for what is told of a block
abbrev pub told_room : ℕ
told_room = 172032

-- behind so many blocks the counts have room for those to come, a line more in each
pub record Reading (rows index block₀ block out : List ℕ) (g : Going) (have turns : ℕ) : Type 0 where
  pub resumes : Resumes (table_in rows index) g
  pub roomy : Roomy g.tally ((most_blocks - turns) * (most_block + 1))
  pub within : have ≤ length block
  pub same : length block ≡ length block₀
  pub room : length out ≡ told_room

pub reading_start : (rows index block out : List ℕ) (have : ℕ) → have ≤ length block → length out ≡ told_room → (g : Going) → g ≡ fresh_going
    → Reading rows index block block out g have 0
unfolding fresh_going
reading_start rows index block out have h q g e = record {
  resumes = fresh_resumes (table_in rows index) g e;
  roomy = roomy fresh g e ((most_blocks - 0) * (most_block + 1)) (omega arith);
  within = h;
  same = refl;
  room = q;
}

module _ {rows index block₀ block out : List ℕ} {g : Going} {have turns : ℕ} (R : Reading rows index block₀ block out g have turns)
    (l : length block₀ ≤ most_block) (b : turns < most_blocks) where
  pub reading_roomy : Roomy g.tally have
  reading_roomy = less_roomy R.roomy (omega (arith, R.within, R.same))

  -- the block keeps its length
  pub reading_small : (ended : Bool) {r : Turn} {rest after : List ℕ} → Judged (table_in rows index) g ended block have out r rest after → length rest ≤ most_block
  reading_small ended J = omega (arith, put_length J.held, R.same)

  -- the next block
  pub reading_more : Prepared rows index → (ended : Bool) {r : Turn} {rest after : List ℕ} → Judged (table_in rows index) g ended block have out r rest after
      → (more : List ℕ) → length more ≡ length rest → (got : ℕ) → r.held + got ≤ length rest
      → Reading rows index block₀ more after r.going (r.held + got) (turns + 1)
  reading_more P ended J more e got h = record {
    resumes = turn_resumes P R.resumes block have ended J;
    roomy = turn_roomy P R.resumes block have ended J ((most_blocks - (turns + 1)) * (most_block + 1))
        (less_roomy R.roomy (omega (arith, R.within, R.same)));
    within = omega (arith, e);
    same = e ∙ put_length J.held ∙ R.same;
    room = put_length J.told ∙ R.room;
  }
