-- `check_codel` meets its contract.
use native.Mathlib.Omega.{arith}
use Rattle.row.specs.Kinds.{most_of}
use Rattle.table.proofs.Refusals.{codel_falls, codel_full, codel_limit, codel_stray, codel_second, codel_fine_lem}
use Rattle.table.proofs.draft.Draft.check_codel.Goals as goal
use Rattle.table.proofs.draft.Draft.check_codel.Goals.{then-is_full-via-then-is_full, then-is_full-via-else-is_full+then-not-in_range}

pub returns-then-not-follows : goal.returns-then-not-follows
returns-then-not-follows c = search (codel_falls)

pub returns-then-is_full : goal.returns-then-is_full
returns-then-is_full c =
    elim c.then-is_full.branch [
      | then-is_full-via-then-is_full w ↦ search (codel_full)
      | then-is_full-via-else-is_full+then-not-in_range w ↦ search (codel_limit)
    ]

pub returns-then-self-r : goal.returns-then-self-r
returns-then-self-r c = search (codel_stray)

pub is_second-requires : goal.is_second-requires
unfolding most_of
is_second-requires c = let m = c.args.self.now.building.counted.most 1 (omega arith) in omega arith

pub returns-then-is_second : goal.returns-then-is_second
returns-then-is_second c = search (codel_second)

pub returns : goal.returns
returns c = search (codel_fine_lem)
