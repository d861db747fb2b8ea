-- The rows that a component's rows name are few enough for the state and for the marks.
use Rattle.std.proofs.Common.{◌≡◌, ℕ, ◌<◌, arith}
use Rattle.model.specs.Limits.{most_tasks, most_acts, most_codels}
use Rattle.model.specs.declared.Place.{Place}
use Rattle.model.specs.declared.Place.TheVariants.{Codel}
use Rattle.prepared.specs.Prepared.{pause_of}
use Rattle.prepared.specs.Held.{held}
use Rattle.prepared.specs.declared.component.Component.{Component}
use Rattle.prepared.proofs.Stored.{shape, most_tasks_lem, most_acts_lem, most_codels_lem}
use Rattle.soundness.proofs.Marked.{pause_codel}

module _ (k : Component) where
  -- an activity's task
  pub task_room : (a t : ℕ) → t ≡ (held k).task a → a < (held k).nacts → t < most_tasks
  task_room a t q h = omega (arith, (shape k.prepared).task a h, most_tasks_lem k.prepared)

  -- where an edge pauses
  pub pause_room : (p : Place) (e c : ℕ) → p ≡ pause_of ((held k).edge e) → p ≡ Codel c → e < (held k).nedges → c < most_codels
  pause_room p e c q f h = omega (arith, pause_codel (held k) (shape k.prepared) e p c h q f, most_codels_lem k.prepared)

  -- the codels of a mutex row, and a codel's activity
  module _ (m c : ℕ) (h : m < (held k).nmutex) where
    pub lower_room : c ≡ ((held k).mutex m).lo → c < (held k).ncodels
    lower_room q = omega (arith, ((shape k.prepared).mutex m h).0)

    pub upper_room : c ≡ ((held k).mutex m).hi → c < (held k).ncodels
    upper_room q = omega (arith, ((shape k.prepared).mutex m h).1)

  pub owner_room : (c a : ℕ) → a ≡ (held k).owner c → c < (held k).ncodels → a < most_acts
  owner_room c a q h = omega (arith, (shape k.prepared).owner c h, most_acts_lem k.prepared)

pub ruleset rooms = (task_room, pause_room, lower_room, upper_room, owner_room)
