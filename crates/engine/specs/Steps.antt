-- A step as a run takes it, by what it carries.
use Rattle.std.specs.Prelude.{ℕ, ◌<◌, ◌≡◌, length, set}
use Rattle.text.specs.Fields.{ether_value}
use Rattle.model.specs.Limits.{most_tasks, most_acts}
use Rattle.model.specs.Tables.{Table}
use Rattle.model.specs.Refusals.{number_of}
use Rattle.model.specs.declared.refusal.Refusal.{Refusal}
use Rattle.model.specs.Rules.{refusal, next}
use Rattle.model.specs.Cycles.{verdict}
use Rattle.model.specs.Records.{with_acts}
use Rattle.model.specs.declared.Act.{Act}
use Rattle.model.specs.declared.State.{State}
use Rattle.model.specs.declared.Step.{Step}
use Rattle.model.specs.declared.Step.TheVariants.{Wait, Sm, OfTask, OfAct}
use Rattle.conflicts.specs.Busy.{busy_of}
use Rattle.managing.specs.Listed.{listed_of}
use Rattle.tally.specs.Tallies.{ruling_of, tallied, Roomy}
use Rattle.tally.specs.declared.Ruling.{Ruling}
use Rattle.engine.specs.Play.{Ready}
use Rattle.engine.specs.Starts.{going_at}
use Rattle.engine.specs.declared.Going.{Going}

-- what a step finds: a state that is sound, with what follows from it beside it, and room to count one more
pub record Finds (K : Table) (g : Going) : Type 0 where
  pub ready : Ready K g
  pub roomy : Roomy g.tally 1
  pub tasks : length g.state.tasks ≡ most_tasks
  pub acts : length g.state.acts ≡ most_acts

-- with another state, which executes and lists as the old one does
abbrev pub with_state : Going → State → Going
with_state g s = record { state = s; busy = g.busy; listed = g.listed; tally = g.tally }

-- with another record of the activity a
abbrev pub with_act : Going → ℕ → Act → Going
with_act g a y = record { state = with_acts (set g.state.acts a y) g.state; busy = set g.busy a (busy_of y); listed = set g.listed a (listed_of y); tally = g.tally }

-- the ticks of a wait as a line can say them
abbrev pub Small : Step → Type 0
Small (Wait d) = d < ether_value
Small (Sm t n r) = Unit {0}
Small (OfTask t k) = Unit {0}
Small (OfAct a k) = Unit {0}

-- it is accepted, with its verdict and what is carried behind it
pub record Takes (K : Table) (g : Going) (x : Step) (v : Ruling) (h : Going) : Type 0 where
  pub accepted : refusal K g.state x ≡ 0
  pub going : h ≡ going_at (next K g.state x) (tallied K g.state x g.tally)
  pub ruling : v ≡ ruling_of (verdict K g.state x)

-- it is refused, and what is carried stays as it came
pub record Refuses (K : Table) (g : Going) (x : Step) (r : Refusal) (h : Going) : Type 0 where
  pub number : number_of r ≡ refusal K g.state x
  pub going : h ≡ g
