-- A record with one field anew, or with two that move together. Here and in the fresh records alone a record is written out in full.
use Rattle.std.specs.Prelude.{Bool, List, ℕ}
use Rattle.model.specs.declared.Task.{Task}
use Rattle.model.specs.declared.Act.{Act}
use Rattle.model.specs.declared.State.{State}
use Rattle.model.specs.declared.Place.{Place}
use Rattle.model.specs.declared.Holder.{Holder}

-- of a task
abbrev pub with_timer : ℕ → Task → Task
with_timer n x = record { timer = n; signal = x.signal; managing = x.managing; holder = x.holder; cycle = x.cycle; opened = x.opened; missed = x.missed; longest = x.longest }

abbrev pub with_signal : Bool → Task → Task
with_signal b x = record { timer = x.timer; signal = b; managing = x.managing; holder = x.holder; cycle = x.cycle; opened = x.opened; missed = x.missed; longest = x.longest }

abbrev pub with_managing : Bool → Task → Task
with_managing b x = record { timer = x.timer; signal = x.signal; managing = b; holder = x.holder; cycle = x.cycle; opened = x.opened; missed = x.missed; longest = x.longest }

abbrev pub with_holder : Holder → Task → Task
with_holder h x = record { timer = x.timer; signal = x.signal; managing = x.managing; holder = h; cycle = x.cycle; opened = x.opened; missed = x.missed; longest = x.longest }

abbrev pub with_cycle : ℕ → Task → Task
with_cycle n x = record { timer = x.timer; signal = x.signal; managing = x.managing; holder = x.holder; cycle = n; opened = x.opened; missed = x.missed; longest = x.longest }

abbrev pub with_opened : ℕ → Task → Task
with_opened n x = record { timer = x.timer; signal = x.signal; managing = x.managing; holder = x.holder; cycle = x.cycle; opened = n; missed = x.missed; longest = x.longest }

abbrev pub with_missed : ℕ → Task → Task
with_missed n x = record { timer = x.timer; signal = x.signal; managing = x.managing; holder = x.holder; cycle = x.cycle; opened = x.opened; missed = n; longest = x.longest }

abbrev pub with_longest : ℕ → Task → Task
with_longest n x = record { timer = x.timer; signal = x.signal; managing = x.managing; holder = x.holder; cycle = x.cycle; opened = x.opened; missed = x.missed; longest = n }

-- of an activity
abbrev pub with_place : Place → Act → Act
with_place p y = record { place = p; executing = y.executing; clock = y.clock; run = y.run; halt = y.halt }

abbrev pub with_executing : Bool → Act → Act
with_executing b y = record { place = y.place; executing = b; clock = y.clock; run = y.run; halt = y.halt }

abbrev pub with_clock : ℕ → Act → Act
with_clock n y = record { place = y.place; executing = y.executing; clock = n; run = y.run; halt = y.halt }

-- its places in N and in R
abbrev pub in_lists : Bool → Bool → Act → Act
in_lists run halt y = record { place = y.place; executing = y.executing; clock = y.clock; run = run; halt = halt }

-- of the state
abbrev pub with_date : ℕ → State → State
with_date n s = record { date = n; tasks = s.tasks; acts = s.acts }

abbrev pub with_tasks : List Task → State → State
with_tasks l s = record { date = s.date; tasks = l; acts = s.acts }

abbrev pub with_acts : List Act → State → State
with_acts l s = record { date = s.date; tasks = s.tasks; acts = l }
