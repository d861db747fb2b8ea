-- The [p] bench cases of document 01 under one statement, and table K's log, each decided by computation.
use mathlib.Core.Bool.{true}
use mathlib.Core.Path.{◌≡◌, refl}
use Rattle.text.specs.Set.{bit, member, each_of}
use Rattle.model.specs.Tests.{each, some, sum}
use Rattle.model.specs.Tables.{edge_is, has_edge, safe}
use Rattle.model.specs.Rows.{last_fault, wellformed}
use Rattle.model.specs.States.{clear, fresh}
use Rattle.model.specs.Rules.{anew, first, within, none_in, urgent_task, urgent_act, urgent, room_for, refusal, next}
use Rattle.model.specs.Logs.{all_accepted, reached, most}
use Rattle.model.specs.Cycles.{verdict, opened_in, kept_in, dropped_in, managing, steps_of, lines_done, stop_on, lines_of, report}
use Rattle.model.specs.Cases.{one_task, table_k, table_m, bench_cases, holds_in, all_hold, past_too, bench_holds, log_k, report_k}

-- both tables are well formed
pub K_wellformed : wellformed table_k ≡ true
unfolding table_k wellformed last_fault each some
K_wellformed = refl

pub M_wellformed : wellformed table_m ≡ true
unfolding table_m wellformed last_fault each some
M_wellformed = refl

-- every case holds
pub bench : bench_holds table_k table_m ≡ true
unfolding all_hold bench_cases holds_in past_too table_k table_m all_accepted reached refusal next anew first within member each_of bit none_in urgent_task urgent_act urgent room_for each some clear safe has_edge edge_is
bench = refl

-- K's whole log is accepted, and its report is the one that the page prints; `most` is 11
pub K_report : report table_k fresh (lines_of log_k) ≡ report_k
unfolding lines_of report report_k log_k table_k steps_of lines_done stop_on verdict opened_in kept_in dropped_in managing sum most reached refusal next anew first within member each_of bit none_in urgent_task urgent_act urgent room_for each some clear safe has_edge edge_is
K_report = refl

-- and so with a keep of 25, though the first cycle takes 20: it runs through one signal
pub late_report : report (one_task 25) fresh (lines_of log_k) ≡ report_k
unfolding lines_of report report_k log_k steps_of lines_done stop_on verdict opened_in kept_in dropped_in managing sum most reached refusal next anew first within member each_of bit none_in urgent_task urgent_act urgent room_for each some clear safe has_edge edge_is
late_report = refl
