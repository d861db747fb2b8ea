-- The page's own examples over their bytes, each decided by computation.
use mathlib.Core.List.{[], ◌++◌}
use mathlib.Core.Path.{◌≡◌, refl}
use mathlib.Core.Bool.{true}
use Rattle.text.specs.Digits.{value_of}
use Rattle.text.specs.Number.{read_number, width_of, digits}
use Rattle.text.specs.Set.{read_set, bit, member, each_of}
use Rattle.text.specs.Words.{word_in}
use Rattle.text.specs.Fields.{ether_word}
use Rattle.model.specs.Tests.{each, some, sum}
use Rattle.model.specs.Tables.{edge_is, has_edge, safe}
use Rattle.model.specs.Rows.{last_fault}
use Rattle.model.specs.States.{clear}
use Rattle.model.specs.Rules.{anew, first, within, none_in, urgent_task, urgent_act, urgent, room_for, refusal, next}
use Rattle.model.specs.Logs.{all_accepted, reached, most}
use Rattle.model.specs.Cases.{table_k, table_m, bench_cases, holds_in, all_hold, past_too, bench_holds, same_rows}
use Rattle.model.specs.Cycles.{verdict, opened_in, kept_in, dropped_in, managing, steps_of, lines_done, stop_on, report}
use Rattle.logs.specs.Lines.{step_words, read_step}
use Rattle.saved.specs.Rows.{state_word, begins_row}
use Rattle.entries.specs.Entries.{entry_by, entries_in, start_of}
use Rattle.row.specs.Kinds.{most_of, form_of, kind_in, kind_words, mode_words}
use Rattle.row.specs.Row.{read_form, read_row}
use Rattle.stream.specs.Cut.{end_in, cut_of}
use Rattle.report.specs.Rows.{numbers_text, line_text, rows_text}
use Rattle.table.specs.Tables.{base_of, narrowed, widened, shown, field_of, add_row, table_of}
use Rattle.table.specs.Checks.{in_place, fault_at, kind_fault, row_fault}
use Rattle.table.specs.Texts.{fault_behind, read_lines, read_table}
use Rattle.judging.specs.Report.{log_text, report_on, input_report}
use Rattle.judging.specs.Printed.{text_k, printed_log, printed_report, text_m}

-- reading the printed texts gives the tables of the bench cases
pub K_read : ((read_table text_k).numbers ≡ []) × (same_rows (table_of (read_table text_k).table) table_k ≡ true)
unfolding text_k table_k same_rows edge_is read_table read_lines fault_behind in_place fault_at kind_fault row_fault last_fault each some base_of narrowed widened shown field_of add_row table_of read_form read_row kind_in most_of form_of kind_words mode_words value_of read_number word_in ether_word
K_read = (refl, refl)

pub M_read : ((read_table text_m).numbers ≡ []) × (same_rows (table_of (read_table text_m).table) table_m ≡ true)
unfolding text_m table_m same_rows edge_is read_table read_lines fault_behind in_place fault_at kind_fault row_fault last_fault each some base_of narrowed widened shown field_of add_row table_of read_form read_row kind_in most_of form_of kind_words mode_words value_of read_number word_in ether_word
M_read = (refl, refl)

-- the [p] cases hold of the tables as they are read
pub bench_read : bench_holds (table_of (read_table text_k).table) (table_of (read_table text_m).table) ≡ true
unfolding text_k text_m all_hold bench_cases holds_in past_too all_accepted reached refusal next anew first within member each_of bit none_in urgent_task urgent_act urgent room_for clear safe has_edge edge_is read_table read_lines fault_behind in_place fault_at kind_fault row_fault last_fault each some base_of narrowed widened shown field_of add_row table_of read_form read_row kind_in most_of form_of kind_words mode_words value_of read_number word_in ether_word
bench_read = refl

-- K's table and log, as they are printed, give the report that is printed
pub K_printed : input_report (text_k ++ printed_log) ≡ printed_report
unfolding cut_of end_in text_k printed_log printed_report report_on log_text start_of entries_in entry_by begins_row state_word report steps_of lines_done stop_on verdict opened_in kept_in dropped_in managing sum most reached refusal next anew first within member each_of bit none_in urgent_task urgent_act urgent room_for each some clear safe has_edge edge_is read_table read_lines fault_behind in_place fault_at kind_fault row_fault last_fault base_of narrowed widened shown field_of add_row table_of read_form read_row kind_in most_of form_of kind_words mode_words value_of read_number word_in ether_word step_words read_step read_set numbers_text line_text rows_text digits width_of
K_printed = refl
