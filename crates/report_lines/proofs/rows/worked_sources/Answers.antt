use Rattle.std.proofs.Common.{refl}
use Rattle.std.specs.Fmt.{digits}
use Rattle.count_spec.specs.Parts.{between}
use Rattle.report_lines.specs.Lines.{stream_text, flow_text, counters_text, fault_line, total_text}
use Rattle.report_lines.specs.Reports.{report_text}
use Rattle.report_lines.proofs.rows.worked_sources.Goals as goal

pub returns-clause-three_times : goal.returns-clause-three_times
unfolding digits between report_text stream_text flow_text counters_text fault_line total_text
returns-clause-three_times c = refl

pub returns-clause-pool_and_drops : goal.returns-clause-pool_and_drops
unfolding digits between report_text stream_text flow_text counters_text fault_line total_text
returns-clause-pool_and_drops c = refl

pub returns-clause-kinds_are_apart : goal.returns-clause-kinds_are_apart
unfolding digits between report_text stream_text flow_text counters_text fault_line total_text
returns-clause-kinds_are_apart c = refl

pub returns-clause-of_the_second_stream : goal.returns-clause-of_the_second_stream
unfolding digits between report_text stream_text flow_text counters_text fault_line total_text
returns-clause-of_the_second_stream c = refl

pub returns-clause-a_reset : goal.returns-clause-a_reset
unfolding digits between report_text stream_text flow_text counters_text fault_line total_text
returns-clause-a_reset c = refl

pub returns-clause-one_from_before_it : goal.returns-clause-one_from_before_it
unfolding digits between report_text stream_text flow_text counters_text fault_line total_text
returns-clause-one_from_before_it c = refl
