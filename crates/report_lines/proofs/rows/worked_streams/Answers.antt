use Rattle.std.proofs.Common.{refl}
use Rattle.std.specs.Fmt.{digits}
use Rattle.count_spec.specs.Parts.{between}
use Rattle.report_lines.specs.Lines.{stream_text, flow_text, counters_text, fault_line, total_text}
use Rattle.report_lines.specs.Reports.{report_text}
use Rattle.report_lines.proofs.rows.worked_streams.Goals as goal

pub returns-clause-no_entry : goal.returns-clause-no_entry
unfolding digits between report_text stream_text flow_text counters_text fault_line total_text
returns-clause-no_entry c = refl

pub returns-clause-one_datagram : goal.returns-clause-one_datagram
unfolding digits between report_text stream_text flow_text counters_text fault_line total_text
returns-clause-one_datagram c = refl

pub returns-clause-one_is_pending : goal.returns-clause-one_is_pending
unfolding digits between report_text stream_text flow_text counters_text fault_line total_text
returns-clause-one_is_pending c = refl

pub returns-clause-a_restart : goal.returns-clause-a_restart
unfolding digits between report_text stream_text flow_text counters_text fault_line total_text
returns-clause-a_restart c = refl

pub returns-clause-third_stream : goal.returns-clause-third_stream
unfolding digits between report_text stream_text flow_text counters_text fault_line total_text
returns-clause-third_stream c = refl

pub returns-clause-a_fault : goal.returns-clause-a_fault
unfolding digits between report_text stream_text flow_text counters_text fault_line total_text
returns-clause-a_fault c = refl

pub returns-clause-first_of_two_faults : goal.returns-clause-first_of_two_faults
unfolding digits between report_text stream_text flow_text counters_text fault_line total_text
returns-clause-first_of_two_faults c = refl
