use Rattle.std.proofs.Common.{refl}
use Rattle.std.specs.Fmt.{digits}
use Rattle.datagram_core.specs.Tables.{flow_records_read, counter_records_read, samples_read}
use Rattle.show_lines.specs.Lines.{entry_line, fault_line, datagram_line, flow_front, counters_front, frame_front, line_end}
use Rattle.show_lines.specs.Shown.{entry_text, outcome_of, datagram_text, sample_text, sample_front, sample_records, record_text}
use Rattle.show_lines.proofs.laws.worked_entries.Goals as goal

pub returns-clause-flow : goal.returns-clause-flow
unfolding digits entry_text entry_line outcome_of flow_records_read counter_records_read samples_read fault_line datagram_text datagram_line sample_text sample_front sample_records record_text flow_front counters_front frame_front line_end
returns-clause-flow c = refl

pub returns-clause-expanded : goal.returns-clause-expanded
unfolding digits entry_text entry_line outcome_of flow_records_read counter_records_read samples_read fault_line datagram_text datagram_line sample_text sample_front sample_records record_text flow_front counters_front frame_front line_end
returns-clause-expanded c = refl

pub returns-clause-cut : goal.returns-clause-cut
unfolding digits entry_text entry_line outcome_of flow_records_read counter_records_read samples_read fault_line datagram_text datagram_line sample_text sample_front sample_records record_text flow_front counters_front frame_front line_end
returns-clause-cut c = refl

pub returns-clause-tail : goal.returns-clause-tail
unfolding digits entry_text entry_line outcome_of flow_records_read counter_records_read samples_read fault_line datagram_text datagram_line sample_text sample_front sample_records record_text flow_front counters_front frame_front line_end
returns-clause-tail c = refl

pub returns-clause-other : goal.returns-clause-other
unfolding digits entry_text entry_line outcome_of flow_records_read counter_records_read samples_read fault_line datagram_text datagram_line sample_text sample_front sample_records record_text flow_front counters_front frame_front line_end
returns-clause-other c = refl
