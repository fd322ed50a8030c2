use Rattle.std.proofs.Common.{refl}
use Rattle.std.specs.Fmt.{digits}
use Rattle.datagram_core.specs.Tables.{flow_records_read, counter_records_read, samples_read}
use Rattle.show_lines.specs.CounterLines.{processor_front}
use Rattle.show_lines.specs.FurtherLines.{user_front, url_front, hop_text, mpls_front, nat_front}
use Rattle.show_lines.specs.Joined.{list_text}
use Rattle.show_lines.specs.Lines.{entry_line, fault_line, datagram_line, flow_front, counters_front, line_end}
use Rattle.show_lines.specs.Shown.{entry_text, outcome_of, datagram_text, sample_text, sample_front, sample_records, record_text}
use Rattle.show_lines.proofs.laws.worked_further_records.Goals as goal

pub returns-clause-user : goal.returns-clause-user
unfolding digits entry_text entry_line outcome_of flow_records_read counter_records_read samples_read fault_line datagram_text datagram_line sample_text sample_front sample_records record_text line_end flow_front counters_front user_front
returns-clause-user c = refl

pub returns-clause-user_tail : goal.returns-clause-user_tail
unfolding digits entry_text entry_line outcome_of flow_records_read counter_records_read samples_read fault_line datagram_text datagram_line sample_text sample_front sample_records record_text line_end flow_front counters_front user_front
returns-clause-user_tail c = refl

pub returns-clause-url_tail : goal.returns-clause-url_tail
unfolding digits entry_text entry_line outcome_of flow_records_read counter_records_read samples_read fault_line datagram_text datagram_line sample_text sample_front sample_records record_text line_end flow_front counters_front url_front
returns-clause-url_tail c = refl

pub returns-clause-url_fault : goal.returns-clause-url_fault
unfolding digits entry_text entry_line outcome_of flow_records_read counter_records_read samples_read fault_line datagram_text datagram_line sample_text sample_front sample_records record_text line_end flow_front counters_front url_front
returns-clause-url_fault c = refl

pub returns-clause-mpls : goal.returns-clause-mpls
unfolding digits entry_text entry_line outcome_of flow_records_read counter_records_read samples_read fault_line datagram_text datagram_line sample_text sample_front sample_records record_text line_end flow_front counters_front hop_text mpls_front list_text
returns-clause-mpls c = refl

pub returns-clause-nat : goal.returns-clause-nat
unfolding digits entry_text entry_line outcome_of flow_records_read counter_records_read samples_read fault_line datagram_text datagram_line sample_text sample_front sample_records record_text line_end flow_front counters_front nat_front
returns-clause-nat c = refl

pub returns-clause-nat_fault : goal.returns-clause-nat_fault
unfolding digits entry_text entry_line outcome_of flow_records_read counter_records_read samples_read fault_line datagram_text datagram_line sample_text sample_front sample_records record_text line_end flow_front counters_front nat_front
returns-clause-nat_fault c = refl

pub returns-clause-processor : goal.returns-clause-processor
unfolding digits entry_text entry_line outcome_of flow_records_read counter_records_read samples_read fault_line datagram_text datagram_line sample_text sample_front sample_records record_text line_end flow_front counters_front processor_front
returns-clause-processor c = refl
