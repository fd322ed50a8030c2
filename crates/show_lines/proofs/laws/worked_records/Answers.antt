use Rattle.std.proofs.Common.{refl}
use Rattle.std.specs.Fmt.{digits}
use Rattle.datagram_core.specs.Tables.{flow_records_read, counter_records_read, samples_read}
use Rattle.show_lines.specs.CounterLines.{interface_front, dot3_front, vlan_front, processor_front}
use Rattle.show_lines.specs.FlowLines.{header_front, ethernet_front, ipv4_front, ipv6_front, switch_front, router_front, route_text, gateway_front}
use Rattle.show_lines.specs.FurtherLines.{user_front, url_front, hop_text, mpls_front, nat_front}
use Rattle.show_lines.specs.Joined.{list_text, segment_text, path_text}
use Rattle.show_lines.specs.Lines.{entry_line, datagram_line, flow_front, counters_front, frame_front, line_end}
use Rattle.show_lines.specs.Shown.{entry_text, outcome_of, datagram_text, sample_text, sample_front, sample_records, record_text}
use Rattle.show_lines.proofs.laws.worked_records.Goals as goal

pub returns-clause-flows : goal.returns-clause-flows
unfolding digits record_text header_front ethernet_front ipv4_front ipv6_front switch_front router_front route_text gateway_front user_front url_front hop_text mpls_front nat_front list_text segment_text path_text frame_front line_end
returns-clause-flows c = refl

pub returns-clause-counters : goal.returns-clause-counters
unfolding digits record_text interface_front dot3_front vlan_front processor_front line_end
returns-clause-counters c = refl

pub returns-clause-switch : goal.returns-clause-switch
unfolding digits entry_text entry_line outcome_of flow_records_read counter_records_read samples_read datagram_text datagram_line sample_text sample_front sample_records record_text line_end flow_front switch_front frame_front
returns-clause-switch c = refl

pub returns-clause-gateway : goal.returns-clause-gateway
unfolding digits entry_text entry_line outcome_of flow_records_read counter_records_read samples_read datagram_text datagram_line sample_text sample_front sample_records record_text line_end flow_front route_text gateway_front list_text segment_text path_text
returns-clause-gateway c = refl

pub returns-clause-no_path : goal.returns-clause-no_path
unfolding digits entry_text entry_line outcome_of flow_records_read counter_records_read samples_read datagram_text datagram_line sample_text sample_front sample_records record_text line_end flow_front route_text gateway_front list_text segment_text path_text
returns-clause-no_path c = refl

pub returns-clause-interface : goal.returns-clause-interface
unfolding digits entry_text entry_line outcome_of flow_records_read counter_records_read samples_read datagram_text datagram_line sample_text sample_front sample_records record_text line_end counters_front interface_front
returns-clause-interface c = refl
