-- What `show` prints for an entry of a capture: its line, and then the line of its first fault, or those of the
-- datagram, of each sample and of the sample's records.
use Rattle.std.specs.Prelude.{ℕ, ◌==◌, List, [], ◌++◌, codes, length, Result, Ok, Err, if◌then◌else◌}
use Rattle.wire_spec.specs.declared.pad.Pad.TheVariants.{Any}
use Rattle.wire_spec.specs.declared.fault.Fault.{Fault}
use Rattle.wire_spec.specs.Captures.{Entry}
use Rattle.wire_spec.specs.Shapes.{union, Tree, known, other, Trees, count_of}
use Rattle.wire_spec.specs.Whole.{whole_reading}
use Rattle.data_format.specs.declared.heads.Form.{Form}
use Rattle.data_format.specs.declared.heads.Form.TheVariants.{Compact, Expanded}
use Rattle.datagram_core.specs.Tables.{datagram_read}
use Rattle.datagram_core.specs.declared.records.RecordKind.{RecordKind}
use Rattle.datagram_core.specs.declared.records.RecordKind.TheVariants.{Flow, Counters, Unknown}
use Rattle.data_format.specs.Values.{format_of, members_of, values_of, member, head_in, flow_head_in, counters_head_in, flow_records_in, counter_records_in, tail_in}
use Rattle.capture_spec.specs.Items.{Received}
use Rattle.show_lines.specs.CounterLines.{interface_front, dot3_front, vlan_front, processor_front}
use Rattle.show_lines.specs.FlowLines.{header_front, ethernet_front, ipv4_front, ipv6_front, switch_front, router_front, gateway_front}
use Rattle.show_lines.specs.FurtherLines.{user_front, url_front, mpls_front, nat_front}
use Rattle.show_lines.specs.Joined.{texts_of}
use Rattle.show_lines.specs.Lines.{entry_line, received_line, fault_line, datagram_line, flow_front, counters_front, frame_front, line_end}

-- ---- records

-- the line of a flow record with these members, by its format, up to its tail
abbrev pub flow_record_front : ℕ → Trees → List ℕ
flow_record_front k members =
    if k == 1 then header_front members else (
    if k == 2 then ethernet_front members else (
    if k == 3 then ipv4_front members else (
    if k == 4 then ipv6_front members else (
    if k == 1001 then switch_front members else (
    if k == 1002 then router_front members else (
    if k == 1003 then gateway_front members else (
    if k == 1004 then user_front members else (
    if k == 1005 then url_front members else (
    if k == 1006 then mpls_front members else (
    if k == 1007 then nat_front members else []))))))))))

-- the same of a counter record
abbrev pub counter_record_front : ℕ → Trees → List ℕ
counter_record_front k members =
    if k == 1 then interface_front members else (
    if k == 2 then dot3_front members else (
    if k == 5 then vlan_front members else (
    if k == 1001 then processor_front members else [])))

-- the same number is one format of flow records and another one of counter records
abbrev pub known_record : RecordKind → ℕ → Trees → List ℕ
known_record Flow k members = flow_record_front k members
known_record Counters k members = counter_record_front k members
known_record Unknown k members = []

-- the line of a record, up to its tail
abbrev pub record_front : RecordKind → Tree → List ℕ
record_front kind (known k value tail) = known_record kind k (members_of value)
record_front kind (other k body) = frame_front (codes "  record ") (format_of k) body
record_front kind _ = []

-- the line of a record of flow samples, or of counters samples
unfoldable pub record_text : RecordKind → Tree → List ℕ
record_text kind t = record_front kind t ++ line_end (tail_in t)

-- ---- samples

abbrev pub flow_text : List ℕ → Form → Trees → List ℕ
flow_text name form members =
    flow_front name (flow_head_in form members) (count_of (flow_records_in form members))

abbrev pub counters_text : List ℕ → Form → Trees → List ℕ
counters_text name form members =
    counters_front name (counters_head_in form members) (count_of (counter_records_in form members))

-- the line of a sample with these members, by its format, up to its tail
abbrev pub known_front : ℕ → Trees → List ℕ
known_front k members =
    if k == 1 then flow_text (codes " flow") Compact members else (
    if k == 2 then counters_text (codes " counters") Compact members else (
    if k == 3 then flow_text (codes " flowx") Expanded members else (
    if k == 4 then counters_text (codes " countersx") Expanded members else [])))

unfoldable pub sample_front : Tree → List ℕ
sample_front (known k value tail) = known_front k (members_of value)
sample_front (other k body) = frame_front (codes " sample ") (format_of k) body
sample_front _ = []

-- the lines of its records
abbrev pub known_records : ℕ → Trees → List ℕ
known_records k members =
    if k == 1 then texts_of (record_text Flow) (flow_records_in Compact members) else (
    if k == 2 then texts_of (record_text Counters) (counter_records_in Compact members) else (
    if k == 3 then texts_of (record_text Flow) (flow_records_in Expanded members) else (
    if k == 4 then texts_of (record_text Counters) (counter_records_in Expanded members) else [])))

unfoldable pub sample_records : Tree → List ℕ
sample_records (known k value tail) = known_records k (members_of value)
sample_records _ = []

-- the line of a sample, and those of its records
unfoldable pub sample_text : Tree → List ℕ
sample_text t = sample_front t ++ (line_end (tail_in t) ++ sample_records t)

-- ---- entries

-- the line of a datagram, and those of its samples, which stand behind the head
abbrev pub body_text : Trees → List ℕ
body_text members =
    let samples : Trees = values_of (member 4 members) in
    datagram_line (head_in members) (count_of samples) ++ texts_of sample_text samples

unfoldable pub datagram_text : Tree → List ℕ
datagram_text (union version body) = body_text (members_of body)
datagram_text _ = []

-- the datagram that the bytes are, or their first fault, whatever the padding is
unfoldable pub outcome_of : List ℕ → Result Tree Fault
outcome_of bytes = whole_reading Any datagram_read bytes

abbrev pub outcome_text : Result Tree Fault → List ℕ
outcome_text (Ok t) = datagram_text t
outcome_text (Err f) = fault_line f

-- the lines of an entry with this number, counting from 1
unfoldable pub entry_text : ℕ → Entry → List ℕ
entry_text number e = entry_line number e.arrival (length e.bytes) ++ outcome_text (outcome_of e.bytes)

-- the same of an entry of either version: its line tells the sender where there is one
unfoldable pub received_text : ℕ → Received → List ℕ
received_text number e =
    received_line number e.arrival e.sender (length e.bytes) ++ outcome_text (outcome_of e.bytes)
