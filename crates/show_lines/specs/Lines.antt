-- The lines, from plain values. A line of which the front is given here ends by `line_end`; the others end with their
-- line feed.
use Rattle.std.specs.Prelude.{ℕ, List, [], ◌∷◌, codes, decimal, length, Option, Some, None}
use Rattle.std.specs.List.{concat}
use Rattle.wire_spec.specs.declared.fault.Fault.{Fault}
use Rattle.wire_spec.specs.FaultNames.{fault_name}
use Rattle.wire_spec.specs.Heads.{Head}
use Rattle.wire_spec.specs.Texts.{address_text, hex}
use Rattle.data_format.specs.declared.format.Format.{Format}
use Rattle.data_format.specs.declared.heads.FlowHead.{FlowHead}
use Rattle.data_format.specs.declared.heads.CountersHead.{CountersHead}
use Rattle.capture_spec.specs.Items.{Sender}
use Rattle.text_lines.specs.Bytes.{hex_or_dash}

-- the number of an entry, its arrival in ms, and how many bytes it has
unfoldable pub entry_line : ℕ → ℕ → ℕ → List ℕ
entry_line number arrival count = concat (
    codes "entry " ∷ decimal number ∷
    codes " at " ∷ decimal arrival ∷
    codes " bytes " ∷ decimal count ∷
    codes "\n" ∷ [])

-- the same with the address and the port of its sender
unfoldable pub sent_line : ℕ → ℕ → Sender → ℕ → List ℕ
sent_line number arrival from count = concat (
    codes "entry " ∷ decimal number ∷
    codes " at " ∷ decimal arrival ∷
    codes " from " ∷ address_text from.address ∷
    codes " " ∷ decimal from.port ∷
    codes " bytes " ∷ decimal count ∷
    codes "\n" ∷ [])

-- with a sender or without one
abbrev pub received_line : ℕ → ℕ → Option Sender → ℕ → List ℕ
received_line number arrival None count = entry_line number arrival count
received_line number arrival (Some from) count = sent_line number arrival from count

-- the place of a fault, and its kind
unfoldable pub fault_line : Fault → List ℕ
fault_line fault = concat (
    codes "fault at " ∷ decimal fault.at ∷
    codes " kind " ∷ fault_name fault.kind ∷
    codes "\n" ∷ [])

-- the head of a datagram, and how many samples it has
unfoldable pub datagram_line : Head → ℕ → List ℕ
datagram_line head samples = concat (
    codes "datagram agent " ∷ address_text head.agent ∷
    codes " sub " ∷ decimal head.sub_agent ∷
    codes " seq " ∷ decimal head.sequence ∷
    codes " uptime " ∷ decimal head.uptime ∷
    codes " samples " ∷ decimal samples ∷
    codes "\n" ∷ [])

-- a flow sample, and how many records it has
unfoldable pub flow_front : List ℕ → FlowHead → ℕ → List ℕ
flow_front name head records = concat (
    name ∷
    codes " seq " ∷ decimal head.sequence ∷
    codes " source " ∷ decimal head.source.class ∷ codes ":" ∷ decimal head.source.index ∷
    codes " rate " ∷ decimal head.rate ∷
    codes " pool " ∷ decimal head.pool ∷
    codes " drops " ∷ decimal head.drops ∷
    codes " in " ∷ decimal head.input.form ∷ codes ":" ∷ decimal head.input.value ∷
    codes " out " ∷ decimal head.output.form ∷ codes ":" ∷ decimal head.output.value ∷
    codes " records " ∷ decimal records ∷ [])

-- a counters sample
unfoldable pub counters_front : List ℕ → CountersHead → ℕ → List ℕ
counters_front name head records = concat (
    name ∷
    codes " seq " ∷ decimal head.sequence ∷
    codes " source " ∷ decimal head.source.class ∷ codes ":" ∷ decimal head.source.index ∷
    codes " records " ∷ decimal records ∷ [])

-- a sample or a record whose format isn't read: the format, and the bytes of the body
unfoldable pub frame_front : List ℕ → Format → List ℕ → List ℕ
frame_front name format body = concat (
    name ∷ decimal format.enterprise ∷ codes ":" ∷ decimal format.number ∷
    codes " bytes " ∷ decimal (length body) ∷ codes " " ∷ hex_or_dash body ∷ [])

-- the tail, where there is one, and the end of the line
unfoldable pub line_end : List ℕ → List ℕ
line_end [] = codes "\n"
line_end (b ∷ tail) = concat (codes " tail " ∷ hex (b ∷ tail) ∷ codes "\n" ∷ [])
