-- The headers that the samples of a delivered datagram show: of a sampled packet its frame and the front of its header, as the
-- raw header record of its flow sample has them (sFlow Version 5, section 5); a counters sample shows none.
-- Whoever reads headers by their places in the value of a format finds these.
use Rattle.std.specs.Prelude.{◌≡◌, ℕ, List, [], ◌∷◌, map, take, Result, Ok, Err}
use Rattle.wire_spec.specs.declared.pad.Pad.TheVariants.{Any}
use Rattle.wire_spec.specs.declared.fault.Fault.{Fault}
use Rattle.wire_spec.specs.Shapes.{Tree, known, Trees, none, ◌&◌}
use Rattle.wire_spec.specs.Captures.{Entry}
use Rattle.wire_spec.specs.Whole.{whole_reading}
use Rattle.data_format.specs.Values.{behind_version, samples_behind}
use Rattle.datagram_core.specs.Tables.{datagram_read}
use Rattle.books_spec.specs.Items as items
use Rattle.books_spec.specs.SampledHeaders.{SampledHeader, HeaderedItem}
use Rattle.agent_spec.specs.Samples.{Packet, Content, Sampled, Counted, Sample}
use Rattle.account_spec.specs.Deliveries.{Delivery, item}
use Rattle.delivered_items.specs.Readers.{entry_item, one_record}

-- ---- what is shown

-- Ethernet is header protocol 1; at most 128 bytes of the header are shown
abbrev pub packet_header : Packet → SampledHeader
packet_header p = record { protocol = 1; frame_length = p.frame_length; bytes = take 128 p.header }

abbrev pub content_headers : Content → List SampledHeader
content_headers (Sampled packet) = packet_header packet ∷ []
content_headers (Counted reading) = []

abbrev pub sample_headers : Sample → List SampledHeader
sample_headers s = content_headers s.content

-- the item of a delivery, with the headers of each of its samples
abbrev pub headered : Delivery → HeaderedItem
headered d = record { item = item d; headers = map sample_headers d.datagram.samples }

-- ---- what is read

-- what it makes of flow records one after the other, of samples of the formats 1 to 4, and of samples one after the other
pub record IsHeaderReader (records : Trees → List SampledHeader) (read : Tree → List SampledHeader)
    (reads : Trees → List (List SampledHeader)) : Type 0 where
  pub no_records : records none ≡ []
  pub raw_header : (protocol frame_length stripped : ℕ) (bytes : List ℕ) (more : Trees)
      → records (known 1 (Tree.structure (
      Tree.word protocol & Tree.word frame_length & Tree.word stripped & Tree.opaque bytes & none)) [] & more)
      ≡ record { protocol = protocol; frame_length = frame_length; bytes = bytes } ∷ records more
  pub switch : (vlan priority out_vlan out_priority : ℕ) (more : Trees)
      → records (known 1001 (Tree.structure (
      Tree.word vlan & Tree.word priority & Tree.word out_vlan & Tree.word out_priority & none)) [] & more)
      ≡ records more
  pub flow : (n source rate pool drops input output : ℕ) (own : Trees)
      → read (known 1 (Tree.structure (
      Tree.word n & Tree.word source & Tree.word rate & Tree.word pool & Tree.word drops &
      Tree.word input & Tree.word output & Tree.array own & none)) [])
      ≡ records own
  pub counters : (n source : ℕ) (reading : Tree)
      → read (known 2 (Tree.structure (Tree.word n & Tree.word source & one_record reading & none)) []) ≡ []
  pub expanded_flow : (n class index rate pool drops in_form input out_form output : ℕ) (own : Trees)
      → read (known 3 (Tree.structure (
      Tree.word n & Tree.word class & Tree.word index & Tree.word rate & Tree.word pool & Tree.word drops &
      Tree.word in_form & Tree.word input & Tree.word out_form & Tree.word output & Tree.array own & none)) [])
      ≡ records own
  pub expanded_counters : (n class index : ℕ) (reading : Tree)
      → read (known 4 (Tree.structure (
      Tree.word n & Tree.word class & Tree.word index & one_record reading & none)) []) ≡ []
  pub no_samples : reads none ≡ []
  pub samples : (t : Tree) (more : Trees) → reads (t & more) ≡ read t ∷ reads more

-- the headers of each sample, by the value or the fault of an entry's bytes
abbrev pub headers_by : (Trees → List (List SampledHeader)) → Result Tree Fault → List (List SampledHeader)
headers_by headers (Ok t) = headers (samples_behind (behind_version t))
headers_by headers (Err f) = []

-- the item of an entry with its headers
abbrev pub headered_entry : (Trees → List items.Sample) → (Trees → List (List SampledHeader)) → Entry → HeaderedItem
headered_entry reads headers e =
    record { item = entry_item reads e; headers = headers_by headers (whole_reading Any datagram_read e.bytes) }
