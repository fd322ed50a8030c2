-- The sampled headers of an entry, as a function of its value, and what they feed (sFlow Version 5, section 5).
-- Items have the LATEST FIRST.
use Rattle.std.specs.Prelude.{ℕ, ℤ, ◌+◌, ◌≤◌, ◌==◌, Bool, true, false, Option, Some, None, cond, List, [], ◌∷◌, ◌++◌, length, map, Result, Ok, Err, if◌then◌else◌}
use Rattle.wire_spec.specs.declared.pad.Pad.TheVariants.{Any}
use Rattle.wire_spec.specs.declared.fault.Fault.{Fault}
use Rattle.wire_spec.specs.Shapes.{Tree, known, Trees, none, ◌&◌}
use Rattle.wire_spec.specs.Whole.{whole_reading}
use Rattle.data_format.specs.declared.heads.FlowHead.{FlowHead}
use Rattle.data_format.specs.declared.heads.Form.TheVariants.{Compact, Expanded}
use Rattle.data_format.specs.Values.{members_of, number_in, bytes_in, behind_version, samples_behind, flow_records_in}
use Rattle.data_format.specs.Trees.{frame_trees}
use Rattle.data_format.specs.Views.{FrameView}
use Rattle.datagram_core.specs.Tables.{datagram_read, samples_read}
use Rattle.datagram_core.specs.declared.sample.Sample.{Sample as Read}
use Rattle.datagram_core.specs.declared.sample.Sample.TheVariants as reads
use Rattle.rec_headers.specs.declared.raw.RawHeader.{RawHeader}
use Rattle.header_lanes.specs.Facts.{facts}
use Rattle.books_spec.specs.declared.limits.Limits.{Limits}
use Rattle.books_spec.specs.declared.reading.SampleReading.{SampleReading}
use Rattle.books_spec.specs.declared.sample_place.SamplePlace.{SamplePlace}
use Rattle.books_spec.specs.Books.{stream_number}
use Rattle.books_spec.specs.Items.{SourceId, Datagram, stream_of, Item, Got}
use Rattle.books_spec.specs.PlacedSamples.{placed_from}
use Rattle.books_spec.specs.SampledHeaders.{SampledHeader, HeaderedItem, FirstHeader, counts, headers_behind, headers_now}
use Rattle.sample_taps.specs.declared.brief.Brief.{Brief}
use Rattle.sample_taps.specs.BookBriefs.{brief_in}
use Rattle.flow_collector.specs.Items.{datagram_in, item_of, samples_in}
use Rattle.flow_collector.specs.Steps.{with_samples}

-- ---- records and samples

-- the members are protocol, length of the frame, bytes stripped, and the header
abbrev pub header_of : Trees → SampledHeader
header_of members =
    record { protocol = number_in 0 members; frame_length = number_in 1 members; bytes = bytes_in 3 members }

-- of a flow record, where it is the header of a packet
abbrev pub header_in : Tree → List SampledHeader
header_in (known k value tail) = if k == 1 then header_of (members_of value) ∷ [] else []
header_in _ = []

-- of these flow records, in their order
abbrev pub headers_among : Trees → List SampledHeader
headers_among none = []
headers_among (t & more) = header_in t ++ headers_among more

-- of a sample of this format: flow samples have headers
abbrev pub headers_with : ℕ → Trees → List SampledHeader
headers_with k members =
    if k == 1 then headers_among (flow_records_in Compact members) else (
    if k == 3 then headers_among (flow_records_in Expanded members) else [])

unfoldable pub headers_of : Tree → List SampledHeader
headers_of (known k value tail) = headers_with k (members_of value)
headers_of _ = []

-- of each of these samples
abbrev pub headers_each : Trees → List (List SampledHeader)
headers_each none = []
headers_each (t & more) = headers_of t ∷ headers_each more

-- the header that a record is
abbrev pub header_shown : RawHeader → SampledHeader
header_shown r = record { protocol = r.protocol; frame_length = r.frame_length; bytes = r.header.now }

-- it is a flow sample
abbrev pub is_flow_sample : Read → Bool
is_flow_sample (reads.Flow s) = true
is_flow_sample (reads.Counters s) = false
is_flow_sample (reads.FlowX s) = true
is_flow_sample (reads.CountersX s) = false
is_flow_sample (reads.Other frame) = false

-- ---- datagrams and entries

-- of each sample of the datagram of this value
abbrev pub headers_in : Tree → List (List SampledHeader)
headers_in t = headers_each (samples_behind (behind_version t))

-- the datagram of this value with its headers, which arrived at this time in ms
abbrev pub headered : ℕ → Tree → HeaderedItem
headered arrival t = record { item = Got (datagram_in arrival t); headers = headers_in t }

abbrev pub headers_read : Result Tree Fault → List (List SampledHeader)
headers_read (Ok t) = headers_in t
headers_read (Err f) = []

abbrev pub headered_of : ℕ → Result Tree Fault → HeaderedItem
headered_of arrival value = record { item = item_of arrival value; headers = headers_read value }

-- the item of an entry with this arrival in ms and these bytes, and its headers
abbrev pub headered_entry : ℕ → List ℕ → HeaderedItem
headered_entry arrival bytes = headered_of arrival (whole_reading Any datagram_read bytes)

-- how many headers there are
abbrev pub header_count : List (List SampledHeader) → ℕ
header_count [] = 0
header_count (own ∷ more) = length own + header_count more

-- each has at most 65,535 headers
abbrev pub AreFewHeaders : List HeaderedItem → Type 0
AreFewHeaders [] = Unit {0}
AreFewHeaders (i ∷ before) = (header_count i.headers ≤ 65535) × AreFewHeaders before

-- ---- briefs

-- what this item feeds after those before
abbrev pub briefs_now : Limits → List Item → HeaderedItem → List Brief
briefs_now l before i = map brief_in (headers_now l before i.item i.headers)

-- the brief of a header in a flow sample of this head and of the stream of this number
abbrev pub brief_from : ℕ → FlowHead → SampledHeader → Brief
brief_from stream head header = record {
  stream = stream;
  class = head.source.class;
  index = head.source.index;
  rate = head.rate;
  frame_length = header.frame_length;
  facts = facts header.protocol header.bytes;
}

-- what a flow sample of this head shows
abbrev pub flow_id : FlowHead → SourceId
flow_id h = record { flow = true; class = h.source.class; index = h.source.index }

abbrev pub flow_reading : FlowHead → SampleReading
flow_reading h = record { sequence = h.sequence; pool = h.pool; drops = h.drops; rate = h.rate }

-- the number of the stream of a flow sample of this head at this place, where the sample's headers count
abbrev pub stream_fed : Limits → List Item → Datagram → SamplePlace → FlowHead → Option ℕ
stream_fed l before so_far place h = cond (counts l before so_far place (flow_id h) (flow_reading h))
    (Some (stream_number l (Got so_far ∷ before) (stream_of so_far))) None

-- the briefs of a sample, where its headers go with the number of this stream
abbrev pub briefs_if : Option ℕ → FlowHead → List SampledHeader → List Brief
briefs_if None head headers = []
briefs_if (Some stream) head headers = map (brief_from stream head) headers

-- the headers that count of the samples in these frames, of a datagram of this number in its boot
abbrev pub headers_entered : Limits → List Item → Datagram → ℤ → List FrameView → List FirstHeader
headers_entered l before d number frames =
    headers_behind l before (with_samples d []) (placed_from number 0 (samples_in (frame_trees samples_read frames)))
    (headers_each (frame_trees samples_read frames))
