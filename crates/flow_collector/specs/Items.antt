-- The item of an entry: a datagram as the books see it, as a function of its value, or the fault of its bytes.
use Rattle.std.specs.Prelude.{ℕ, ◌==◌, false, Option, Some, None, List, [], ◌∷◌, Result, Ok, Err, if◌then◌else◌}
use Rattle.wire_spec.specs.declared.pad.Pad.TheVariants.{Any}
use Rattle.wire_spec.specs.declared.fault.Fault.{Fault}
use Rattle.wire_spec.specs.Shapes.{Tree, known, Trees, none, ◌&◌}
use Rattle.wire_spec.specs.Whole.{whole_reading}
use Rattle.data_format.specs.declared.heads.Form.TheVariants.{Compact, Expanded}
use Rattle.data_format.specs.declared.source.SourceId as ids
use Rattle.data_format.specs.Compact.{source_of}
use Rattle.data_format.specs.Values.{members_of, number_in, behind_version, head_in, samples_behind, counter_records_in}
use Rattle.datagram_core.specs.Tables.{datagram_read}
use Rattle.books_spec.specs.declared.reading.SampleReading.{SampleReading}
use Rattle.books_spec.specs.InterfaceRise.{InterfaceCounters}
use Rattle.books_spec.specs.Items.{SourceId, Sample, Of, Carrying, Other, flow_sample, Datagram, Item, Got, Malformed}

-- ---- samples

-- the sources of the compact form stand in one word
abbrev pub compact_source : Trees → ids.SourceId
compact_source members = source_of (number_in 1 members)

-- the members are sequence number, source, rate, pool and drops, and more
abbrev pub compact_flow : Trees → Sample
compact_flow members = flow_sample (compact_source members).class (compact_source members).index (record {
  sequence = number_in 0 members;
  pool = number_in 3 members;
  drops = number_in 4 members;
  rate = number_in 2 members;
})

-- the sources of the expanded form stand in two words
abbrev pub expanded_flow : Trees → Sample
expanded_flow members = flow_sample (number_in 1 members) (number_in 2 members) (record {
  sequence = number_in 0 members;
  pool = number_in 4 members;
  drops = number_in 5 members;
  rate = number_in 3 members;
})

-- the counters of a record of interface counters, by the places of its fields
abbrev pub counters_of_fields : Trees → InterfaceCounters
counters_of_fields members = record {
  in_octets = number_in 5 members;
  in_ucast = number_in 6 members;
  in_multicast = number_in 7 members;
  in_broadcast = number_in 8 members;
  in_discards = number_in 9 members;
  in_errors = number_in 10 members;
  in_unknown = number_in 11 members;
  out_octets = number_in 12 members;
  out_ucast = number_in 13 members;
  out_multicast = number_in 14 members;
  out_broadcast = number_in 15 members;
  out_discards = number_in 16 members;
  out_errors = number_in 17 members;
}

-- where the record is one, whatever is behind its fields
abbrev pub interface_in : Tree → Option InterfaceCounters
interface_in (known k value tail) = if k == 1 then Some (counters_of_fields (members_of value)) else None
interface_in _ = None

abbrev pub or_else : Option InterfaceCounters → Option InterfaceCounters → Option InterfaceCounters
or_else None later = later
or_else (Some counters) later = Some counters

-- those of the first such record among these
abbrev pub first_interface : Trees → Option InterfaceCounters
first_interface none = None
first_interface (t & more) = or_else (interface_in t) (first_interface more)

-- a sample of this source that shows this, and the counters of an interface where it carries them
abbrev pub sample_with : SourceId → SampleReading → Option InterfaceCounters → Sample
sample_with id reading None = Of id reading
sample_with id reading (Some counters) = Carrying id reading counters

abbrev pub counters_with : ℕ → ℕ → ℕ → Option InterfaceCounters → Sample
counters_with class index sequence carried = sample_with (record { flow = false; class = class; index = index })
    (record { sequence = sequence; pool = 0; drops = 0; rate = 0 }) carried

-- the members are sequence number and source, and then the records
abbrev pub compact_counters : Trees → Sample
compact_counters members = counters_with (compact_source members).class (compact_source members).index
    (number_in 0 members) (first_interface (counter_records_in Compact members))

abbrev pub expanded_counters : Trees → Sample
expanded_counters members = counters_with (number_in 1 members) (number_in 2 members)
    (number_in 0 members) (first_interface (counter_records_in Expanded members))

-- a sample of this format
abbrev pub sample_of : ℕ → Trees → Sample
sample_of k members =
    if k == 1 then compact_flow members else (
    if k == 2 then compact_counters members else (
    if k == 3 then expanded_flow members else (
    if k == 4 then expanded_counters members else Other)))

unfoldable pub sample_in : Tree → Sample
sample_in (known k value tail) = sample_of k (members_of value)
sample_in _ = Other

abbrev pub samples_in : Trees → List Sample
samples_in none = []
samples_in (t & more) = sample_in t ∷ samples_in more

-- ---- datagrams

-- the datagram of this value, which arrived at this time in ms
abbrev pub datagram_in : ℕ → Tree → Datagram
datagram_in arrival t = record {
  arrival = arrival;
  head = head_in (behind_version t);
  samples = samples_in (samples_behind (behind_version t));
}

-- ---- entries

abbrev pub item_of : ℕ → Result Tree Fault → Item
item_of arrival (Ok t) = Got (datagram_in arrival t)
item_of arrival (Err f) = Malformed f

-- the item of an entry with this arrival in ms and these bytes, whatever the padding is
abbrev pub item_in : ℕ → List ℕ → Item
item_in arrival bytes = item_of arrival (whole_reading Any datagram_read bytes)
