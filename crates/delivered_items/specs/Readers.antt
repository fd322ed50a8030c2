-- A reader of samples: it takes a sample's source, numbers and counters from their places in the value of a format
-- (sFlow Version 5, section 5). The item of an entry is what it makes of the value that the bytes have.
use Rattle.std.specs.Prelude.{◌≡◌, ℕ, Bool, true, false, List, [], ◌∷◌, Result, Ok, Err}
use Rattle.wire_spec.specs.declared.pad.Pad.TheVariants.{Any}
use Rattle.wire_spec.specs.declared.fault.Fault.{Fault}
use Rattle.wire_spec.specs.Shapes.{Tree, known, Trees, none, ◌&◌}
use Rattle.wire_spec.specs.Captures.{Entry}
use Rattle.wire_spec.specs.Whole.{whole_reading}
use Rattle.data_format.specs.Compact.{source_of}
use Rattle.data_format.specs.Values.{behind_version, head_in, samples_behind}
use Rattle.datagram_core.specs.Tables.{datagram_read}
use Rattle.books_spec.specs.declared.reading.SampleReading.{SampleReading}
use Rattle.books_spec.specs.Items.{SourceId, Sample, Of, Carrying, Item, Got, Malformed}
use Rattle.account_spec.specs.Readings.{counters_in}

-- a source of this kind, from one word or from two
abbrev pub id_in_word : Bool → ℕ → SourceId
id_in_word flow w = record { flow = flow; class = (source_of w).class; index = (source_of w).index }

abbrev pub id_in_words : Bool → ℕ → ℕ → SourceId
id_in_words flow class index = record { flow = flow; class = class; index = index }

abbrev pub flow_reading : ℕ → ℕ → ℕ → ℕ → SampleReading
flow_reading sequence pool drops rate = record { sequence = sequence; pool = pool; drops = drops; rate = rate }

abbrev pub counters_reading : ℕ → SampleReading
counters_reading sequence = flow_reading sequence 0 0 0

-- interface counters as the one record of a sample
abbrev pub one_record : Tree → Tree
one_record reading = Tree.array (known 1 reading [] & none)

-- what it makes of samples of the formats 1 to 4, and of samples one after the other
pub record IsReader (read : Tree → Sample) (reads : Trees → List Sample) : Type 0 where
  pub flow : (n source rate pool drops input output : ℕ) (records : Trees)
      → read (known 1 (Tree.structure (
      Tree.word n & Tree.word source & Tree.word rate & Tree.word pool & Tree.word drops &
      Tree.word input & Tree.word output & Tree.array records & none)) [])
      ≡ Of (id_in_word true source) (flow_reading n pool drops rate)
  pub counters : (n source : ℕ) (reading : Tree)
      → read (known 2 (Tree.structure (Tree.word n & Tree.word source & one_record reading & none)) [])
      ≡ Carrying (id_in_word false source) (counters_reading n) (counters_in reading)
  pub expanded_flow : (n class index rate pool drops in_form input out_form output : ℕ) (records : Trees)
      → read (known 3 (Tree.structure (
      Tree.word n & Tree.word class & Tree.word index & Tree.word rate & Tree.word pool & Tree.word drops &
      Tree.word in_form & Tree.word input & Tree.word out_form & Tree.word output & Tree.array records & none)) [])
      ≡ Of (id_in_words true class index) (flow_reading n pool drops rate)
  pub expanded_counters : (n class index : ℕ) (reading : Tree)
      → read (known 4 (Tree.structure (
      Tree.word n & Tree.word class & Tree.word index & one_record reading & none)) [])
      ≡ Carrying (id_in_words false class index) (counters_reading n) (counters_in reading)
  pub no_samples : reads none ≡ []
  pub samples : (t : Tree) (more : Trees) → reads (t & more) ≡ read t ∷ reads more

-- ---- entries

-- the item of an entry that came at this time in ms, by the value or the fault of its bytes
abbrev pub item_by : (Trees → List Sample) → ℕ → Result Tree Fault → Item
item_by reads arrival (Ok t) = Got (record {
  arrival = arrival;
  head = head_in (behind_version t);
  samples = reads (samples_behind (behind_version t));
})
item_by reads arrival (Err f) = Malformed f

abbrev pub entry_item : (Trees → List Sample) → Entry → Item
entry_item reads e = item_by reads e.arrival (whole_reading Any datagram_read e.bytes)
