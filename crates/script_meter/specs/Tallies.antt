-- What the counters of a script's sources stand at. Every list of lines has the LATEST FIRST; rows stand in the order of
-- their lines.
use Rattle.std.specs.Prelude.{◌≡◌, ℕ, ◌+◌, ◌%◌, ◌^◌, ◌==◌, ◌&&◌, Bool, false, cond, List, [], ◌∷◌, length, map, reverse, filter_map, Option, Some, None, if◌then◌else◌}
use Rattle.wire_spec.specs.Shapes.{Tree, none, ◌&◌}
use Rattle.data_format.specs.Records.{Content}
use Rattle.data_format.specs.declared.source.SourceId.{SourceId}
use Rattle.agent_spec.specs.Sources.{Source}
use Rattle.script_spec.specs.Values.{Place}
use Rattle.script_spec.specs.Lines.{Line, CounterLine, PacketLine, RestartLine, flow_at, place_of}
use Rattle.script_spec.specs.Agents.{Owned, same_place, sum_of}
use Rattle.script_meter.specs.declared.meter.CountedRow.{CountedRow}
use Rattle.script_meter.specs.declared.meter.Tally.{Tally}

-- ---- by the lines

-- the lengths in bytes of the packets of a place since the newest boot of a sub-agent began, the latest first
abbrev pub lengths_in : ℕ → Place → List Line → List ℕ
lengths_in owner p [] = []
lengths_in owner p (PacketLine q packet ∷ before) =
    if same_place p (flow_at q) then packet.frame_length ∷ lengths_in owner p before else lengths_in owner p before
lengths_in owner p (RestartLine id at ∷ before) = if id == owner then [] else lengths_in owner p before
lengths_in owner p (other ∷ before) = lengths_in owner p before

-- their sum as a hyper, and their number as a word
abbrev pub tally_of : List ℕ → Tally
tally_of lengths = record { octets = sum_of lengths % 2 ^ 64; packets = length lengths % 2 ^ 32 }

-- the sources of counters samples, each with its sub-agent, in the order of their lines
abbrev pub polled_in : Line → Option Owned
polled_in (CounterLine id c) = Some (record { owner = id; source = c.source })
polled_in other = None

abbrev pub polled_of : List Line → List Owned
polled_of lines = reverse (filter_map polled_in lines)

-- ---- by the rows

-- a source and its counts
pub record Counted : Type 0 where
  pub owner : ℕ
  pub source : Source
  pub tally : Tally

abbrev pub row_counted : CountedRow → Counted
row_counted r = record {
  owner = r.owner;
  source = record { flow = false; class = r.source.class; index = r.source.index };
  tally = r.tally;
}

abbrev pub counted : List Line → Owned → Counted
counted lines o =
    record { owner = o.owner; source = o.source; tally = tally_of (lengths_in o.owner (place_of o.source) lines) }

-- the rows are those of these lines
abbrev pub Counts : List CountedRow → List Line → Type 0
Counts rows lines = map row_counted rows ≡ map (counted lines) (polled_of lines)

abbrev pub same_id : SourceId → SourceId → Bool
same_id x y = (x.class == y.class) && (x.index == y.index)

-- the counts of a source
abbrev pub tally_in : SourceId → List CountedRow → Tally
tally_in id [] = record { octets = 0; packets = 0 }
tally_in id (r ∷ more) = cond (same_id r.source id) r.tally (tally_in id more)

-- ---- what is read

-- the counters of an interface of 1 Gbit/s that is up, into which so many bytes and packets came
abbrev pub interface_at : ℕ → Tally → Tree
interface_at index t = Tree.structure (
    Tree.word index & Tree.word 6 & Tree.hyper 1000000000 & Tree.word 1 & Tree.word 3 &
    Tree.hyper t.octets & Tree.word t.packets & Tree.word 0 & Tree.word 0 &
    Tree.word 0 & Tree.word 0 & Tree.word 0 & Tree.hyper 0 & Tree.word 0 & Tree.word 0 & Tree.word 0 & Tree.word 0 &
    Tree.word 0 & Tree.word 0 & none)

-- a read gives the counters of the source, and leaves the meter as it is
abbrev pub gives_counters : List CountedRow → SourceId → Content → List CountedRow → Type 0
gives_counters old id content new = (new ≡ old) × (content ≡ (interface_at id.index (tally_in id old), []))

-- ---- how the rows go on

abbrev pub with_length : ℕ → Tally → Tally
with_length n t = record { octets = (t.octets + n) % 2 ^ 64; packets = (t.packets + 1) % 2 ^ 32 }

-- a packet of this length came in
abbrev pub with_packet : SourceId → ℕ → CountedRow → CountedRow
with_packet id n r = cond (same_id r.source id) (record r { tally = with_length n r.tally }) r

-- the sub-agent restarted
abbrev pub with_restart : ℕ → CountedRow → CountedRow
with_restart owner r = cond (r.owner == owner) (record r { tally = record { octets = 0; packets = 0 } }) r
