-- What is delivered of a history: datagrams, each never, once or often, and in any order. The LATEST is FIRST.
use Rattle.std.specs.Prelude.{◌≡◌, ℕ, ◌%◌, ◌^◌, List, map, ℤ, pos}
use Rattle.std.specs.List.{filter, AllByRecursion}
use Rattle.wire_spec.specs.Captures.{Entry}
use Rattle.books_spec.specs.declared.reading.SampleReading.{SampleReading}
use Rattle.books_spec.specs.Items.{SourceId, Of, Carrying, Item, Got, Stream}
use Rattle.books_spec.specs.Items as items
use Rattle.books_spec.specs.Listing.{same_stream}
use Rattle.agent_spec.specs.Sources.{Source}
use Rattle.agent_spec.specs.Samples.{Content, Sampled, Counted, Sample, Datagram}
use Rattle.agent_spec.specs.Boots.{IsAmong}
use Rattle.agent_spec.specs.Spelled.{sent_bytes}
use Rattle.account_spec.specs.Readings.{counters_in}
use Rattle.account_spec.specs.Histories.{SubAgent, agent_of, sent_in}

-- a datagram of a boot of a sub-agent, and its arrival in ms
pub record Delivery : Type 0 where
  pub stream : Stream
  pub boot : ℕ
  pub datagram : Datagram
  pub arrival : ℕ

abbrev pub boot_of : Delivery → ℕ
boot_of d = d.boot

abbrev pub number_of : Delivery → ℤ
number_of d = pos d.datagram.number

abbrev pub numbers_of : List Delivery → List ℤ
numbers_of deliveries = map number_of deliveries

-- those of one sub-agent
abbrev pub deliveries_of : Stream → List Delivery → List Delivery
deliveries_of stream deliveries = filter (λ (d : Delivery). same_stream stream d.stream) deliveries

-- each is of a datagram that its sub-agent sent in its boot
abbrev pub AreSent : List SubAgent → List Delivery → Type 0
AreSent history deliveries =
    AllByRecursion (λ (d : Delivery). IsAmong d.datagram (sent_in (agent_of history d.stream) d.boot)) deliveries

-- ---- what arrives

abbrev pub entry_of : List SubAgent → Delivery → Entry
entry_of history d =
    record { arrival = d.arrival; bytes = sent_bytes (agent_of history d.stream).sender d.datagram }

-- the history and the deliveries give these entries
pub record Delivers (history : List SubAgent) (deliveries : List Delivery) (entries : List Entry) : Type 0 where
  pub sent : AreSent history deliveries
  pub entries_are : entries ≡ map (entry_of history) deliveries

-- ---- what a collector makes of it: the values of the spelling, where number, pool and drops are taken mod 2^32

abbrev pub id_of : Source → SourceId
id_of s = record { flow = s.flow; class = s.class; index = s.index }

abbrev pub id_in : Sample → SourceId
id_in s = id_of s.turn.source

abbrev pub reading_shown : Sample → SampleReading
reading_shown s =
    record { sequence = s.number % 2 ^ 32; pool = s.pool % 2 ^ 32; drops = s.drops % 2 ^ 32; rate = s.rate }

abbrev pub content_shown : SourceId → SampleReading → Content → items.Sample
content_shown id reading (Sampled packet) = Of id reading
content_shown id reading (Counted counters) = Carrying id reading (counters_in counters)

abbrev pub sample_shown : Sample → items.Sample
sample_shown s = content_shown (id_in s) (reading_shown s) s.content

abbrev pub datagram_shown : Delivery → items.Datagram
datagram_shown d = record {
  arrival = d.arrival;
  head = record {
    agent = d.stream.agent;
    sub_agent = d.stream.sub_agent;
    sequence = d.datagram.number % 2 ^ 32;
    uptime = d.datagram.uptime;
  };
  samples = map sample_shown d.datagram.samples;
}

abbrev pub item : Delivery → Item
item d = Got (datagram_shown d)
