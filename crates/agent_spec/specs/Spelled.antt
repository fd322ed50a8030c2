-- The values of the samples and datagrams of an agent (sFlow Version 5, section 5). On the wire a number, a pool and
-- drops are taken mod 2^32.
use Rattle.std.specs.Prelude.{ℕ, ◌+◌, ◌*◌, ◌%◌, ◌^◌, nat_le, Bool, List, [], ◌∷◌, length, take}
use Rattle.std.specs.declared.option.Option.{Option}
use Rattle.std.specs.declared.option.Option.TheVariants.{Some, None}
use Rattle.wire_spec.specs.Shapes.{Tree, known, Trees, none, ◌&◌}
use Rattle.wire_spec.specs.Heads.{AgentAddress, datagram_tree}
use Rattle.wire_spec.specs.Spelling.{spell}
use Rattle.agent_spec.specs.Sources.{Source}
use Rattle.agent_spec.specs.Samples.{Port, Packet, Content, Sampled, Counted, Sample, Datagram}

-- sources and ports in one word each, or in two
pub data Form : Type 0 where
  Compact : Form
  Expanded : Form

-- who sends: its address, its number at that address, the form of its samples, and the most bytes of a datagram
pub record Sender : Type 0 where
  pub agent : AgentAddress
  pub sub_agent : ℕ
  pub form : Form
  pub max_datagram : ℕ

abbrev pub counted_word : ℕ → Tree
counted_word n = Tree.word (n % 2 ^ 32)

-- ---- records

-- Ethernet is header protocol 1; 4 bytes, the frame check sequence, are stripped; at most 128 bytes are shown
abbrev pub raw_header_of : Packet → Tree
raw_header_of p = known 1 (Tree.structure (
    Tree.word 1 & Tree.word p.frame_length & Tree.word 4 & Tree.opaque (take 128 p.header) & none)) []

-- the VLAN on both sides, with the priority 0
abbrev pub switch_records : Option ℕ → Trees
switch_records None = none
switch_records (Some vlan) =
    known 1001 (Tree.structure (Tree.word vlan & Tree.word 0 & Tree.word vlan & Tree.word 0 & none)) [] & none

abbrev pub flow_records : Packet → Trees
flow_records p = raw_header_of p & switch_records p.vlan

-- ---- samples

abbrev pub source_word : Source → Tree
source_word s = Tree.word (s.class * 2 ^ 24 + s.index)

abbrev pub port_word : Port → Tree
port_word p = Tree.word (p.form * 2 ^ 30 + p.value)

abbrev pub sample_tree : Form → Source → Sample → Content → Tree
sample_tree Compact source s (Sampled p) = known 1 (Tree.structure (
    counted_word s.number & source_word source & Tree.word s.rate & counted_word s.pool & counted_word s.drops &
    port_word p.input & port_word p.output & Tree.array (flow_records p) & none)) []
sample_tree Compact source s (Counted reading) = known 2 (Tree.structure (
    counted_word s.number & source_word source & Tree.array (known 1 reading [] & none) & none)) []
sample_tree Expanded source s (Sampled p) = known 3 (Tree.structure (
    counted_word s.number & Tree.word source.class & Tree.word source.index & Tree.word s.rate & counted_word s.pool &
    counted_word s.drops & Tree.word p.input.form & Tree.word p.input.value & Tree.word p.output.form &
    Tree.word p.output.value & Tree.array (flow_records p) & none)) []
sample_tree Expanded source s (Counted reading) = known 4 (Tree.structure (
    counted_word s.number & Tree.word source.class & Tree.word source.index & Tree.array (known 1 reading [] & none) & none)) []

abbrev pub sample_trees : Form → List Sample → Trees
sample_trees form [] = none
sample_trees form (s ∷ more) = sample_tree form s.turn.source s s.content & sample_trees form more

-- ---- datagrams

-- a datagram as it is sent
abbrev pub sent_tree : Sender → Datagram → Tree
sent_tree sender d = datagram_tree
    (record { agent = sender.agent; sub_agent = sender.sub_agent; sequence = d.number % 2 ^ 32; uptime = d.uptime })
    (sample_trees sender.form d.samples)

abbrev pub sent_bytes : Sender → Datagram → List ℕ
sent_bytes sender d = spell (sent_tree sender d)

-- whether a datagram of these samples has room for them, whatever its number and uptime
abbrev pub fits_in : Sender → List Sample → Bool
fits_in sender samples =
    nat_le (length (sent_bytes sender (record { number = 0; uptime = 0; samples = samples }))) sender.max_datagram
