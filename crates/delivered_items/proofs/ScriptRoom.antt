-- A datagram of a script has room for each sample.
use Rattle.std.proofs.Common.{◌≡◌, ◌+◌, ◌*◌, ◌%◌, ◌≤◌, ℕ, true, List, [], ◌∷◌, ◌++◌, length, replicate, take, Option, Some, None, refl, arith, length-append, length-take}
use Rattle.std.specs.Int.{w32, to_be_bytes}
use Rattle.std.proofs.lemmas.Bool.{le-leb}
use Rattle.std.proofs.lemmas.List.{length-replicate}
use Rattle.wire_spec.specs.Heads.{Head, address_tree, datagram_tree}
use Rattle.wire_spec.specs.Padding.{padding_of}
use Rattle.wire_spec.specs.Shapes.{Tree, known, Trees, none, ◌&◌, count_of}
use Rattle.wire_spec.specs.Spelling.{padded, spell, spell_all}
use Rattle.agent_spec.specs.Events.{Event}
use Rattle.agent_spec.specs.Sources.{Source}
use Rattle.agent_spec.specs.Samples.{Counted, Packet, Sample, Sampled}
use Rattle.agent_spec.specs.Spelled.{Form, Compact, Expanded, Sender, fits_in, flow_records, raw_header_of, sample_tree, switch_records}
use Rattle.agent_spec.proofs.Sized.{datagram-size}
use Rattle.script_spec.specs.Agents.{counters_at}
use Rattle.delivered_items.specs.Accepted.{alone}

pub record IsRoomy (s : Sender) : Type 0 where
  pub least : 512 ≤ s.max_datagram
  pub front : length (spell (address_tree s.agent)) ≤ 20

-- ---- sizes

-- a frame whose fields have at most so many bytes, in whole words
frame_few : (k most : ℕ) (t : Tree) → most % 4 ≡ 0 → length (spell t) ≤ most → length (spell (known k t [])) ≤ 8 + most
frame_few k most t words few =
    let n = length (spell t ++ []) in
    let same : n ≡ length (spell t) = omega (arith, length-append (spell t) []) in
    let pad : n + padding_of n ≤ most = omega (arith, words, few, same) in
    omega (
      arith,
      pad,
      length-append (spell t ++ []) (replicate (padding_of n) 0),
      length-replicate {A = ℕ} (padding_of n) 0,
    )

header_few : (p : Packet) → length (spell (raw_header_of p)) ≤ 152
header_few p =
    let v : List ℕ = take 128 p.header in
    let shown : length v ≤ 128 = omega (arith, length-take 128 p.header) in
    let pad : length v + padding_of (length v) ≤ 128 = omega (arith, shown) in
    let t : Tree = Tree.structure (Tree.word 1 & Tree.word p.frame_length & Tree.word 4 & Tree.opaque v & none) in
    let fields : length (spell t) ≤ 144 = omega (
      arith,
      pad,
      length-append (padded v) [],
      length-append v (replicate (padding_of (length v)) 0),
      length-replicate {A = ℕ} (padding_of (length v)) 0,
    ) in
    frame_few 1 144 t refl fields

vlan_few : (v : Option ℕ) → length (spell_all (switch_records v)) ≤ 24
vlan_few None = omega arith
vlan_few (Some n) = omega arith

records_few : (p : Packet) → length (spell_all (flow_records p)) ≤ 176
records_few p = omega (
  arith,
  header_few p,
  vlan_few p.vlan,
  length-append (spell (raw_header_of p)) (spell_all (switch_records p.vlan)),
)

packet_few : (form : Form) (source : Source) (x : Sample) (p : Packet)
    → length (spell (sample_tree form source x (Sampled p))) ≤ 228
packet_few Compact source x p =
    let records : Trees = flow_records p in
    let t : Tree = Tree.structure (
    Tree.word (x.number % 4294967296) & Tree.word (source.class * 16777216 + source.index) & Tree.word x.rate &
    Tree.word (x.pool % 4294967296) & Tree.word (x.drops % 4294967296) &
    Tree.word (p.input.form * 1073741824 + p.input.value) & Tree.word (p.output.form * 1073741824 + p.output.value) &
    Tree.array records & none) in
    let fields : length (spell t) ≤ 220 = omega (
      arith,
      records_few p,
      length-append (to_be_bytes w32 (count_of records) ++ spell_all records) [],
      length-append (to_be_bytes w32 (count_of records)) (spell_all records),
    ) in
    frame_few 1 220 t refl fields
packet_few Expanded source x p =
    let records : Trees = flow_records p in
    let t : Tree = Tree.structure (
    Tree.word (x.number % 4294967296) & Tree.word source.class & Tree.word source.index & Tree.word x.rate &
    Tree.word (x.pool % 4294967296) & Tree.word (x.drops % 4294967296) & Tree.word p.input.form & Tree.word p.input.value &
    Tree.word p.output.form & Tree.word p.output.value & Tree.array records & none) in
    let fields : length (spell t) ≤ 220 = omega (
      arith,
      records_few p,
      length-append (to_be_bytes w32 (count_of records) ++ spell_all records) [],
      length-append (to_be_bytes w32 (count_of records)) (spell_all records),
    ) in
    frame_few 3 220 t refl fields

reading_few : (form : Form) (source : Source) (x : Sample) (events : List Event) (s : Source)
    → length (spell (sample_tree form source x (Counted (counters_at events s)))) ≤ 120
reading_few Compact source x events s = omega arith
reading_few Expanded source x events s = omega arith

-- ---- room

one_fits : (sender : Sender) (x : Sample) (most : ℕ) → IsRoomy sender → most ≤ 472
    → length (spell (sample_tree sender.form x.turn.source x x.content)) ≤ most → fits_in sender (x ∷ []) ≡ true
one_fits sender x most r few size =
    let t : Tree = sample_tree sender.form x.turn.source x x.content in
    let head : Head = record { agent = sender.agent; sub_agent = sender.sub_agent; sequence = 0; uptime = 0 } in
    let whole : length (spell (datagram_tree head (t & none))) ≤ sender.max_datagram =
    omega (arith, datagram-size head (t & none), length-append (spell t) [], size, few, r.least, r.front) in
    le-leb (length (spell (datagram_tree head (t & none)))) sender.max_datagram whole

pub packet_fits : (sender : Sender) (source : Source) (p : Packet) → IsRoomy sender
    → fits_in sender (alone source (Sampled p) ∷ []) ≡ true
packet_fits sender source p r =
    one_fits sender (alone source (Sampled p)) 228 r (omega arith)
    (packet_few sender.form source (alone source (Sampled p)) p)

pub reading_fits : (sender : Sender) (source : Source) (events : List Event) (s : Source) → IsRoomy sender
    → fits_in sender (alone source (Counted (counters_at events s)) ∷ []) ≡ true
reading_fits sender source events s r =
    one_fits sender (alone source (Counted (counters_at events s))) 120 r (omega arith)
    (reading_few sender.form source (alone source (Counted (counters_at events s))) events s)
