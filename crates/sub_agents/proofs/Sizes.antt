-- How many bytes samples and datagrams have.
use Rattle.std.proofs.Common.{◌≡◌, ℕ, ◌+◌, ◌*◌, ◌%◌, List, [], ◌++◌, length, replicate, take, refl, arith}
use Rattle.std.proofs.lemmas.List.{length-append, length-replicate}
use Rattle.std.specs.declared.option.Option.{Option}
use Rattle.std.specs.declared.option.Option.TheVariants.{Some, None}
use Rattle.wire_spec.specs.Padding.{padding_of}
use Rattle.wire_spec.specs.Shapes.{Tree, known, Trees, none, ◌&◌, count_of}
use Rattle.wire_spec.specs.Spelling.{padded, spell, spell_all}
use Rattle.std.specs.Int.{w32, to_be_bytes}
use Rattle.data_format.specs.Compact.{source_word, port_word}
use Rattle.data_format.specs.declared.heads.FlowHead.{FlowHead}
use Rattle.data_format.specs.declared.heads.Form.{Form}
use Rattle.data_format.specs.declared.heads.Form.TheVariants.{Compact, Expanded}
use Rattle.agent_spec.specs.Sources as spec
use Rattle.agent_spec.specs.Samples as samples
use Rattle.agent_spec.specs.Spelled.{sample_tree, flow_records, switch_records}
use Rattle.sub_agents.specs.declared.staged.StagedFlow.{StagedFlow}
use Rattle.sub_agents.specs.declared.staged.StagedCounters.{StagedCounters}
use Rattle.sub_agents.specs.declared.staged.Staged.TheVariants.{Flow, Counters}
use Rattle.sub_agents.specs.Setups.{form_of}
use Rattle.sub_agents.specs.Staged.{header_value, staged_size}
use Rattle.sub_agents.specs.Sizes.{vlan_size, flow_bytes, counters_bytes}

-- a frame whose fields are whole words
pub known-size : (k : ℕ) (t : Tree) → length (spell t) % 4 ≡ 0 → length (spell (known k t [])) ≡ 8 + length (spell t)
known-size k t words =
    let n = length (spell t ++ []) in
    omega (
      arith,
      words,
      length-append (spell t) [],
      length-append (spell t ++ []) (replicate (padding_of n) 0),
      length-replicate {A = ℕ} (padding_of n) 0,
    )

-- the front of a packet
pub raw-size : (frame_length : ℕ) (bytes : List ℕ)
    → length (spell (known 1 (Tree.structure (Tree.word 1 & Tree.word frame_length & Tree.word 4 & Tree.opaque bytes & none)) []))
    ≡ 24 + (length bytes + padding_of (length bytes))
raw-size frame_length bytes =
    let t : Tree = Tree.structure (Tree.word 1 & Tree.word frame_length & Tree.word 4 & Tree.opaque bytes & none) in
    let fields : length (spell t) ≡ 16 + (length bytes + padding_of (length bytes)) = omega (
      arith,
      length-append (padded bytes) [],
      length-append bytes (replicate (padding_of (length bytes)) 0),
      length-replicate {A = ℕ} (padding_of (length bytes)) 0,
    ) in
    omega (arith, fields, known-size 1 t (omega (arith, fields)))

pub vlan-size : (vlan : Option ℕ) → length (spell_all (switch_records vlan)) ≡ vlan_size vlan
vlan-size None = refl
vlan-size (Some vlan) = refl

-- the records of a flow sample
records-size : (frame_length : ℕ) (bytes : List ℕ) (vlan : Option ℕ)
    → length (spell_all (known 1 (Tree.structure (Tree.word 1 & Tree.word frame_length & Tree.word 4 & Tree.opaque bytes & none)) []
    & switch_records vlan))
    ≡ 24 + (length bytes + padding_of (length bytes)) + vlan_size vlan
records-size frame_length bytes vlan =
    let raw : Tree = known 1 (Tree.structure (Tree.word 1 & Tree.word frame_length & Tree.word 4 & Tree.opaque bytes & none)) [] in
    omega (
      arith,
      length-append (spell raw) (spell_all (switch_records vlan)),
      raw-size frame_length bytes,
      vlan-size vlan,
    )

vlan-words : (vlan : Option ℕ) → vlan_size vlan % 4 ≡ 0
vlan-words None = refl
vlan-words (Some vlan) = refl

-- a flow sample of these words, over these records
flow-compact : (a b c d e f g : ℕ) (records : Trees) (n : ℕ) → length (spell_all records) ≡ n → n % 4 ≡ 0
    → length (spell (known 1 (Tree.structure (Tree.word a & Tree.word b & Tree.word c & Tree.word d & Tree.word e &
    Tree.word f & Tree.word g & Tree.array records & none)) [])) ≡ 40 + n
flow-compact a b c d e f g records n size words =
    let t : Tree = Tree.structure (Tree.word a & Tree.word b & Tree.word c & Tree.word d & Tree.word e &
    Tree.word f & Tree.word g & Tree.array records & none) in
    let fields : length (spell t) ≡ 32 + n = omega (
      arith,
      size,
      length-append (to_be_bytes w32 (count_of records) ++ spell_all records) [],
      length-append (to_be_bytes w32 (count_of records)) (spell_all records),
    ) in
    omega (arith, fields, known-size 1 t (omega (arith, fields, words)))

flow-expanded : (a b c d e f g h i j : ℕ) (records : Trees) (n : ℕ) → length (spell_all records) ≡ n → n % 4 ≡ 0
    → length (spell (known 3 (Tree.structure (Tree.word a & Tree.word b & Tree.word c & Tree.word d & Tree.word e &
    Tree.word f & Tree.word g & Tree.word h & Tree.word i & Tree.word j & Tree.array records & none)) [])) ≡ 52 + n
flow-expanded a b c d e f g h i j records n size words =
    let t : Tree = Tree.structure (Tree.word a & Tree.word b & Tree.word c & Tree.word d & Tree.word e &
    Tree.word f & Tree.word g & Tree.word h & Tree.word i & Tree.word j & Tree.array records & none) in
    let fields : length (spell t) ≡ 44 + n = omega (
      arith,
      size,
      length-append (to_be_bytes w32 (count_of records) ++ spell_all records) [],
      length-append (to_be_bytes w32 (count_of records)) (spell_all records),
    ) in
    omega (arith, fields, known-size 3 t (omega (arith, fields, words)))

whole-words : (n : ℕ) (vlan : Option ℕ) → (24 + (n + padding_of n) + vlan_size vlan) % 4 ≡ 0
whole-words n vlan = omega (arith, vlan-words vlan)

-- a staged flow sample
pub flow-size : (form : Form) (s : StagedFlow)
    → staged_size form (Flow s) ≡ flow_bytes form (length s.header.items) s.vlan
flow-size Compact s =
    let h : FlowHead = s.head in
    let n : ℕ = length s.header.items in
    flow-compact h.sequence (source_word h.source) h.rate h.pool h.drops (port_word h.input) (port_word h.output)
    (header_value s & switch_records s.vlan) (24 + (n + padding_of n) + vlan_size s.vlan)
    (records-size s.frame_length s.header.items s.vlan) (whole-words n s.vlan)
flow-size Expanded s =
    let h : FlowHead = s.head in
    let n : ℕ = length s.header.items in
    flow-expanded h.sequence h.source.class h.source.index h.rate h.pool h.drops
    h.input.form h.input.value h.output.form h.output.value
    (header_value s & switch_records s.vlan) (24 + (n + padding_of n) + vlan_size s.vlan)
    (records-size s.frame_length s.header.items s.vlan) (whole-words n s.vlan)

pub counters-size : (form : Form) (s : StagedCounters) → staged_size form (Counters s) ≡ counters_bytes form
counters-size Compact s = refl
counters-size Expanded s = refl

-- a sample of a packet
pub packet-size : (form : Form) (source : spec.Source) (x : samples.Sample) (p : samples.Packet)
    → length (spell (sample_tree (form_of form) source x (samples.Sampled p)))
    ≡ flow_bytes form (length (take 128 p.header)) p.vlan
packet-size Compact source x p =
    let n : ℕ = length (take 128 p.header) in
    flow-compact (x.number % 4294967296) (source.class * 16777216 + source.index) x.rate (x.pool % 4294967296)
    (x.drops % 4294967296) (p.input.form * 1073741824 + p.input.value) (p.output.form * 1073741824 + p.output.value)
    (flow_records p) (24 + (n + padding_of n) + vlan_size p.vlan)
    (records-size p.frame_length (take 128 p.header) p.vlan) (whole-words n p.vlan)
packet-size Expanded source x p =
    let n : ℕ = length (take 128 p.header) in
    flow-expanded (x.number % 4294967296) source.class source.index x.rate (x.pool % 4294967296) (x.drops % 4294967296)
    p.input.form p.input.value p.output.form p.output.value
    (flow_records p) (24 + (n + padding_of n) + vlan_size p.vlan)
    (records-size p.frame_length (take 128 p.header) p.vlan) (whole-words n p.vlan)
