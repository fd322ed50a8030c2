-- What fits a datagram alone.
use Rattle.std.proofs.Common.{◌≡◌, ℕ, ◌+◌, ◌<◌, ◌≤◌, true, [], ◌∷◌, length, take, sym, ap, subst, ◌∙◌, arith, length-append, length-take}
use Rattle.std.specs.Prelude.{nat_le, nat_lt}
use Rattle.std.proofs.lemmas.Bool.{ltb-true}
use Rattle.wire_spec.specs.Heads.{Head, address_tree, datagram_tree}
use Rattle.wire_spec.specs.Shapes.{Tree, none, ◌&◌}
use Rattle.wire_spec.specs.Spelling.{spell}
use Rattle.data_format.specs.Addresses.{address_of}
use Rattle.data_format.specs.Compact.{IsCompactPort}
use Rattle.data_format.specs.Samples.{IsFlowHead}
use Rattle.data_format.specs.declared.heads.Form.{Form}
use Rattle.data_format.specs.declared.heads.Form.TheVariants.{Compact, Expanded}
use Rattle.data_format.specs.declared.port.Port.{Port}
use Rattle.data_format.specs.declared.source.SourceId.{SourceId}
use Rattle.agent_spec.specs.Sources as spec
use Rattle.agent_spec.specs.Samples as samples
use Rattle.agent_spec.specs.Spelled.{fits_in, sample_tree}
use Rattle.agent_spec.proofs.Keys.{both}
use Rattle.agent_spec.proofs.Sized.{datagram-size}
use Rattle.sub_agents.specs.declared.packet.Packet.{Packet}
use Rattle.sub_agents.specs.declared.staged.StagedFlow.{StagedFlow}
use Rattle.sub_agents.specs.declared.staged.Staged.TheVariants.{Flow}
use Rattle.sub_agents.specs.Setups.{form_of, flow_source, IsSourceIn}
use Rattle.sub_agents.specs.Packets.{packet_of, port_fits, ports_fit}
use Rattle.sub_agents.specs.Staged.{staged_value}
use Rattle.sub_agents.specs.Sizes.{flow_bytes}
use Rattle.sub_agents.specs.Answers.{a_sample}
use Rattle.sub_agents.specs.Fields.{IsKept}
use Rattle.sub_agents.specs.SubAgents.{SubAgentState, sender_of, trees_fit, staged_fit}
use Rattle.sub_agents.proofs.Sizes.{flow-size, packet-size}

-- a datagram with one sample
abbrev head_of : SubAgentState → Head
head_of s = record { agent = address_of s.agent; sub_agent = s.sub_agent; sequence = 0; uptime = 0 }

one-size : (s : SubAgentState) (t : Tree)
    → length (spell (datagram_tree (head_of s) (t & none)))
    ≡ 20 + length (spell (address_tree (address_of s.agent))) + length (spell t)
one-size s t = omega (arith, datagram-size (head_of s) (t & none), length-append (spell t) [])

-- whether it fits is told by its size
pub fits-by-size : (s : SubAgentState) (t : Tree)
    → trees_fit s (t ∷ []) ≡ nat_le (20 + length (spell (address_tree (address_of s.agent))) + length (spell t)) s.max_datagram
fits-by-size s t = ap (λ (n : ℕ). nat_le n s.max_datagram) (one-size s t)

pub packet-fits : (s : SubAgentState) (source : spec.Source) (p : samples.Packet)
    → fits_in (sender_of s) (a_sample source p ∷ [])
    ≡ nat_le (20 + length (spell (address_tree (address_of s.agent))) + flow_bytes s.form (length (take 128 p.header)) p.vlan)
    s.max_datagram
packet-fits s source p =
    fits-by-size s (sample_tree (form_of s.form) source (a_sample source p) (samples.Sampled p))
    ∙ ap (λ (n : ℕ). nat_le (20 + length (spell (address_tree (address_of s.agent))) + n) s.max_datagram)
    (packet-size s.form source (a_sample source p) p)

port-compact : (p : Port) → port_fits Compact p ≡ true → IsCompactPort p
port-compact p e =
    let parts = both (nat_lt p.form 4) (nat_lt p.value 1073741824) e in
    let form : p.form < 4 = ltb-true p.form 4 parts.0 in
    let value : p.value < 1073741824 = ltb-true p.value 1073741824 parts.1 in
    (omega (arith, form), omega (arith, value))

head-fits : (form : Form) (p : Packet) (st : StagedFlow) → IsSourceIn form st.head.source → ports_fit form p ≡ true
    → st.head.input ≡ p.input → st.head.output ≡ p.output → IsFlowHead form st.head
head-fits Expanded p st source ports input output = tt
head-fits Compact p st source ports input output =
    let parts = both (port_fits Compact p.input) (port_fits Compact p.output) ports in (
      source,
      subst (λ (q : Port). IsCompactPort q) (sym input) (port-compact p.input parts.0),
      subst (λ (q : Port). IsCompactPort q) (sym output) (port-compact p.output parts.1),
    )

-- the sample of a packet that fits alone can be written, and fits alone
pub packet-kept : (s : SubAgentState) (id : SourceId) (p : Packet) (st : StagedFlow) → IsSourceIn s.form st.head.source
    → ports_fit s.form p ≡ true → st.head.input ≡ p.input → st.head.output ≡ p.output
    → st.header.items ≡ take 128 p.header.now → st.vlan ≡ p.vlan
    → fits_in (sender_of s) (a_sample (flow_source id) (packet_of p) ∷ []) ≡ true → IsKept s (Flow st)
packet-kept s id p st source ports input output header vlan fits =
    let shown : length st.header.items ≤ 128 =
    omega (arith, ap length header, length-take 128 p.header.now) in
    let base : ℕ = 20 + length (spell (address_tree (address_of s.agent))) in
    let alone : staged_fit s (Flow st ∷ []) ≡ true =
    fits-by-size s (staged_value s.form (Flow st))
    ∙ ap (λ (n : ℕ). nat_le (base + n) s.max_datagram)
    (flow-size s.form st ∙ (λ i. flow_bytes s.form (length (header i)) (vlan i)))
    ∙ sym (packet-fits s (flow_source id) (packet_of p))
    ∙ fits in
    ((head-fits s.form p st source ports input output, shown), alone)
