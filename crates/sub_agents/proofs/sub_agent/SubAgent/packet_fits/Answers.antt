use Rattle.std.proofs.Common.{◌≡◌, ◌∙◌, ◌+◌, ℕ, List, [], ◌∷◌, take, length, arith, sym, ap, subst, length-take}
use Rattle.std.specs.Prelude.{nat_le}
use Rattle.agent_spec.specs.Spelled.{fits_in}
use Rattle.sub_agents.specs.Setups.{flow_source}
use Rattle.sub_agents.specs.Sizes.{flow_bytes}
use Rattle.sub_agents.specs.Packets.{packet_of}
use Rattle.sub_agents.specs.Answers.{a_sample}
use Rattle.sub_agents.specs.Fields.{sub_agent_state}
use Rattle.sub_agents.specs.SubAgents.{SubAgentState, sender_of}
use Rattle.sub_agents.proofs.Fits.{packet-fits}
use Rattle.sub_agents.proofs.sub_agent.SubAgent.packet_fits.Goals as goal

pub returns : goal.returns
returns c = λ source.
    let s : SubAgentState = sub_agent_state c.self.inside in
    let bytes : List ℕ = c.args.packet.now.header.now in
    let shown : c.min-shown.result ≡ length (take 128 bytes) = omega (arith, c.min-shown.ensures, length-take 128 bytes) in
    let size : c.flow_size.result ≡ flow_bytes s.form (length (take 128 bytes)) c.args.packet.now.vlan =
    c.flow_size.ensures.value ∙ ap (λ (n : ℕ). flow_bytes s.form n c.args.packet.now.vlan) shown in
    subst (λ (v : SubAgentState). nat_le (c.head_size.result + c.flow_size.result) s.max_datagram
    ≡ fits_in (sender_of v) (a_sample (flow_source source) (packet_of c.args.packet.now) ∷ [])) c.self.view_is
    ((λ i. nat_le (c.head_size.ensures.value i + size i) s.max_datagram)
    ∙ sym (packet-fits s (flow_source source) (packet_of c.args.packet.now)))
