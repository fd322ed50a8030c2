-- What the calls of a sub-agent answer.
use Rattle.std.specs.Prelude.{◌+◌, Bool, true, false, not, cond, List, [], ◌∷◌, Result, Ok, Err}
use Rattle.std.specs.declared.option.Option.{Option}
use Rattle.std.specs.declared.option.Option.TheVariants.{Some, None}
use Rattle.agent_spec.specs.Sources as spec
use Rattle.agent_spec.specs.Samples as samples
use Rattle.agent_spec.specs.Spelled.{fits_in}
use Rattle.agent_spec.specs.Marks.{is_marked}
use Rattle.agent_sampler.specs.Following.{FlowCounts, counts_after, has_place}
use Rattle.agent_sampler.specs.Sampling.{word_behind}
use Rattle.data_format.specs.declared.source.SourceId.{SourceId}
use Rattle.sub_agents.specs.declared.packet.Packet.{Packet}
use Rattle.sub_agents.specs.declared.packet.Seen.{Seen}
use Rattle.sub_agents.specs.declared.packet.Seen.TheVariants.{Passed, Issued, Dropped}
use Rattle.sub_agents.specs.declared.packet.ObserveRefusal.{ObserveRefusal}
use Rattle.sub_agents.specs.declared.packet.ObserveRefusal.TheVariants.{NoSource, BadPort, TooLarge}
use Rattle.agent_setups.specs.Ids.{is_among}
use Rattle.sub_agents.specs.Counts.{flow_sources, polled_sources}
use Rattle.sub_agents.specs.Packets.{packet_of, ports_fit}
use Rattle.sub_agents.specs.Setups.{flow_source, counter_source}
use Rattle.sub_agents.specs.SubAgents.{SubAgentState, sender_of, BootSoFar}

-- a sample of this packet, whatever its number and counts
abbrev pub a_sample : spec.Source → samples.Packet → samples.Sample
a_sample source packet = record {
  turn = record { source = source; generation = 1 };
  number = 0;
  pool = 0;
  drops = 0;
  rate = 0;
  content = samples.Sampled packet;
}

-- why a packet is refused: the first of the causes that hold
abbrev pub refusal : SubAgentState → SourceId → Packet → Option ObserveRefusal
refusal s id p =
    cond (not (is_among id (flow_sources s.flows))) (Some NoSource)
    (cond (not (ports_fit s.form p)) (Some BadPort)
    (cond (not (fits_in (sender_of s) (a_sample (flow_source id) (packet_of p) ∷ []))) (Some TooLarge)
    None))

abbrev pub refusal_in : Result Seen ObserveRefusal → Option ObserveRefusal
refusal_in (Ok seen) = None
refusal_in (Err e) = Some e

-- what comes of a packet: it isn't marked, or it is issued with the next number, or dropped where the stage is full
abbrev pub seen_by : spec.FlowSetup → BootSoFar → Seen
seen_by f b =
    let c : FlowCounts = counts_after b.setup f.source b.events in
    cond (is_marked f.skips (1 + c.packets))
    (cond (has_place b.setup b.events) (Issued (word_behind f.first c.issued)) Dropped)
    Passed

-- the sources of a kind, and a source of a kind
abbrev pub sources_of_kind : Bool → SubAgentState → List SourceId
sources_of_kind true s = flow_sources s.flows
sources_of_kind false s = polled_sources s.pollers

abbrev pub source_of_kind : Bool → SourceId → spec.Source
source_of_kind true id = flow_source id
source_of_kind false id = counter_source id
