-- A history: agents, and what happened to each of their sub-agents, boot by boot.
-- Events have the LATEST FIRST, but the boots of a sub-agent stand in their order, and are numbered from 1.
use Rattle.std.specs.Prelude.{◌≡◌, ℕ, zero, suc, true, false, cond, List, [], ◌∷◌, map}
use Rattle.std.specs.List.{AllByRecursion}
use Rattle.wire_spec.specs.Heads.{unknown}
use Rattle.books_spec.specs.Items.{Stream}
use Rattle.books_spec.specs.Listing.{same_stream, AreDistinct}
use Rattle.agent_spec.specs.Sources.{Source, same_source, FlowSetup, CounterSetup}
use Rattle.agent_spec.specs.Samples.{Datagram, Setup}
use Rattle.agent_spec.specs.Events.{Event}
use Rattle.agent_spec.specs.Boots.{happened, MayHappen}
use Rattle.agent_spec.specs.Spelled.{Sender, Compact}

-- a sub-agent: who sends, what it samples and polls, and the events of each of its boots
pub record SubAgent : Type 0 where
  pub sender : Sender
  pub setup : Setup
  pub boots : List (List Event)

abbrev pub stream_in : SubAgent → Stream
stream_in a = record { agent = a.sender.agent; sub_agent = a.sender.sub_agent }

-- the events of the boot of this number
abbrev pub events_of : List (List Event) → ℕ → List Event
events_of [] boot = []
events_of (events ∷ more) zero = []
events_of (events ∷ more) (suc zero) = events
events_of (events ∷ more) (suc (suc boot)) = events_of more (suc boot)

-- the datagrams that it sent in that boot
abbrev pub sent_in : SubAgent → ℕ → List Datagram
sent_in a boot = (happened a.setup (events_of a.boots boot)).sent

-- one that never sent anything
abbrev pub nobody : SubAgent
nobody = record {
  sender = record { agent = unknown; sub_agent = 0; form = Compact; max_datagram = 0 };
  setup = record { stage = 0; first = 0; flows = []; counters = []; fits = λ samples. false };
  boots = [];
}

-- the sub-agent of this stream
abbrev pub agent_of : List SubAgent → Stream → SubAgent
agent_of [] stream = nobody
agent_of (a ∷ more) stream = cond (same_stream (stream_in a) stream) a (agent_of more stream)

-- ---- what is a history

abbrev pub flow_sources : Setup → List Source
flow_sources s = map (λ (f : FlowSetup). f.source) s.flows

abbrev pub counter_sources : Setup → List Source
counter_sources s = map (λ (c : CounterSetup). c.source) s.counters

-- flow samples are taken of some sources and counters samples of others, and no source is set up twice
pub record IsSetUp (s : Setup) : Type 0 where
  pub flows : AllByRecursion (λ (f : FlowSetup). f.source.flow ≡ true) s.flows
  pub counters : AllByRecursion (λ (c : CounterSetup). c.source.flow ≡ false) s.counters
  pub flows_once : AreDistinct same_source (flow_sources s)
  pub counters_once : AreDistinct same_source (counter_sources s)

pub record IsSubAgent (a : SubAgent) : Type 0 where
  pub setup : IsSetUp a.setup
  pub boots : AllByRecursion (MayHappen a.setup) a.boots

-- no two sub-agents have the same agent address and number there
pub record IsHistory (history : List SubAgent) : Type 0 where
  pub agents : AllByRecursion IsSubAgent history
  pub once : AreDistinct same_stream (map stream_in history)
