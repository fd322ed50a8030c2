-- A sub-agent, and the history for which it stands. Every list of events has the LATEST FIRST.
use Rattle.std.specs.Prelude.{◌≡◌, ℕ, ◌+◌, nat_le, Bool, List, [], ◌∷◌, length, map, reverse}
use Rattle.std.specs.List.{AllByRecursion}
use Rattle.wire_spec.specs.Shapes.{Tree}
use Rattle.wire_spec.specs.Spelling.{spell}
use Rattle.wire_spec.specs.Heads.{datagram_tree}
use Rattle.data_format.specs.Addresses.{address_of}
use Rattle.data_format.specs.declared.address.Address.{Address}
use Rattle.data_format.specs.declared.heads.Form.{Form}
use Rattle.circular_buffer.specs.Buffer.{Buffer}
use Rattle.agent_spec.specs.Samples.{Setup}
use Rattle.agent_spec.specs.Spelled.{Sender, fits_in}
use Rattle.agent_spec.specs.Events.{Event, turn_after}
use Rattle.agent_spec.specs.Boots.{Boot, happened, MayHappen}
use Rattle.agent_sampler.specs.Following as flows
use Rattle.agent_poller.specs.Following as polls
use Rattle.agent_poller.specs.Polling.{PollerState}
use Rattle.sub_agents.specs.declared.sources.FlowSource.{FlowSource}
use Rattle.sub_agents.specs.declared.staged.Staged.{Staged}
use Rattle.sub_agents.specs.Setups.{form_of, flow_source, counter_source}
use Rattle.sub_agents.specs.Staged.{staged_value, sample_value, values}
use Rattle.sub_agents.specs.Counts.{flow_setup, counter_setup, HasCounts, HasPolls}

-- what contracts see of a sub-agent
pub record SubAgentState : Type 0 where
  pub agent : Address
  pub sub_agent : ℕ
  pub form : Form
  pub max_datagram : ℕ
  pub first : ℕ
  pub flows : List FlowSource
  pub pollers : List PollerState
  pub stage : Buffer Staged
  pub boot : ℕ
  pub numbered : ℕ

-- who sends its datagrams
abbrev pub sender_of : SubAgentState → Sender
sender_of s = record {
  agent = address_of s.agent;
  sub_agent = s.sub_agent;
  form = form_of s.form;
  max_datagram = s.max_datagram;
}

abbrev pub setup_of : SubAgentState → Setup
setup_of s = record {
  stage = s.stage.capacity;
  first = s.first;
  flows = map flow_setup s.flows;
  counters = map counter_setup s.pollers;
  fits = fits_in (sender_of s);
}

-- a sub-agent in one of its boots, and what has happened in it
pub record BootSoFar : Type 0 where
  pub sender : Sender
  pub setup : Setup
  pub number : ℕ
  pub events : List Event

abbrev pub with_event : Event → BootSoFar → BootSoFar
with_event e b = record b { events = e ∷ b.events }

-- the next boot, in which nothing has happened
abbrev pub next_boot : BootSoFar → BootSoFar
next_boot b = record b { number = 1 + b.number; events = [] }

-- what happened in it
abbrev pub so_far : BootSoFar → Boot
so_far b = happened b.setup b.events

-- ---- counts

-- each source stands for its counts in its generation, the stage has the values of the staged samples, and as many
-- datagrams were numbered as were sent
pub record HasCountsOf (s : SubAgentState) (before : List Event) (b : Boot) : Type 0 where
  pub flows : AllByRecursion (λ (f : FlowSource). HasCounts (flows.counts_in (turn_after (flow_source f.source) before) b) f) s.flows
  pub pollers : AllByRecursion (λ (p : PollerState). HasPolls (polls.counts_in (turn_after (counter_source p.source) before) b) p) s.pollers
  pub staged : map (staged_value s.form) s.stage.items ≡ map (sample_value (form_of s.form)) (reverse b.staged)
  pub numbered : s.numbered ≡ length b.sent

-- the sub-agent is in this boot, and all that it keeps follows from what has happened
pub record StandsFor (s : SubAgentState) (b : BootSoFar) : Type 0 where
  pub sender : sender_of s ≡ b.sender
  pub setup : setup_of s ≡ b.setup
  pub number : s.boot ≡ b.number
  pub lawful : MayHappen b.setup b.events
  pub counts : HasCountsOf s b.events (so_far b)

-- ---- what fits

-- the bytes of a datagram with these samples, whatever its number and uptime
abbrev pub size_with : SubAgentState → List Tree → ℕ
size_with s trees = length (spell (datagram_tree
    (record { agent = address_of s.agent; sub_agent = s.sub_agent; sequence = 0; uptime = 0 }) (values trees)))

abbrev pub trees_fit : SubAgentState → List Tree → Bool
trees_fit s trees = nat_le (size_with s trees) s.max_datagram

abbrev pub staged_fit : SubAgentState → List Staged → Bool
staged_fit s staged = trees_fit s (map (staged_value s.form) staged)
