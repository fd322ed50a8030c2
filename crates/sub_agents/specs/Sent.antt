-- What a send does.
use Rattle.std.specs.Prelude.{◌≡◌, ℕ, ◌+◌, ◌%◌, ◌≤◌, List, length, map, take, drop, Result, Ok, Err}
use Rattle.std.specs.declared.option.Option.{Option}
use Rattle.data_format.specs.Addresses.{address_of}
use Rattle.circular_buffer.specs.Buffer.{Buffer, buffer}
use Rattle.wire_spec.specs.Heads.{Head}
use Rattle.wire_spec.specs.Shapes.{Tree}
use Rattle.agent_spec.specs.Packing.{longest}
use Rattle.agent_spec.specs.Events.{Send}
use Rattle.agent_spec.specs.Boots.{packed}
use Rattle.agent_outlets.specs.Outlets.{PutView, Took}
use Rattle.agent_outlets.specs.declared.outlet.OutletFault.{OutletFault}
use Rattle.sub_agents.specs.declared.staged.Staged.{Staged}
use Rattle.sub_agents.specs.Staged.{staged_value, datagram_bytes}
use Rattle.sub_agents.specs.SubAgents.{SubAgentState, BootSoFar, with_event, so_far, StandsFor, trees_fit}
use Rattle.sub_agents.specs.Outlets.{puts_of}

-- the values of what is staged
abbrev pub staged_values : SubAgentState → List Tree
staged_values s = map (staged_value s.form) s.stage.items

-- how many of them the next datagram takes
abbrev pub next_size : SubAgentState → ℕ
next_size s = longest (trees_fit s) (staged_values s) (length s.stage.items)

-- its head
abbrev pub next_head : SubAgentState → ℕ → Head
next_head s uptime = record {
  agent = address_of s.agent;
  sub_agent = s.sub_agent;
  sequence = (s.first + s.numbered) % 4294967296;
  uptime = uptime;
}

-- the next datagram, as it is put
abbrev pub next_put : SubAgentState → ℕ → PutView
next_put s uptime = record {
  boot = s.boot;
  number = 1 + s.numbered;
  bytes = datagram_bytes (next_head s uptime) (take (next_size s) (staged_values s));
}

-- a sub-agent whose stage and whose number of datagrams are these
abbrev pub moved : SubAgentState → Buffer Staged → ℕ → SubAgentState
moved s stage numbered = record s { stage = stage; numbered = numbered }

-- once the next datagram has left the stage
abbrev pub after_one : SubAgentState → SubAgentState
after_one s = moved s (buffer (drop (next_size s) s.stage.items) s.stage.capacity) (1 + s.numbered)

-- the sub-agent stands for a send of so many datagrams more: all that the stage gives, and each was put; or at a fault
-- at least one, and each but the last was put
abbrev pub Sends : SubAgentState → BootSoFar → ℕ → Option (List PutView) → Option (List PutView) → Result ℕ OutletFault → Type 0
Sends s b uptime old new (Ok n) =
    (n ≡ length (packed b.setup (so_far b))) × Took old new (puts_of b uptime n) × StandsFor s (with_event (Send uptime n) b)
Sends s b uptime old new (Err e) = (n : ℕ) × (n + 1 ≤ length (packed b.setup (so_far b)))
    × Took old new (puts_of b uptime n) × StandsFor s (with_event (Send uptime (n + 1)) b)
