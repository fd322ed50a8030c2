-- What happens to a sub-agent in one boot. Every list of events has the LATEST FIRST.
use Rattle.std.specs.Prelude.{ℕ, ◌+◌, Bool, false, List}
use Rattle.std.specs.List.{count_by}
use Rattle.wire_spec.specs.Shapes.{Tree}
use Rattle.agent_spec.specs.Sources.{Source, same_source, Turn, FlowSetup}
use Rattle.agent_spec.specs.Samples.{Packet}

-- a packet of a source; a poll at an uptime, with these readings; a send at an uptime, of which so many datagrams
-- left; a reset of a source
pub data Event : Type 0 where
  Observe : FlowSetup → Packet → Event
  Poll : ℕ → List Tree → Event
  Send : ℕ → ℕ → Event
  Reset : Source → Event

abbrev pub is_reset_of : Source → Event → Bool
is_reset_of source (Observe f packet) = false
is_reset_of source (Poll now readings) = false
is_reset_of source (Send now sent) = false
is_reset_of source (Reset other) = same_source source other

-- the generation in which a source is after these events
abbrev pub generation_after : Source → List Event → ℕ
generation_after source events = 1 + count_by (is_reset_of source) events

abbrev pub turn_after : Source → List Event → Turn
turn_after source events = record { source = source; generation = generation_after source events }
