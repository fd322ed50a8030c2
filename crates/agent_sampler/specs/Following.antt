-- The counts of a source of flow samples in its current generation, event by event.
use Rattle.std.specs.Prelude.{ℕ, ◌+◌, nat_lt, Bool, cond, List, length}
use Rattle.agent_spec.specs.Sources.{Source, Turn}
use Rattle.agent_spec.specs.Samples.{Setup}
use Rattle.agent_spec.specs.Events.{Event, turn_after}
use Rattle.agent_spec.specs.Boots.{Boot, seen_in, issued_in, dropped_in, happened}

-- packets seen, samples issued, and marked packets dropped
pub record FlowCounts : Type 0 where
  pub packets : ℕ
  pub issued : ℕ
  pub dropped : ℕ

abbrev pub none_yet : FlowCounts
none_yet = record { packets = 0; issued = 0; dropped = 0 }

abbrev pub counts_in : Turn → Boot → FlowCounts
counts_in turn b =
    record { packets = seen_in turn b; issued = issued_in turn b; dropped = dropped_in turn b }

-- those of a source after these events of a boot
abbrev pub counts_after : Setup → Source → List Event → FlowCounts
counts_after s source events = counts_in (turn_after source events) (happened s events)

-- whether the stage has a place after these events
abbrev pub has_place : Setup → List Event → Bool
has_place s events = nat_lt (length (happened s events).staged) s.stage

-- one packet more, by whether it is marked and whether the stage has a place
abbrev pub with_packet : Bool → Bool → FlowCounts → FlowCounts
with_packet marked place c = record {
  packets = 1 + c.packets;
  issued = cond marked (cond place (1 + c.issued) c.issued) c.issued;
  dropped = cond marked (cond place c.dropped (1 + c.dropped)) c.dropped;
}
