-- What a source has counted in its generation. Every list of events has the LATEST FIRST.
use Rattle.std.specs.Prelude.{◌+◌, ◌*◌, ◌^◌, ◌<◌, nat_lt, cond, Bool, List, length}
use Rattle.agent_spec.specs.Sources.{Source, Turn, FlowSetup, CounterSetup}
use Rattle.agent_spec.specs.Samples.{Setup}
use Rattle.agent_spec.specs.Events.{Event, turn_after}
use Rattle.agent_spec.specs.Marks.{is_marked}
use Rattle.agent_spec.specs.Boots.{Boot, seen_in, issued_in, dropped_in, last_poll, happened}
use Rattle.data_format.specs.declared.source.SourceId.{SourceId}
use Rattle.true_samples.specs.declared.counts.FlowCounts.{FlowCounts}
use Rattle.true_samples.specs.declared.counts.CounterCounts.{CounterCounts}
use Rattle.true_samples.specs.declared.calls.Seen.{Seen}
use Rattle.true_samples.specs.declared.calls.Seen.TheVariants.{Passed, Issued, Dropped}

abbrev pub id_in : Source → SourceId
id_in s = record { class = s.class; index = s.index }

abbrev pub source_as : Bool → SourceId → Source
source_as flow id = record { flow = flow; class = id.class; index = id.index }

abbrev pub flow_counts : List Event → Boot → FlowSetup → FlowCounts
flow_counts before b f =
    let turn : Turn = turn_after f.source before in
    record {
      first = f.first;
      pool = f.pool;
      drops = f.drops;
      generation = turn.generation;
      packets = seen_in turn b;
      issued = issued_in turn b;
      dropped = dropped_in turn b;
    }

abbrev pub counter_counts : List Event → Boot → CounterSetup → CounterCounts
counter_counts before b c =
    let turn : Turn = turn_after c.source before in
    record {
      every = c.every;
      first = c.first;
      generation = turn.generation;
      issued = issued_in turn b;
      last = last_poll turn b.polled;
    }

-- what comes of a packet
abbrev pub seen_of : Setup → FlowSetup → List Event → Seen
seen_of s f events =
    let b : Boot = happened s events in
    cond (is_marked f.skips (1 + seen_in (turn_after f.source events) b))
    (cond (nat_lt (length b.staged) s.stage) Issued Dropped)
    Passed

-- fewer than 2^63 samples could have been issued by these events
abbrev pub IsShort : Setup → List Event → Type 0
IsShort s events = length events * (1 + length s.counters) < 2 ^ 63
