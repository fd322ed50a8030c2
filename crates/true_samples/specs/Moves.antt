-- What each call does to what is kept.
use Rattle.std.specs.Prelude.{ℕ, ◌+◌, ◌%◌, ◌^◌, Bool, List, [], ◌∷◌, ◌++◌, length, map, set, take, drop, min}
use Rattle.agent_spec.specs.Polls.{is_due_after}
use Rattle.true_samples.specs.declared.counts.FlowCounts.{FlowCounts}
use Rattle.true_samples.specs.declared.counts.CounterCounts.{CounterCounts}
use Rattle.true_samples.specs.declared.samples.IssuedSample.{IssuedSample}
use Rattle.true_samples.specs.declared.calls.Seen.{Seen}
use Rattle.true_samples.specs.declared.calls.Seen.TheVariants.{Passed, Issued, Dropped}
use Rattle.true_samples.specs.Words.{count_in}
use Rattle.true_samples.specs.States.{BootState, TrueState}

-- one more of 64 bits
abbrev pub more : ℕ → ℕ
more n = (n + 1) % 2 ^ 64

-- ---- packets

abbrev pub one_packet : FlowCounts → FlowCounts
one_packet k = record k { packets = more k.packets }

abbrev pub flow_sample_at : ℕ → FlowCounts → IssuedSample
flow_sample_at place k = record {
  source = place;
  generation = k.generation;
  number = k.first + k.issued;
  pool = k.pool + k.packets;
  drops = k.drops + k.dropped;
}

abbrev pub with_packet_at : ℕ → FlowCounts → Seen → TrueState → TrueState
with_packet_at place k Passed t = record t { flows = set t.flows place (one_packet k) }
with_packet_at place k Dropped t = record t {
  flows = set t.flows place (record (one_packet k) { dropped = more k.dropped });
  current = record t.current { dropped = more t.current.dropped };
}
with_packet_at place k Issued t = record t {
  flows = set t.flows place (record (one_packet k) { issued = more k.issued });
  current = record t.current { issued = more t.current.issued };
  staged = t.staged ++ flow_sample_at place (one_packet k) ∷ [];
}

-- ---- polls

abbrev pub is_due_at : ℕ → CounterCounts → Bool
is_due_at now k = is_due_after k.every k.last now

abbrev pub counter_sample_at : ℕ → CounterCounts → IssuedSample
counter_sample_at place k =
    record { source = place; generation = k.generation; number = k.first + k.issued; pool = 0; drops = 0 }

abbrev pub with_poll_at : ℕ → CounterCounts → ℕ → TrueState → TrueState
with_poll_at place k now t = record t {
  counters = set t.counters place (record k { issued = more k.issued; last = now });
  current = record t.current { issued = more t.current.issued };
  staged = t.staged ++ counter_sample_at (length t.flow_ids + place) k ∷ [];
}

-- ---- datagrams

-- so many samples leave in a datagram
abbrev pub datagram_at : ℕ → ℕ → List ℕ → TrueState → TrueState
datagram_at size now bytes t = record t {
  staged = drop size t.staged;
  current = record t.current {
    datagrams = t.current.datagrams ++ record {
      number = t.first + length t.current.datagrams;
      uptime = now;
      samples = take size t.staged;
      bytes = bytes;
    } ∷ [];
  };
}

-- as many as the bytes say
abbrev pub with_datagram : ℕ → List ℕ → TrueState → TrueState
with_datagram now bytes t = datagram_at (min (count_in bytes) (length t.staged)) now bytes t

-- ---- resets and restarts

abbrev pub flow_anew : ℕ → FlowCounts → FlowCounts
flow_anew generation k = record k { generation = generation; packets = 0; issued = 0; dropped = 0 }

abbrev pub counter_anew : ℕ → CounterCounts → CounterCounts
counter_anew generation k = record k { generation = generation; issued = 0; last = 0 }

abbrev pub with_flow_reset : ℕ → FlowCounts → TrueState → TrueState
with_flow_reset place k t = record t { flows = set t.flows place (flow_anew (more k.generation) k) }

abbrev pub with_counter_reset : ℕ → CounterCounts → TrueState → TrueState
with_counter_reset place k t = record t { counters = set t.counters place (counter_anew (more k.generation) k) }

abbrev pub nothing_yet : BootState
nothing_yet = record { datagrams = []; issued = 0; dropped = 0 }

abbrev pub restarted : TrueState → TrueState
restarted t = record t {
  flows = map (flow_anew 1) t.flows;
  counters = map (counter_anew 1) t.counters;
  staged = [];
  current = nothing_yet;
  earlier = t.earlier ++ t.current ∷ [];
}
