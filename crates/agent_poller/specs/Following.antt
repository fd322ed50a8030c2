-- The counts of a counter source in its current generation, event by event.
use Rattle.std.specs.Prelude.{ℕ, List}
use Rattle.wire_spec.specs.Shapes.{Tree}
use Rattle.agent_spec.specs.Sources.{Source, Turn, CounterSetup}
use Rattle.agent_spec.specs.Samples.{Setup}
use Rattle.agent_spec.specs.Events.{Event, turn_after}
use Rattle.agent_spec.specs.Boots.{Boot, issued_in, last_poll, issue, counter_sample, with_polled, happened}

-- samples issued, and the uptime of the last poll, or 0
pub record PollCounts : Type 0 where
  pub issued : ℕ
  pub last : ℕ

abbrev pub none_yet : PollCounts
none_yet = record { issued = 0; last = 0 }

abbrev pub counts_in : Turn → Boot → PollCounts
counts_in turn b = record { issued = issued_in turn b; last = last_poll turn b.polled }

-- those of a source after these events of a boot
abbrev pub counts_after : Setup → Source → List Event → PollCounts
counts_after s source events = counts_in (turn_after source events) (happened s events)

-- one source polled, in its generation
abbrev pub after_one : CounterSetup → Turn → ℕ → Tree → Boot → Boot
after_one c turn now reading b = with_polled turn now (issue (counter_sample c turn reading b) b)
