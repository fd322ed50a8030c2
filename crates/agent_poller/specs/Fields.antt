-- The fields of a poller and of the meter over a list.
use Rattle.std.specs.Prelude.{◌≤◌, drop, length, All}
use Rattle.agent_poller.specs.Meters.{HasNoTail, MeterState}
use Rattle.agent_poller.specs.Polling.{PollerState}
use Rattle.agent_poller.specs.declared.poller.Poller.TheInside as poller
use Rattle.agent_poller.specs.declared.list_meter.ListMeter.TheInside as meter

abbrev pub poller_state : poller.Inside → PollerState
poller_state p = record { source = p.source; every = p.every; first = p.first; next = p.next; last = p.last }

-- what each poller keeps
pub record IsPoller (p : poller.Inside) : Type 0 where
  pub every_from : 1 ≤ p.every

abbrev pub meter_state : meter.Inside → MeterState
meter_state m = record {
  left = drop m.at m.readings.items;
  fails = m.fails.items;
  calls = m.calls;
  faults = m.faults;
}

-- what each meter over a list keeps
pub record IsListMeter (m : meter.Inside) : Type 0 where
  pub at_within : m.at ≤ length m.readings.items
  pub no_tails : All HasNoTail m.readings.items
