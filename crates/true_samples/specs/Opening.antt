-- A sub-agent as it is set up.
use Rattle.agent_spec.specs.Sources as spec
use Rattle.agent_setups.specs.declared.setup.FlowSetup.{FlowSetup}
use Rattle.agent_setups.specs.declared.setup.CounterSetup.{CounterSetup}
use Rattle.std.specs.Prelude.{true, false}
use Rattle.true_samples.specs.declared.counts.FlowCounts.{FlowCounts}
use Rattle.true_samples.specs.declared.counts.CounterCounts.{CounterCounts}
use Rattle.true_samples.specs.Counts.{source_as}

-- set-ups as an agent's history has them
abbrev pub sampled_as : FlowSetup → spec.FlowSetup
sampled_as f = record {
  source = source_as true f.source;
  rate = f.rate;
  skips = f.skips;
  first = f.first;
  pool = f.pool;
  drops = f.drops;
}

abbrev pub polled_as : CounterSetup → spec.CounterSetup
polled_as c = record { source = source_as false c.source; every = c.every; first = c.first }

-- before the first packet, and before the first poll
abbrev pub flow_begun : FlowSetup → FlowCounts
flow_begun f = record {
  first = f.first;
  pool = f.pool;
  drops = f.drops;
  generation = 1;
  packets = 0;
  issued = 0;
  dropped = 0;
}

abbrev pub counter_begun : CounterSetup → CounterCounts
counter_begun c = record { every = c.every; first = c.first; generation = 1; issued = 0; last = 0 }
