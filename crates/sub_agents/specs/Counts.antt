-- The sources of a sub-agent, and the counts for which they stand.
use Rattle.std.specs.Prelude.{◌+◌, Bool, true, false, cond, List, map}
use Rattle.agent_spec.specs.Sources as spec
use Rattle.data_format.specs.declared.source.SourceId.{SourceId}
use Rattle.agent_sampler.specs.Sampling as sampling
use Rattle.agent_sampler.specs.declared.sampler.Marks.{Marks}
use Rattle.agent_sampler.specs.Following.{FlowCounts}
use Rattle.agent_poller.specs.Polling as polling
use Rattle.agent_poller.specs.Following.{PollCounts}
use Rattle.sub_agents.specs.declared.sources.FlowSource.{FlowSource}
use Rattle.sub_agents.specs.declared.sources.Taken.{Taken}
use Rattle.sub_agents.specs.declared.sources.Taken.TheVariants.{Passed, Dropped, Issued}
use Rattle.sub_agents.specs.Setups.{flow_source, counter_source}

-- the set-up of a source
abbrev pub flow_setup : FlowSource → spec.FlowSetup
flow_setup f = record {
  source = flow_source f.source;
  rate = f.rate;
  skips = f.sampler.skips;
  first = f.sampler.begin.next;
  pool = f.sampler.begin.pool;
  drops = f.sampler.begin.drops;
}

abbrev pub counter_setup : polling.PollerState → spec.CounterSetup
counter_setup p = record { source = counter_source p.source; every = p.every; first = p.first }

-- the source stands for these counts
abbrev pub HasCounts : FlowCounts → FlowSource → Type 0
HasCounts c f = sampling.StandsFor f.sampler c.packets c.issued c.dropped

abbrev pub HasPolls : PollCounts → polling.PollerState → Type 0
HasPolls c p = polling.StandsFor p c.issued c.last

-- what comes of a packet, by whether it is marked and whether the stage has a place
abbrev pub taken_of : Marks → Bool → Bool → FlowCounts → Taken
taken_of begin marked place c =
    cond marked
    (cond place (Issued (sampling.marks_after begin (1 + c.packets) c.issued c.dropped)) Dropped)
    Passed

abbrev pub is_issued : Taken → Bool
is_issued Passed = false
is_issued Dropped = false
is_issued (Issued marks) = true

-- what is sampled, and what is polled
abbrev pub flow_sources : List FlowSource → List SourceId
flow_sources flows = map (λ (f : FlowSource). f.source) flows

abbrev pub polled_sources : List polling.PollerState → List SourceId
polled_sources pollers = map (λ (p : polling.PollerState). p.source) pollers
