use Rattle.std.proofs.Common.{◌<◌, ◌∙◌, length, get_or, arith}
use Rattle.std.proofs.lemmas.Option.{slice_get-get_or}
use Rattle.agent_sampler.specs.Following.{none_yet}
use Rattle.sub_agents.specs.declared.sources.FlowSource.{FlowSource}
use Rattle.sub_agents.specs.Counts.{flow_setup, HasCounts}
use Rattle.sub_agents.proofs.Lists.{map-set, each-take}
use Rattle.sub_agents.proofs.resetting.restart_flows.Goals as goal

pub loop-place-preserved : goal.loop-place-preserved
loop-place-preserved c =
    let xs = c.loop-place.flows in
    let i = c.loop-place.place in
    let x = get_or xs i c.index-flows-place.result in
    let y = c.restart.new.self in
    let within : i < length xs = omega (arith, c.loop-place-test.true, c.loop-place.auto.flows) in
    let at = slice_get-get_or xs i c.index-flows-place.result within in
    record {
      setups = map-set flow_setup xs i x y at c.restart.ensures.setup ∙ c.loop-place.invariant.setups;
      sources = map-set (λ (f : FlowSource). f.source) xs i x y at c.restart.ensures.source ∙ c.loop-place.invariant.sources;
      counts = each-take (HasCounts none_yet) xs i y within c.loop-place.invariant.counts c.restart.ensures.counts;
    }
