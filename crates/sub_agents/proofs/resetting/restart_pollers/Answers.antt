use Rattle.std.proofs.Common.{◌≡◌, ◌<◌, ◌∙◌, length, get_or, arith}
use Rattle.std.proofs.lemmas.Option.{slice_get-get_or}
use Rattle.agent_poller.specs.Following.{none_yet}
use Rattle.agent_poller.specs.Polling.{PollerState}
use Rattle.sub_agents.specs.Setups.{counter_source}
use Rattle.sub_agents.specs.Counts.{counter_setup, HasPolls}
use Rattle.sub_agents.proofs.Lists.{map-set, each-take}
use Rattle.sub_agents.proofs.resetting.restart_pollers.Goals as goal

pub loop-place-preserved : goal.loop-place-preserved
loop-place-preserved c =
    let xs = c.loop-place.pollers in
    let i = c.loop-place.place in
    let x = get_or xs i c.index-pollers-place.result in
    let y = c.restart.new.self in
    let e = c.restart.ensures in
    let within : i < length xs = omega (arith, c.loop-place-test.true, c.loop-place.auto.pollers) in
    let at = slice_get-get_or xs i c.index-pollers-place.result within in
    let same : counter_setup y ≡ counter_setup x =
    λ j. record { source = counter_source (e.source j); every = e.every j; first = e.first j } in
    record {
      setups = map-set counter_setup xs i x y at same ∙ c.loop-place.invariant.setups;
      sources = map-set (λ (p : PollerState). p.source) xs i x y at e.source ∙ c.loop-place.invariant.sources;
      counts = each-take (HasPolls none_yet) xs i y within c.loop-place.invariant.counts e.stands;
    }
