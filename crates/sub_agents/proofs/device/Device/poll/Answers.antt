use Rattle.std.proofs.Common.{◌≡◌, ℕ, true, List, sym, ap, subst}
use Rattle.sub_agents.specs.SubAgents.{SubAgentState, StandsFor}
use Rattle.sub_agents.specs.Devices.{DeviceState, with_sub}
use Rattle.sub_agents.proofs.Homes.{read-is}
use Rattle.sub_agents.specs.Polls.{Polls, counters_fit}
use Rattle.sub_agents.proofs.device.Device.poll.Goals as goal

pub returns-clause-polls : goal.returns-clause-polls
returns-clause-polls g c = λ s b at stands fits.
    let d : DeviceState = c.args.self.now in
    let i : ℕ = c.args.sub in
    let r : SubAgentState = c.index_mut.result.now in
    let subs : List SubAgentState = c.self.inside.subs.items in
    let view : subs ≡ d.subs = ap (λ (k : DeviceState). k.subs) c.self.view_is in
    let same : r ≡ s = read-is d subs i s r view at c.index_mut.ensures.value in
    let new : SubAgentState = c.poll.new.self in (
      new,
      ap (λ (k : DeviceState). with_sub i new k) c.self.view_is,
      subst (λ (k : SubAgentState). Polls g.M.Meter.gives g.M.Meter.faults k new b c.args.uptime c.args.meter.now c.poll.new.meter c.poll.result)
          same
          (c.poll.ensures.polls b (subst (λ (k : SubAgentState). StandsFor k b) (sym same) stands)
          (subst (λ (k : SubAgentState). counters_fit k ≡ true) (sym same) fits)),
    )
