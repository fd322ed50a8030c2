use Rattle.std.proofs.Common.{◌≡◌, ℕ, List, sym, ap, subst}
use Rattle.sub_agents.specs.SubAgents.{SubAgentState, StandsFor}
use Rattle.sub_agents.specs.Devices.{DeviceState, with_sub}
use Rattle.sub_agents.proofs.Homes.{read-is}
use Rattle.sub_agents.proofs.device.Device.send.Goals as goal

pub returns-clause-sends : goal.returns-clause-sends
returns-clause-sends g c = λ s b at stands.
    let d : DeviceState = c.args.self.now in
    let i : ℕ = c.args.sub in
    let r : SubAgentState = c.index_mut.result.now in
    let subs : List SubAgentState = c.self.inside.subs.items in
    let view : subs ≡ d.subs = ap (λ (k : DeviceState). k.subs) c.self.view_is in
    let same : r ≡ s = read-is d subs i s r view at c.index_mut.ensures.value in
    let new : SubAgentState = c.send.new.self in (
      new,
      ap (λ (k : DeviceState). with_sub i new k) c.self.view_is,
      c.send.ensures.sends b (subst (λ (k : SubAgentState). StandsFor k b) (sym same) stands),
    )
