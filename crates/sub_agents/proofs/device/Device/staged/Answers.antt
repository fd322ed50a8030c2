use Rattle.std.proofs.Common.{◌≡◌, List, sym, ap, subst}
use Rattle.sub_agents.specs.SubAgents.{SubAgentState, StandsFor}
use Rattle.sub_agents.specs.Devices.{DeviceState}
use Rattle.sub_agents.proofs.Homes.{read-is}
use Rattle.sub_agents.proofs.device.Device.staged.Goals as goal

pub returns : goal.returns
returns c = λ s b at stands.
    let d : DeviceState = c.args.self.now in
    let r : SubAgentState = c.index.result.now in
    let subs : List SubAgentState = c.self.inside.subs.items in
    let view : subs ≡ d.subs = ap (λ (k : DeviceState). k.subs) c.self.view_is in
    let same : r ≡ s = read-is d subs c.args.sub s r view at c.index.ensures in
    c.staged.ensures.staged b (subst (λ (k : SubAgentState). StandsFor k b) (sym same) stands)
