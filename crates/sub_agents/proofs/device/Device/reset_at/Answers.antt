use Rattle.std.proofs.Common.{◌≡◌, ◌∙◌, ℕ, List, length, set, sym, ap, subst, arith}
use Rattle.sub_agents.specs.SubAgents.{SubAgentState, StandsFor, with_event}
use Rattle.sub_agents.specs.Devices.{DeviceState, StandForEach}
use Rattle.sub_agents.proofs.Homes.{boot-at, stand-set, found, on-ok, read-is, within-get, isnt-err}
use Rattle.agent_spec.specs.Events.{Reset}
use Rattle.agent_setups.specs.Ids.{is_among}
use Rattle.sub_agents.specs.Answers.{source_of_kind, sources_of_kind}
use Rattle.sub_agents.proofs.device.Device.reset_at.Goals as goal

pub index_mut-requires : goal.index_mut-requires
index_mut-requires c =
    let d : DeviceState = c.args.self.now in
    let h = found c.args.flow c.args.source d.subs c.args.place c.requires in
    let view : c.self.inside.subs.items ≡ d.subs = ap (λ (k : DeviceState). k.subs) c.self.view_is in
    omega (arith, ap length view, within-get d.subs c.args.place h.sub h.at, c.self.inside.subs.ok.0)

pub returns-clause-reset : goal.returns-clause-reset
returns-clause-reset c =
    let d : DeviceState = c.args.self.now in
    let i : ℕ = c.args.place in
    let h = found c.args.flow c.args.source d.subs i c.requires in
    let s : SubAgentState = c.index_mut.result.now in
    let view : c.self.inside.subs.items ≡ d.subs = ap (λ (k : DeviceState). k.subs) c.self.view_is in
    let same : s ≡ h.sub = read-is d c.self.inside.subs.items i h.sub s view h.at c.index_mut.ensures.value in
    isnt-err c.reset.result (is_among c.args.source (sources_of_kind c.args.flow s))
    (ap (λ (k : SubAgentState). is_among c.args.source (sources_of_kind c.args.flow k)) same ∙ h.has) c.reset.ensures.refused

pub returns-clause-stands : goal.returns-clause-stands
returns-clause-stands c = λ boots each.
    let d : DeviceState = c.args.self.now in
    let i : ℕ = c.args.place in
    let h = found c.args.flow c.args.source d.subs i c.requires in
    let s : SubAgentState = c.index_mut.result.now in
    let new : SubAgentState = c.reset.new.self in
    let subs : List SubAgentState = c.self.inside.subs.items in
    let view : subs ≡ d.subs = ap (λ (k : DeviceState). k.subs) c.self.view_is in
    let same : s ≡ h.sub = read-is d subs i h.sub s view h.at c.index_mut.ensures.value in
    let b = boot-at d.subs boots i h.sub each h.at in
    on-ok c.reset.result (λ g. (
      b.0,
      b.1,
      subst (λ (l : List SubAgentState). StandForEach (set l i new)
          (set boots i (with_event (Reset (source_of_kind c.args.flow c.args.source)) b.0))) (sym view)
          (stand-set d.subs boots i new (with_event (Reset (source_of_kind c.args.flow c.args.source)) b.0) each g),
    )) (c.reset.ensures.stands b.0 (subst (λ (k : SubAgentState). StandsFor k b.0) (sym same) b.2))
