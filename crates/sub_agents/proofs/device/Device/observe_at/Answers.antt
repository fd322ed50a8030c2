use Rattle.std.proofs.Common.{◌≡◌, ◌∙◌, ℕ, true, List, length, set, refl, sym, ap, subst, arith}
use Rattle.std.specs.Prelude.{slice_get}
use Rattle.std.specs.declared.option.Option.TheVariants.{Some}
use Rattle.sub_agents.specs.SubAgents.{SubAgentState, StandsFor, with_event}
use Rattle.sub_agents.specs.Devices.{DeviceState, StandForEach}
use Rattle.sub_agents.proofs.Homes.{boot-at, stand-set, set-same, found, on-err, if-ok, read-is, within-get}
use Rattle.agent_spec.specs.Events.{Observe}
use Rattle.sub_agents.specs.Packets.{packet_of}
use Rattle.sub_agents.specs.Answers.{refusal}
use Rattle.sub_agents.proofs.device.Device.observe_at.Goals as goal

pub index_mut-requires : goal.index_mut-requires
index_mut-requires c =
    let d : DeviceState = c.args.self.now in
    let h = found true c.args.source d.subs c.args.place c.requires in
    let view : c.self.inside.subs.items ≡ d.subs = ap (λ (k : DeviceState). k.subs) c.self.view_is in
    omega (arith, ap length view, within-get d.subs c.args.place h.sub h.at, c.self.inside.subs.ok.0)

pub returns-clause-refused : goal.returns-clause-refused
returns-clause-refused c =
    let d : DeviceState = c.args.self.now in
    let h = found true c.args.source d.subs c.args.place c.requires in
    let s : SubAgentState = c.index_mut.result.now in
    let view : c.self.inside.subs.items ≡ d.subs = ap (λ (k : DeviceState). k.subs) c.self.view_is in
    let same : s ≡ h.sub = read-is d c.self.inside.subs.items c.args.place h.sub s view h.at c.index_mut.ensures.value in
    c.observe.ensures.refused
    ∙ ap (λ (k : SubAgentState). refusal k c.args.source c.args.packet.now) same
    ∙ sym (h.refuses c.args.packet.now refl)

pub returns-clause-unchanged : goal.returns-clause-unchanged
returns-clause-unchanged c =
    let d : DeviceState = c.args.self.now in
    let h = found true c.args.source d.subs c.args.place c.requires in
    let s : SubAgentState = c.index_mut.result.now in
    let subs : List SubAgentState = c.self.inside.subs.items in
    let view : subs ≡ d.subs = ap (λ (k : DeviceState). k.subs) c.self.view_is in
    let same : s ≡ h.sub = read-is d subs c.args.place h.sub s view h.at c.index_mut.ensures.value in
    let here : slice_get subs c.args.place ≡ Some s =
    ap (λ (l : List SubAgentState). slice_get l c.args.place) view ∙ h.at ∙ ap (λ (k : SubAgentState). Some k) (sym same) in
    on-err c.observe.result
    (λ e. ap (λ (l : List SubAgentState). record { form = c.self.inside.form; subs = l })
    (ap (λ (k : SubAgentState). set subs c.args.place k) e ∙ set-same subs c.args.place s here) ∙ c.self.view_is)
    c.observe.ensures.unchanged

pub returns-clause-stands : goal.returns-clause-stands
returns-clause-stands c = λ boots each.
    let d : DeviceState = c.args.self.now in
    let i : ℕ = c.args.place in
    let h = found true c.args.source d.subs i c.requires in
    let s : SubAgentState = c.index_mut.result.now in
    let new : SubAgentState = c.observe.new.self in
    let subs : List SubAgentState = c.self.inside.subs.items in
    let view : subs ≡ d.subs = ap (λ (k : DeviceState). k.subs) c.self.view_is in
    let same : s ≡ h.sub = read-is d subs i h.sub s view h.at c.index_mut.ensures.value in
    let b = boot-at d.subs boots i h.sub each h.at in
    if-ok c.observe.result (λ seen g. (
      b.0,
      g.0,
      b.1,
      g.1,
      g.2,
      g.3,
      subst (λ (l : List SubAgentState). StandForEach (set l i new)
          (set boots i (with_event (Observe g.0 (packet_of c.args.packet.now)) b.0))) (sym view)
          (stand-set d.subs boots i new (with_event (Observe g.0 (packet_of c.args.packet.now)) b.0) each g.4),
    )) (c.observe.ensures.stands b.0 (subst (λ (k : SubAgentState). StandsFor k b.0) (sym same) b.2))
