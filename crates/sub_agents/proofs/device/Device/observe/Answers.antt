use Rattle.std.proofs.Common.{◌∙◌, true, refl, sym}
use Rattle.sub_agents.proofs.Homes.{found-none}
use Rattle.sub_agents.proofs.device.Device.observe.Goals as goal

pub returns-in_default-clause-refused : goal.returns-in_default-clause-refused
returns-in_default-clause-refused c =
    sym ((found-none true c.args.source c.args.self.now.subs (sym c.home.ensures ∙ c.in_default.is)).refuses
    c.args.packet.now refl)
